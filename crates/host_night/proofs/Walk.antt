-- The theorem for a host that walks: six zeros are the start, and what it hands back at each step is how far the step before it came, so the steps tell what `steps_tell` says. Assumes nothing.
use mathlib.Core.Path.{◌≡◌, refl}
use mathlib.Core.Bool.{Bool, true, false}
use mathlib.Core.List.{List, [], ◌∷◌}
use Prim.Native.Nat.{ℕ, suc}
use native.Mathlib.Omega.{arith}
use mir.Syntax.{w64}
use mir.Val.{SFits}
use Rattle.terms.specs.Logic.{pick, zero_one}
use Rattle.night_spec.specs.Spool.{part}
use Rattle.night_spec.specs.Night.{report_as, with_report}
use Rattle.night_spec.specs.Steps.{no_progress, walk_legal, standing, step_of, answer_of}
use Rattle.night_spec.specs.declared.Progress.{Progress}
use Rattle.night_spec.specs.declared.Reported.TheVariants as reported
use Rattle.file_tally.proofs.Widths.{report_in}
use Rattle.night_totals.proofs.SizeLaws.{size_fits}
use Rattle.night_totals.proofs.TotalLaws.{more_in}
use Rattle.night_step.proofs.StepLaws.{legal_in}
use Rattle.night_numbers.specs.Numbers.{numbers_of, progress_of}
use Rattle.night_numbers.proofs.BitLaws.{kept_whole}
use Rattle.std.specs.Prelude.{Option, Some, None, Result, Ok, Err}
use Rattle.label_spec.specs.declared.Span.{Span}
use Rattle.terms.specs.declared.Fault.{Fault}
use Rattle.terms.specs.declared.Refusal.{Refusal}
use Rattle.night_spec.specs.declared.Account.{Account}

pub starts : progress_of (0 ∷ 0 ∷ 0 ∷ 0 ∷ 0 ∷ 0 ∷ []) ≡ no_progress
starts = refl

module _ (space : ℕ) (s : List ℕ) (p q : Progress) (x : Result Account Refusal) where
  sum_fits : (l : Bool) → walk_legal p ≡ l → (y : Result (Option Span) Fault) → pick l (step_of space s p y) reported.Strange ≡ reported.File x q → SFits w64 q.totals.sum
  sum_fits false l y e = zero_one cc
  sum_fits true l (Ok None) e = zero_one cc
  sum_fits true l (Err r) e = zero_one cc
  sum_fits true l (Ok (Some x)) e =
      let r = report_as space (part s x.from x.to) in let h = legal_in p l in let k = more_in r h.1 (report_in space (part s x.from x.to)) in
      let z : q ≡ record { at = x.to; seen = suc p.seen; totals = with_report r p.totals } = cc in
      rw z (size_fits (with_report r p.totals).sum (omega (arith, k.sum, h.0)))

  pub handed_on : answer_of space s p ≡ reported.File x q → progress_of (numbers_of q) ≡ q
  handed_on e = kept_whole q (sum_fits (walk_legal p) refl (standing s p) e)
