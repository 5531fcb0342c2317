-- 02, T-11: the walk step by step, "what was reported before stands": how far it has come, what a step answers, and the lent slice afterwards. Assumes nothing.
use Rattle.std.specs.Prelude.{◌≡◌, Bool, List, [], ◌∷◌, ℕ, suc, ◌-◌, ◌*◌, leb, ℤ, nat_abs, Option, Some, None, Result, Ok, Err}
use Rattle.terms.specs.Logic.{pick, both}
use Rattle.terms.specs.declared.Fault.{Fault}
use Rattle.table_spec.specs.Frame.{most_points}
use Rattle.night_spec.specs.Spool.{most_files, record_at, part}
use Rattle.night_spec.specs.Night.{report_as, leaves, no_files, with_report}
use Rattle.night_spec.specs.declared.Totals.{Totals}
use Rattle.night_spec.specs.declared.Night.{Night}
use Rattle.night_spec.specs.declared.Progress.{Progress}
use Rattle.night_spec.specs.declared.Reported.{Reported}
use Rattle.night_spec.specs.declared.Reported.TheVariants as reported
use Rattle.label_spec.specs.declared.Span.{Span}
use Rattle.terms.specs.declared.Refusal.{Refusal}
use Rattle.night_spec.specs.declared.Account.{Account}

-- the start of a walk
abbrev pub no_progress : Progress
no_progress = record { at = 0; seen = 0; totals = no_files }

-- the sum of a file is at most this in magnitude: 65,536 ordinates below 2^31
abbrev pub largest_sum : ℕ
largest_sum = 140737488355328

-- can so many files come to these totals? A step answers `Strange` where they cannot, so that no sum goes beyond its width
unfoldable pub totals_legal : ℕ → Totals → Bool
totals_legal k t = both (leb t.files k) (both (leb t.points (k * most_points)) (both (leb t.missing t.points) (leb (nat_abs t.sum) (k * largest_sum))))

unfoldable pub walk_legal : Progress → Bool
walk_legal p = both (leb p.seen most_files) (totals_legal p.seen p.totals)

-- what stands where the walk has come to: after 1,000 files none may come
abbrev pub standing : List ℕ → Progress → Result (Option Span) Fault
standing s p = record_at (most_files - p.seen) s p.at

-- what a step answers, by what stands there, with room for so many ordinates
abbrev pub step_of : ℕ → List ℕ → Progress → Result (Option Span) Fault → Reported
step_of space s p (Ok None) = reported.Over p.totals
step_of space s p (Err r) = reported.Refused r p.totals
step_of space s p (Ok (Some x)) =
    reported.File (report_as space (part s x.from x.to)) (record { at = x.to; seen = suc p.seen; totals = with_report (report_as space (part s x.from x.to)) p.totals })

abbrev pub answer_of : ℕ → List ℕ → Progress → Reported
answer_of space s p = pick (walk_legal p) (step_of space s p (standing s p)) reported.Strange

-- the lent slice after a step
abbrev pub leaves_at : List ℤ → List ℕ → Result (Option Span) Fault → List ℤ
leaves_at out s (Ok None) = out
leaves_at out s (Err r) = out
leaves_at out s (Ok (Some x)) = leaves out (part s x.from x.to)

abbrev pub step_leaves : List ℤ → List ℕ → Progress → List ℤ
step_leaves out s p = pick (walk_legal p) (leaves_at out s (standing s p)) out

-- ---- the steps of a walk, one after the other

-- from there on the steps say these reports, and the end
pub data Goes (space : ℕ) (s : List ℕ) : Progress → List (Result Account Refusal) → Night → Type 0 where
  over_at : {p : Progress} {t : Totals} → answer_of space s p ≡ reported.Over t → Goes space s p [] (record { totals = t; end = Ok tt })
  stopped_at : {p : Progress} {t : Totals} {r : Fault} → answer_of space s p ≡ reported.Refused r t → Goes space s p [] (record { totals = t; end = Err r })
  file_at : {p q : Progress} {x : Result Account Refusal} {rs : List (Result Account Refusal)} {n : Night} → answer_of space s p ≡ reported.File x q → Goes space s q rs n → Goes space s p (x ∷ rs) n
