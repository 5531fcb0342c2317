-- The theorem: the steps from the start on say the reports of the list of files, one after the other, and then the plain sums over them; never `Strange`. Assumes nothing.
use mathlib.Core.Path.{◌≡◌, refl, sym, ap, ◌∙◌, subst}
use mathlib.Core.List.{List, [], ◌∷◌}
use Prim.Native.Nat.{ℕ, zero, suc, ◌+◌, ◌-◌, ◌≤◌, ◌<◌}
use native.Mathlib.Omega.{arith}
use lib.ListN.{length}
use Rattle.night_spec.specs.Spool.{most_files, record_at, part, Spool, spool_from, spool_of, files_of, end_of, spool_for, Spoolable}
use Rattle.night_spec.specs.Night.{report_as, reports_of, with_report, totals_of, night_of}
use Rattle.night_spec.specs.Steps.{no_progress, step_of, answer_of, Goes, over_at, stopped_at, file_at}
use Rattle.night_spec.specs.declared.Totals.{Totals}
use Rattle.night_spec.specs.declared.Progress.{Progress}
use Rattle.spool_record.proofs.Files.{spooled_back}
use Rattle.spool_record.proofs.SpoolLaws.{file_in, spool_over, spool_stopped, spool_file}
use Rattle.file_tally.proofs.Widths.{report_in}
use Rattle.night_totals.specs.Bounds.{TotalsIn}
use Rattle.night_totals.proofs.TotalLaws.{plus, plus_report, plus_none, none_plus, none_in, more_in}
use Rattle.night_step.proofs.StepLaws.{in_legal}
use Rattle.std.specs.Prelude.{Option, Some, None, Result, Ok, Err, ⊤}
use Rattle.label_spec.specs.declared.Span.{Span}
use Rattle.terms.specs.declared.Fault.{Fault}
use Rattle.terms.specs.declared.Refusal.{Refusal}
use Rattle.night_spec.specs.declared.Account.{Account}

module _ (space : ℕ) (s : List ℕ) where
  -- what is to be told of a spool from there on
  abbrev Says : Progress → List (Result Account Refusal) → Totals → Result ⊤ Fault → Type 0
  Says p rs t e = Goes space s p rs (record { totals = t; end = e })

  abbrev Tells : Progress → Spool → Type 0
  Tells p rest = Says p (reports_of space (files_of rest)) (plus p.totals (totals_of (reports_of space (files_of rest)))) (end_of rest)

  -- a walk that has come so far is answered by what stands there
  answer_is : (left : ℕ) (p : Progress) → p.seen + left ≡ most_files → TotalsIn p.seen p.totals → answer_of space s p ≡ step_of space s p (record_at left s p.at)
  answer_is left p e h =
      let z : most_files - p.seen ≡ left = omega (arith, e) in rw (in_legal p (omega (arith, e)) h, z) refl

  module _ (left : ℕ) (p : Progress) (e : p.seen + left ≡ most_files) (h : TotalsIn p.seen p.totals) where
    tells_step : ((q : Progress) → 0 < left → q.seen + (left - 1) ≡ most_files → TotalsIn q.seen q.totals → Tells q (spool_from (left - 1) s q.at))
        → (x : Result (Option Span) Fault) → x ≡ record_at left s p.at → Tells p (spool_from left s p.at)
    unfolding files_of end_of reports_of totals_of
    tells_step ih (Ok None) g =
        rw (spool_over left s p.at g)
        (subst (λ t. Says p [] t (Ok tt)) (sym (plus_none p.totals)) (over_at (answer_is left p e h ∙ ap (step_of space s p) (sym g))))
    tells_step ih (Err r) g =
        rw (spool_stopped left s p.at r g)
        (subst (λ t. Says p [] t (Err r)) (sym (plus_none p.totals)) (stopped_at (answer_is left p e h ∙ ap (step_of space s p) (sym g))))
    tells_step ih (Ok (Some x)) g =
        let f = part s x.from x.to in let r = report_as space f in let rest = spool_from (left - 1) s x.to in let z = file_in left s p.at g in
        let q : Progress = record { at = x.to; seen = suc p.seen; totals = with_report r p.totals } in
        rw (spool_file left s p.at x.from x.to g)
        (subst (λ t. Says p (r ∷ reports_of space (files_of rest)) t (end_of rest)) (plus_report r p.totals (totals_of (reports_of space (files_of rest))))
        (file_at (answer_is left p e h ∙ ap (step_of space s p) (sym g)) (ih q z.2 (omega (arith, e, z.2)) (more_in r h (report_in space f)))))

  tells : (left : ℕ) (p : Progress) → p.seen + left ≡ most_files → TotalsIn p.seen p.totals → Tells p (spool_from left s p.at)
  tells zero p e h = tells_step zero p e h (λ q l k b. absurd (omega (arith, l))) (record_at zero s p.at) refl
  tells (suc left) p e h =
      let z : suc left - 1 ≡ left = omega arith in
      tells_step (suc left) p e h (λ q l k b. rw z (tells left q (rw z at k) b)) (record_at (suc left) s p.at) refl

  -- "the report is the same sums that a plain definition over the list of files gives"
  pub steps_tell : Goes space s no_progress (reports_of space (files_of (spool_of s))) (night_of space s)
  unfolding night_of
  steps_tell =
      let all = reports_of space (files_of (spool_of s)) in
      subst (λ t. Says no_progress all t (end_of (spool_of s))) (none_plus (totals_of all)) (tells most_files no_progress (omega arith) (none_in 0))

-- of a spool that was made of files: the totals over those files, and that it is whole
pub night_of_files : (space : ℕ) (fs : List (List ℕ)) → length fs ≤ most_files → Spoolable fs → night_of space (spool_for fs) ≡ record { totals = totals_of (reports_of space fs); end = Ok tt }
unfolding night_of
night_of_files space fs h g = let z = spooled_back fs h g in rw (z.0, z.1) refl
