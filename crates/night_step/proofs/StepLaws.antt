-- What a step of the walk answers, case by case. No place of the code is named here. Assumes nothing.
use mathlib.Core.Path.{◌≡◌, refl, sym, ap, ◌∙◌}
use mathlib.Core.Bool.{true, false}
use mathlib.Core.List.{List}
use Prim.Native.Nat.{ℕ, suc, ◌*◌, ◌≤◌}
use lib.Dec.{leb}
use lib.IntN.{ℤ, nat_abs}
use lib.ListN.{length}
use borrow.Author.Tests.{leb-true, le-leb}
use Rattle.terms.specs.Logic.{both, both_true}
use Rattle.terms.specs.declared.Fault.{Fault}
use Rattle.table_spec.specs.Frame.{most_points}
use Rattle.night_spec.specs.Spool.{most_files, part}
use Rattle.night_spec.specs.Night.{report_as, with_report}
use Rattle.night_spec.specs.Steps.{largest_sum, totals_legal, walk_legal, standing}
use Rattle.night_spec.specs.declared.Totals.{Totals}
use Rattle.night_spec.specs.declared.Progress.{Progress}
use Rattle.night_spec.specs.declared.Reported.TheVariants as reported
use Rattle.file_tally.specs.Says.{ReportSays}
use Rattle.night_totals.specs.Bounds.{TotalsIn}
use Rattle.night_step.specs.Says.{NextSays}
use Rattle.std.specs.Prelude.{Some, None, Result, Ok, Err}
use Rattle.terms.specs.declared.Refusal.{Refusal}
use Rattle.night_spec.specs.declared.Account.{Account}
use Rattle.label_spec.specs.Parts.{span_of}

-- ---- what a walk can have come to

totals_in : (k : ℕ) (t : Totals) → totals_legal k t ≡ true → TotalsIn k t
unfolding totals_legal
totals_in k t e =
    let q = leb t.files k in let r = leb t.points (k * most_points) in let u = leb t.missing t.points in let v = leb (nat_abs t.sum) (k * largest_sum) in
    let x = both_true q (both r (both u v)) e in let y = both_true r (both u v) x.1 in let z = both_true u v y.1 in
    record {
      files = leb-true t.files k x.0;
      points = leb-true t.points (k * most_points) y.0;
      missing = leb-true t.missing t.points z.0;
      sum = leb-true (nat_abs t.sum) (k * largest_sum) z.1;
    }

pub legal_in : (p : Progress) → walk_legal p ≡ true → (p.seen ≤ most_files) × TotalsIn p.seen p.totals
unfolding walk_legal
legal_in p e =
    let x = both_true (leb p.seen most_files) (totals_legal p.seen p.totals) e in (leb-true p.seen most_files x.0, totals_in p.seen p.totals x.1)

pub in_legal : (p : Progress) → p.seen ≤ most_files → TotalsIn p.seen p.totals → walk_legal p ≡ true
unfolding walk_legal totals_legal
in_legal p h b =
    let t = p.totals in let k = p.seen in
    rw (
      le-leb k most_files h,
      le-leb t.files k b.files,
      le-leb t.points (k * most_points) b.points,
      le-leb t.missing t.points b.missing,
      le-leb (nat_abs t.sum) (k * largest_sum) b.sum,
    ) refl

-- ---- what a step answers

module _ {s : List ℕ} {p : Progress} {out : List ℤ} where
  pub next_strange : walk_legal p ≡ false → NextSays s p out out reported.Strange
  next_strange l = record { answers = rw l refl; left = rw l refl }

  module _ (l : walk_legal p ≡ true) where
    pub next_over : (Ok None) ≡ standing s p → NextSays s p out out (reported.Over p.totals)
    next_over e = record { answers = rw (l, sym e) refl; left = rw (l, sym e) refl }

    pub next_stopped : {r : Fault} → Err r ≡ standing s p → NextSays s p out out (reported.Refused r p.totals)
    next_stopped e = record { answers = rw (l, sym e) refl; left = rw (l, sym e) refl }

    pub next_file : {out' : List ℤ} {a b : ℕ} {q : Result Account Refusal} {t : Totals} → Ok (Some (span_of a b)) ≡ standing s p → ReportSays (part s a b) out out' q → t ≡ with_report q p.totals
        → NextSays s p out out' (reported.File q (record { at = b; seen = suc p.seen; totals = t }))
    next_file {out'} {a} {b} {q} {t} e x h =
        let k = x.answers in let m : t ≡ with_report (report_as (length out) (part s a b)) p.totals = h ∙ ap (λ y. with_report y p.totals) k in
        record { answers = rw (l, sym e, m, k) refl; left = rw (l, sym e) x.left }
