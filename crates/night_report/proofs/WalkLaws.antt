-- The turns of the walk: what the totals so far and the rest of the spool come to is what the whole spool comes to. No place of the code is named here. Assumes nothing.
use mathlib.Core.Path.{◌≡◌, refl, sym, ap, ◌∙◌}
use mathlib.Core.List.{List, []}
use Prim.Native.Nat.{ℕ, suc, ◌-◌, ◌≤◌}
use native.Mathlib.Omega.{arith}
use lib.IntN.{ℤ}
use lib.ListN.{length}
use Rattle.terms.specs.declared.Fault.{Fault}
use Rattle.file_spec.specs.File.{read_file}
use Rattle.file_law.specs.Stored.{stored_length}
use Rattle.night_spec.specs.Spool.{record_at, part, spool_from, spool_of, files_of, end_of}
use Rattle.night_spec.specs.Night.{report_as, reports_of, no_files, with_report, totals_of, left_by, night_of}
use Rattle.night_spec.specs.declared.Totals.{Totals}
use Rattle.spool_record.proofs.SpoolLaws.{file_in, spool_over, spool_stopped, spool_file}
use Rattle.ordinate_account.specs.Bounds.{ReportIn}
use Rattle.file_tally.specs.Says.{ReportSays}
use Rattle.file_tally.proofs.Widths.{report_in}
use Rattle.night_totals.specs.Bounds.{TotalsIn}
use Rattle.night_report.specs.Says.{NightSays}
use Rattle.night_totals.proofs.TotalLaws.{plus, plus_report, plus_none, none_plus, none_in, more_in}
use Rattle.std.specs.Prelude.{Some, None, Result, Ok, Err, ⊤}
use Rattle.terms.specs.declared.Refusal.{Refusal}
use Rattle.night_spec.specs.declared.Account.{Account}
use Rattle.label_spec.specs.Parts.{span_of}

-- the totals over a spool's files from a place on, with room for so many ordinates
abbrev pub rest_totals : ℕ → ℕ → List ℕ → ℕ → Totals
rest_totals space left s at = totals_of (reports_of space (files_of (spool_from left s at)))

-- the walk stands at a place, where so many files may still come, with these totals and the lent slice so far
pub record Walked (s : List ℕ) (out₀ : List ℤ) (at left : ℕ) (t : Totals) (out : List ℤ) : Type 0 where
  pub high : left ≤ 1000
  pub bounds : TotalsIn (1000 - left) t
  pub same : length out ≡ length out₀
  pub adds : plus t (rest_totals (length out₀) left s at) ≡ rest_totals (length out₀) 1000 s 0
  pub ends : end_of (spool_from left s at) ≡ end_of (spool_of s)
  pub rests : left_by out (files_of (spool_from left s at)) ≡ left_by out₀ (files_of (spool_of s))

pub walked_start : (s : List ℕ) (out : List ℤ) → Walked s out 0 1000 no_files out
walked_start s out = record { high = omega arith; bounds = none_in 0; same = refl; adds = none_plus (rest_totals (length out) 1000 s 0); ends = refl; rests = refl }

-- the report that was told is within its bounds
pub told_in : {f : List ℕ} {out out' : List ℤ} {r : Result Account Refusal} → ReportSays f out out' r → ReportIn r
told_in {f} {out} x = rw x.answers (report_in (length out) f)

-- one file more
pub walked_file : {s : List ℕ} {out₀ : List ℤ} {at left : ℕ} {t : Totals} {out out' : List ℤ} {a b : ℕ} {r : Result Account Refusal}
    → Walked s out₀ at left t out → Ok (Some (span_of a b)) ≡ record_at left s at → ReportSays (part s a b) out out' r → Walked s out₀ b (left - 1) (with_report r t) out'
unfolding files_of end_of reports_of totals_of left_by
walked_file {s} {out₀} {at} {left} {t} {out} {out'} {a} {b} {r} w e x =
    let sp = spool_file left s at a b e in let z = file_in left s at e in let f = part s a b in let rest = spool_from (left - 1) s b in let high = w.high in
    let more : suc (1000 - left) ≡ 1000 - (left - 1) = omega (arith, z.2) in
    let adds = rw sp at w.adds in
    let rests = rw sp at w.rests in
    let told : r ≡ report_as (length out₀) f = x.answers ∙ ap (λ n. report_as n f) w.same in
    let T = rest_totals (length out₀) (left - 1) s b in
    record {
      high = omega arith;
      bounds = rw more at (more_in r w.bounds (told_in x));
      same = ap length x.left ∙ stored_length out (read_file f (length out)) ∙ w.same;
      adds = plus_report r t T ∙ ap (λ q. plus t (with_report q T)) told ∙ adds;
      ends = ap end_of (sym sp) ∙ w.ends;
      rests = ap (λ y. left_by y (files_of rest)) x.left ∙ rests;
    }

-- no file more
walked_end : {s : List ℕ} {out₀ : List ℤ} {at left : ℕ} {t : Totals} {out : List ℤ} (e : Result ⊤ Fault)
    → Walked s out₀ at left t out → files_of (spool_from left s at) ≡ [] → end_of (spool_from left s at) ≡ e → NightSays s out₀ out (record { totals = t; end = e })
unfolding night_of reports_of totals_of left_by
walked_end {s} {out₀} {at} {left} {t} {out} e w none last =
    let adds = rw none at w.adds in
    let rests = rw none at w.rests in
    let T : t ≡ rest_totals (length out₀) 1000 s 0 = sym (plus_none t) ∙ adds in
    let E : e ≡ end_of (spool_of s) = sym last ∙ w.ends in
    record { answers = rw (T, E) refl; left = rests }

module _ {s : List ℕ} {out₀ : List ℤ} {at left : ℕ} {t : Totals} {out : List ℤ} (w : Walked s out₀ at left t out) where
  pub walked_over : (Ok None) ≡ record_at left s at → NightSays s out₀ out (record { totals = t; end = Ok tt })
  unfolding files_of end_of
  walked_over e = let sp = spool_over left s at e in walked_end (Ok tt) w (rw sp refl) (rw sp refl)

  pub walked_stopped : {r : Fault} → Err r ≡ record_at left s at → NightSays s out₀ out (record { totals = t; end = Err r })
  unfolding files_of end_of
  walked_stopped {r} e = let sp = spool_stopped left s at r e in walked_end (Err r) w (rw sp refl) (rw sp refl)
