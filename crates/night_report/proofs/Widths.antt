-- Which widths hold the totals of a night: at most 1,000 files, each with a sum of at most 2^47 in magnitude, make a sum below 2^57, and 64 bits hold it. Assumes nothing.
use mathlib.Core.List.{List, [], ◌∷◌}
use Prim.Native.Nat.{ℕ, zero, suc, ◌≤◌, ◌<◌}
use native.Mathlib.Omega.{arith}
use lib.IntN.{nat_abs}
use lib.ListN.{length}
use Rattle.night_spec.specs.Spool.{Spool, over, follow, record_at, spool_from, spool_of, files_of}
use Rattle.night_spec.specs.Night.{report_as, reports_of, totals_of, night_of}
use Rattle.spool_record.proofs.SpoolLaws.{RecordIn, record_in_lem}
use Rattle.file_tally.proofs.Widths.{report_in}
use Rattle.night_totals.specs.Bounds.{TotalsIn}
use Rattle.night_totals.proofs.TotalLaws.{none_in, wider, more_in}
use Rattle.std.specs.Prelude.{Option, Some, None, Result, Ok, Err}
use Rattle.label_spec.specs.declared.Span.{Span}
use Rattle.terms.specs.declared.Fault.{Fault}

-- ---- at most 1,000 files

follow_most : (k : ℕ) (f : ℕ → Spool) (s : List ℕ) (x : Result (Option Span) Fault) → ((b : ℕ) → length (files_of (f b)) ≤ k) → length (files_of (follow f s x)) ≤ suc k
unfolding files_of
follow_most k f s (Ok None) h = omega arith
follow_most k f s (Err r) h = omega arith
follow_most k f s (Ok (Some x)) h = let z = h x.to in omega (arith, z)

none_left : (len : ℕ) (s : List ℕ) (x : Result (Option Span) Fault) → RecordIn len 0 x → length (files_of (follow (λ _. over) s x)) ≤ 0
unfolding files_of
none_left len s (Ok None) h = omega arith
none_left len s (Err r) h = omega arith
none_left len s (Ok (Some x)) h = absurd (omega (arith, h.2))

files_left : (left : ℕ) (s : List ℕ) (p : ℕ) → length (files_of (spool_from left s p)) ≤ left
unfolding spool_from
files_left zero s p = none_left (length s) s (record_at zero s p) (record_in_lem zero s p)
files_left (suc left) s p = follow_most left (spool_from left s) s (record_at (suc left) s p) (files_left left s)

pub files_most : (s : List ℕ) → length (files_of (spool_of s)) ≤ 1000
files_most s = files_left 1000 s 0

-- ---- the totals over them

totals_over : (space : ℕ) (fs : List (List ℕ)) → TotalsIn (length fs) (totals_of (reports_of space fs))
unfolding totals_of reports_of
totals_over space [] = none_in 0
totals_over space (f ∷ fs) = more_in (report_as space f) (totals_over space fs) (report_in space f)

-- the sum of a night is below 2^57 in magnitude, and its counts are small
pub night_width : (space : ℕ) (s : List ℕ) → (nat_abs (night_of space s).totals.sum < 144115188075855872) × ((night_of space s).totals.points ≤ 65536000)
unfolding night_of
night_width space s =
    let b = wider (files_most s) (totals_over space (files_of (spool_of s))) in (omega (arith, b.sum), omega (arith, b.points))
