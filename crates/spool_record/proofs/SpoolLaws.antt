-- A record is a part of the spool, and what a spool is from a place on. No place of the code is named here. Assumes nothing.
use mathlib.Core.Path.{◌≡◌, refl, sym}
use mathlib.Core.List.{List}
use Prim.Native.Nat.{ℕ, zero, suc, ◌+◌, ◌-◌, ◌≤◌, ◌<◌}
use native.Mathlib.Omega.{arith}
use lib.Dec.{ltb, leb, eqb}
use lib.ListN.{length, get_or}
use borrow.Author.Tests.{leb-true, leb-false, ltb-true, ltb-false, eqb-true, eqb-false}
use Rattle.terms.specs.Logic.{by_case}
use Rattle.terms.specs.declared.Fault.{Fault}
use Rattle.night_spec.specs.Spool.{record_at, length_at, part, over, stopped, file, spool_from}
use Rattle.spool_record.proofs.RecordLaws.{record_over, record_full, record_short, record_first, record_second, record_long, record_file}
use Rattle.std.specs.Prelude.{Option, Some, None, Result, Ok, Err}
use Rattle.label_spec.specs.declared.Span.{Span}
use Rattle.label_spec.specs.Parts.{span_of}

-- ---- a record is a part of the spool

-- a file stands within the spool, and only where one may still come
abbrev pub RecordIn : ℕ → ℕ → Result (Option Span) Fault → Type 0
RecordIn len left (Ok None) = Unit {0}
RecordIn len left (Err r) = Unit {0}
RecordIn len left (Ok (Some x)) = (x.from ≤ x.to) × (x.to ≤ len) × (0 < left)

module _ (left : ℕ) (s : List ℕ) (p : ℕ) where
  abbrev In : Type 0
  In = RecordIn (length s) left (record_at left s p)

  in_file_lem : p < length s → (left ≡ 0 → ⊥) → 5 ≤ length s - p → get_or s p 0 ≡ 74 → get_or s (p + 1) 0 ≡ 68 → In
  in_file_lem l m r x y =
      by_case (λ q. leb (length_at s p) (length s - p - 5) ≡ q → In) (leb (length_at s p) (length s - p - 5))
      (λ _ e. let z = leb-true (length_at s p) (length s - p - 5) e in rw (record_file left s p l m r x y z) (omega arith, omega (arith, z), omega (arith, m)))
      (λ _ e. rw (record_long left s p l m r x y (leb-false (length_at s p) (length s - p - 5) e)) tt) refl

  in_marked : p < length s → (left ≡ 0 → ⊥) → 5 ≤ length s - p → In
  in_marked l m r =
      by_case (λ q. eqb (get_or s p 0) 74 ≡ q → In) (eqb (get_or s p 0) 74)
      (λ _ e. by_case (λ q. eqb (get_or s (p + 1) 0) 68 ≡ q → In) (eqb (get_or s (p + 1) 0) 68)
      (λ _ f. in_file_lem l m r (eqb-true (get_or s p 0) 74 e) (eqb-true (get_or s (p + 1) 0) 68 f))
      (λ _ f. rw (record_second left s p l m r (eqb-true (get_or s p 0) 74 e) (eqb-false (get_or s (p + 1) 0) 68 f)) tt) refl)
      (λ _ e. rw (record_first left s p l m r (eqb-false (get_or s p 0) 74 e)) tt) refl

  in_some : p < length s → (left ≡ 0 → ⊥) → In
  in_some l m =
      by_case (λ q. ltb (length s - p) 5 ≡ q → In) (ltb (length s - p) 5)
      (λ _ e. rw (record_short left s p l m (ltb-true (length s - p) 5 e)) tt) (λ _ e. in_marked l m (ltb-false (length s - p) 5 e)) refl

  pub record_in_lem : In
  record_in_lem =
      by_case (λ q. leb (length s) p ≡ q → In) (leb (length s) p)
      (λ _ e. rw (record_over left s p (leb-true (length s) p e)) tt)
      (λ _ e. let l = leb-false (length s) p e in
      by_case (λ q. eqb left 0 ≡ q → In) (eqb left 0) (λ _ f. rw (record_full left s p l (eqb-true left 0 f)) tt) (λ _ f. in_some l (eqb-false left 0 f)) refl) refl

  pub file_in : {a b : ℕ} → Ok (Some (span_of a b)) ≡ record_at left s p → (a ≤ b) × (b ≤ length s) × (0 < left)
  file_in {a} {b} e = rw (sym e) at record_in_lem

-- ---- the spool from a place on

pub spool_over : (left : ℕ) (s : List ℕ) (p : ℕ) → Ok None ≡ record_at left s p → spool_from left s p ≡ over
unfolding spool_from
spool_over zero s p e = rw (sym e) refl
spool_over (suc left) s p e = rw (sym e) refl

pub spool_stopped : (left : ℕ) (s : List ℕ) (p : ℕ) (r : Fault) → Err r ≡ record_at left s p → spool_from left s p ≡ stopped r
unfolding spool_from
spool_stopped zero s p r e = rw (sym e) refl
spool_stopped (suc left) s p r e = rw (sym e) refl

pub spool_file : (left : ℕ) (s : List ℕ) (p a b : ℕ) → Ok (Some (span_of a b)) ≡ record_at left s p → spool_from left s p ≡ file (part s a b) (spool_from (left - 1) s b)
unfolding spool_from
spool_file zero s p a b e = let z = file_in zero s p e in absurd (omega (arith, z.2))
spool_file (suc left) s p a b e = let z : suc left - 1 ≡ left = omega arith in rw (sym e, z) refl
