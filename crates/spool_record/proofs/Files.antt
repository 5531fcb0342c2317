-- The theorem: every list of at most 1,000 files, each below 2^24 bytes, has a spool, which is walked as that list and ends whole. Assumes nothing.
use mathlib.Core.Path.{◌≡◌, refl, sym, ap, ◌∙◌}
use mathlib.Core.List.{List, [], ◌∷◌, ◌++◌}
use Prim.Native.Nat.{ℕ, ◌+◌, ◌-◌, ◌*◌, ◌/◌, ◌%◌, ◌≤◌, ◌<◌}
use native.Mathlib.Omega.{arith}
use native.Mathlib.Nat.{add-zero}
use lib.ListN.{length, get_or, drop, length-append, length-drop}
use lib.Seq.{get_or-drop, drop-drop, take_at, drop_at}
use Rattle.night_spec.specs.Spool.{most_files, record_at, length_at, part, spool_from, spool_of, files_of, end_of, record_for, spool_for, Spoolable}
use Rattle.spool_record.proofs.RecordLaws.{record_over, record_file}
use Rattle.spool_record.proofs.SpoolLaws.{spool_over, spool_file}
use Rattle.std.specs.Prelude.{Some, Ok}
use Rattle.label_spec.specs.Parts.{span_of}

-- three bytes hold a length below 2^24
three_bytes : (n : ℕ) → n < 16777216 → n / 65536 * 65536 + n / 256 % 256 * 256 + n % 256 ≡ n
three_bytes n h = omega arith

-- where a file's record stands, followed by t
module _ (s : List ℕ) (p : ℕ) (f t : List ℕ) (e : drop p s ≡ record_for f ++ t) (h : length f < 16777216) where
  byte : (i : ℕ) → get_or s (p + i) 0 ≡ get_or (record_for f ++ t) i 0
  byte i = sym (get_or-drop p s i 0) ∙ ap (λ l. get_or l i 0) e

  first : get_or s p 0 ≡ 74
  first = rw (add-zero p) at (byte 0)

  long : length s - p ≡ 5 + (length f + length t)
  long = let z = length-append f t in let y = sym (length-drop p s) ∙ ap length e in omega (arith, y, z)

  size : length_at s p ≡ length f
  size = rw (byte 2, byte 3, byte 4) (three_bytes (length f) h)

  stands : (left : ℕ) → 0 < left → Ok (Some (span_of (p + 5) (p + 5 + length f))) ≡ record_at left s p
  stands left l =
      let y = long in let z = size in
      sym (rw (sym size) (record_file left s p (omega (arith, y)) (λ n. omega (arith, l, n)) (omega (arith, y)) first (byte 1) (omega (arith, y, z))))

  inside : part s (p + 5) (p + 5 + length f) ≡ f
  inside = let z : p + 5 + length f - (p + 5) ≡ length f = omega arith in rw (z, sym (drop-drop 5 p s), e) (take_at f t (length f) refl)

  after : drop (p + 5 + length f) s ≡ t
  after = sym (drop-drop (length f) (p + 5) s) ∙ ap (drop (length f)) (sym (drop-drop 5 p s) ∙ ap (drop 5) e) ∙ drop_at f t (length f) refl

walks : (fs : List (List ℕ)) (left : ℕ) (s : List ℕ) (p : ℕ) → length fs ≤ left → Spoolable fs → drop p s ≡ spool_for fs
    → (files_of (spool_from left s p) ≡ fs) × (end_of (spool_from left s p) ≡ Ok tt)
unfolding spool_for Spoolable files_of end_of
walks [] left s p h g e =
    let z = sym (length-drop p s) ∙ ap length e in let o = spool_over left s p (sym (record_over left s p (omega (arith, z)))) in (rw o refl, rw o refl)
walks (f ∷ fs) left s p h g e =
    let t = spool_for fs in let o = spool_file left s p (p + 5) (p + 5 + length f) (stands s p f t e g.0 left (omega (arith, h))) in
    let r = walks fs (left - 1) s (p + 5 + length f) (omega (arith, h)) g.1 (after s p f t e g.0) in
    (rw (o, inside s p f t e g.0) (ap (λ l. f ∷ l) r.0), rw o r.1)

pub spooled_back : (fs : List (List ℕ)) → length fs ≤ most_files → Spoolable fs → (files_of (spool_of (spool_for fs)) ≡ fs) × (end_of (spool_of (spool_for fs)) ≡ Ok tt)
spooled_back fs h g = walks fs most_files (spool_for fs) 0 h g refl
