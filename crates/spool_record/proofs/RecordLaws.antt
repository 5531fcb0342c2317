-- What stands at a place of a spool, case by case. No place of the code is named here. Assumes nothing.
use mathlib.Core.Path.{◌≡◌, refl}
use mathlib.Core.List.{List}
use Prim.Native.Nat.{ℕ, ◌+◌, ◌-◌, ◌≤◌, ◌<◌}
use lib.ListN.{length, get_or}
use borrow.Author.Tests.{le-leb, lt-leb, le-ltb, lt-ltb, eq-eqb, ne_eqb}
use Rattle.night_spec.specs.Spool.{record_at, length_at, refused_at}
use Rattle.std.specs.Prelude.{Some, None, Ok}
use Rattle.label_spec.specs.Parts.{span_of}

module _ (left : ℕ) (s : List ℕ) (p : ℕ) where
  pub record_over : length s ≤ p → record_at left s p ≡ Ok None
  unfolding record_at
  record_over h = rw (le-leb (length s) p h) refl

  module _ (l : p < length s) where
    pub record_full : left ≡ 0 → record_at left s p ≡ refused_at 36 p
    unfolding record_at
    record_full h = rw (lt-leb (length s) p l, eq-eqb left 0 h) refl

    module _ (some : left ≡ 0 → ⊥) where
      pub record_short : length s - p < 5 → record_at left s p ≡ refused_at 35 p
      unfolding record_at
      record_short h = rw (lt-leb (length s) p l, ne_eqb left 0 some, lt-ltb (length s - p) 5 h) refl

      module _ (room : 5 ≤ length s - p) where
        pub record_first : (get_or s p 0 ≡ 74 → ⊥) → record_at left s p ≡ refused_at 34 p
        unfolding record_at
        record_first h = rw (lt-leb (length s) p l, ne_eqb left 0 some, le-ltb (length s - p) 5 room, ne_eqb (get_or s p 0) 74 h) refl

        module _ (first : get_or s p 0 ≡ 74) where
          pub record_second : (get_or s (p + 1) 0 ≡ 68 → ⊥) → record_at left s p ≡ refused_at 34 p
          unfolding record_at
          record_second h = rw (lt-leb (length s) p l, ne_eqb left 0 some, le-ltb (length s - p) 5 room, eq-eqb (get_or s p 0) 74 first, ne_eqb (get_or s (p + 1) 0) 68 h) refl

          module _ (second : get_or s (p + 1) 0 ≡ 68) where
            pub record_long : length s - p - 5 < length_at s p → record_at left s p ≡ refused_at 35 p
            unfolding record_at
            record_long h =
                rw (
                  lt-leb (length s) p l,
                  ne_eqb left 0 some,
                  le-ltb (length s - p) 5 room,
                  eq-eqb (get_or s p 0) 74 first,
                  eq-eqb (get_or s (p + 1) 0) 68 second,
                  lt-leb (length_at s p)
                      (length s - p - 5) h,
                ) refl

            pub record_file : length_at s p ≤ length s - p - 5 → record_at left s p ≡ Ok (Some (span_of (p + 5) (p + 5 + length_at s p)))
            unfolding record_at
            record_file h =
                rw (
                  lt-leb (length s) p l,
                  ne_eqb left 0 some,
                  le-ltb (length s - p) 5 room,
                  eq-eqb (get_or s p 0) 74 first,
                  eq-eqb (get_or s (p + 1) 0) 68 second,
                  le-leb (length_at s p)
                      (length s - p - 5) h,
                ) refl
