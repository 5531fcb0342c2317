-- The turns of finding a record of the profile: no place of the code is named here.
use mathlib.Core.Path.{◌≡◌, refl}
use mathlib.Core.Bool.{true, false}
use mathlib.Core.List.{List}
use Prim.Native.Nat.{ℕ, ◌+◌, ◌≤◌}
use native.Mathlib.Omega.{arith}
use lib.ListN.{length}
use Rattle.label_spec.specs.Labels.{from}
use Rattle.label_spec.specs.Records.{record_of}
use Rattle.label.specs.Answers.{found_in}
use Rattle.label_page.specs.Post.{FindsFrom}
use Rattle.profile_spec.specs.Profile.{on_page, placed, located}
use Rattle.profile_find.specs.Post.{Locates}
use Rattle.std.specs.Prelude.{Option, Some, None}
use Rattle.label_spec.specs.declared.Span.{Span}
use Rattle.label_spec.specs.Parts.{span_of}

-- ---- `find_named`

module _ (s : List ℕ) (start stop : ℕ) (p w : List ℕ) where
  abbrev InFile : Option Span → Type 0
  InFile r = (r ≡ record_of (length s) stop w (from s start false)) × found_in start (length s) r

  pub named_file : (a b : ℕ) → InFile (Some (span_of a b)) → Locates s start stop p w (Some (record { page = false; from = a; to = b }))
  named_file a b x = record { is = (unfold located placed in rw (← x.0) refl); inside = (x.1.1, x.1.2) }

  module _ (x : InFile None) where
    pub named_page : (a b : ℕ) → FindsFrom p 0 (length p) w (Some (span_of a b)) → Locates s start stop p w (Some (record { page = true; from = a; to = b }))
    named_page a b y = record { is = (unfold located placed on_page in rw (← x.0, ← y.0) refl); inside = (y.1.1, y.1.2) }

    pub named_none : FindsFrom p 0 (length p) w None → Locates s start stop p w None
    named_none y = record { is = (unfold located placed on_page in rw (← x.0, ← y.0) refl); inside = tt }

-- ---- `find_kth`: none of the numbers before

pub beyond : (n k : ℕ) → n ≤ k → (k ≡ n → ⊥) → n + 1 ≤ k
beyond n k h g = omega arith
