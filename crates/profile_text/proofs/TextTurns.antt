-- The text of a record, of the file or of the page: no place of the code is named here.
use mathlib.Core.Path.{◌≡◌, refl}
use mathlib.Core.Bool.{true}
use mathlib.Core.List.{List, []}
use Prim.Native.Nat.{ℕ, ◌-◌}
use lib.ListN.{length, take, drop}
use Rattle.terms.specs.declared.Refusal.{Refusal}
use Rattle.label_spec.specs.Labels.{from}
use Rattle.label_spec.specs.Records.{record_of}
use Rattle.profile_spec.specs.Profile.{on_page, page_text, shown}
use Rattle.std.specs.Prelude.{Option, Some, None, Result, Ok, Err}
use Rattle.label_spec.specs.declared.Span.{Span}
use Rattle.label_spec.specs.Parts.{span_of}

-- ---- `text_of`

module _ (s p w : List ℕ) (r : Result (Option Span) Refusal) where
  pub shown_file : (a b : ℕ) → r ≡ Ok (Some (span_of a b)) → take (b - a) (drop a s) ≡ shown s p w r
  unfolding shown
  shown_file a b e = rw e refl

  pub shown_refused : (q : Refusal) → r ≡ Err q → [] ≡ shown s p w r
  unfolding shown
  shown_refused q e = rw e refl

  module _ (h : r ≡ Ok None) where
    pub shown_page : (a b : ℕ) → Some (span_of a b) ≡ record_of (length p) (length p) w (from p 0 true) → take (b - a) (drop a p) ≡ shown s p w r
    unfolding shown on_page page_text
    shown_page a b e = rw (h, ← e) refl

    pub shown_none : None ≡ record_of (length p) (length p) w (from p 0 true) → [] ≡ shown s p w r
    unfolding shown on_page page_text
    shown_none e = rw (h, ← e) refl
