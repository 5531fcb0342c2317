-- Where a body is found, stage by stage, and the file once its body is converted. No place of the code is named here. Assumes nothing.
use mathlib.Core.Path.{◌≡◌, refl}
use mathlib.Core.Bool.{true, false}
use mathlib.Core.List.{List}
use Prim.Native.Nat.{ℕ, ◌+◌, ◌-◌}
use native.Mathlib.Numerals.{add-one}
use borrow.Rule.Slice.PartMut.{mid_of, put_mid}
use Rattle.table_spec.specs.Tabs.{spaced}
use Rattle.label_spec.specs.File.{labelled}
use Rattle.terms.specs.declared.Fault.{Fault}
use Rattle.label_spec.specs.declared.Span.{Span}
use Rattle.file_spec.specs.declared.Needed.{Needed}
use Rattle.file_spec.specs.Texts.{text_in, gathered_from, listed_in}
use Rattle.file_spec.specs.Places.{body_from, found_at, found_in, found_between, found_body}
use Rattle.file_spec.specs.Tabs.{spaced_in, detabbed_at}
use Rattle.file_detab.specs.Answers.{FileDetabs}
use Rattle.std.specs.Prelude.{Some, None, Ok, Err}
use Rattle.label_spec.specs.Parts.{places_with}

module _ (s : List ℕ) where
  pub unlisted : (t : Needed) → listed_in (text_in s t.xydata) ≡ None → None ≡ found_at t (listed_in (text_in s t.xydata))
  unfolding found_at
  unlisted t e = rw e refl

  pub body_listed : (t : Needed) (start : ℕ) → listed_in (text_in s t.xydata) ≡ Some start → Some (body_from t start) ≡ found_at t (listed_in (text_in s t.xydata))
  unfolding found_at
  body_listed t start e = rw e refl

  pub labels_refused : (r : Fault) → labelled s ≡ Err r → None ≡ found_body s
  unfolding found_between
  labels_refused r e = rw e refl

  module _ (m e x : ℕ) (h : labelled s ≡ Ok (places_with m e x)) where
    pub records_lacking : gathered_from s (e + 1) x ≡ None → None ≡ found_body s
    unfolding found_between found_in
    records_lacking g = rw (h, ← add-one e, g) refl

    pub records_all : (t : Needed) → gathered_from s (e + 1) x ≡ Some t → found_at t (listed_in (text_in s t.xydata)) ≡ found_body s
    unfolding found_between found_in
    records_all t g = rw (h, ← add-one e, g) refl

  -- ---- the file afterwards

  pub left_as_it_is : found_body s ≡ None → FileDetabs s s false
  unfolding detabbed_at
  left_as_it_is e = record { answers = rw e refl; leaves = rw e refl }

  pub body_converted : (b : Span) (p : List ℕ) → found_body s ≡ Some b → p ≡ spaced false (mid_of b.from (b.to - b.from) s) → FileDetabs s (put_mid b.from (b.to - b.from) s p) true
  unfolding detabbed_at spaced_in
  body_converted b p e h = record { answers = rw e refl; leaves = rw (e, h) refl }
