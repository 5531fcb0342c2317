-- The turns of finding a record from a `##` on, and on a page: no place of the code is named here.
use mathlib.Core.Path.{◌≡◌, refl, ap, sym, ◌∙◌}
use mathlib.Core.Bool.{true, false}
use mathlib.Core.List.{List}
use Prim.Native.Nat.{ℕ, ◌+◌, ◌<◌, ◌≤◌}
use native.Mathlib.Omega.{arith}
use lib.ListN.{length}
use borrow.Author.Tests.{lt-ltb}
use Rattle.label_spec.specs.Labels.{from, hashed}
use Rattle.label_spec.specs.LabelLaws.{from_end, no_label}
use Rattle.label_spec.specs.Records.{record_of}
use Rattle.label.specs.Answers.{found_in}
use Rattle.label.specs.Post.{Named}
use Rattle.label_lines.specs.Post.{Unblanked, Marked}
use Rattle.label_judged.proofs.JudgeTurns.{mark_is}
use Rattle.label_page.specs.Post.{FindsFrom}
use Rattle.std.specs.Prelude.{Option, Some, None}
use Rattle.label_spec.specs.declared.Span.{Span}
use Rattle.label_spec.specs.Parts.{span_of}

-- ---- `find_from_mark`

lower : (a len : ℕ) (r : Option Span) → found_in a len r → found_in 0 len r
lower a len (Some y) x = (omega arith, x.1, x.2)
lower a len None x = tt

module _ (s : List ℕ) (m stop : ℕ) (h : m < stop) (w : List ℕ) where
  pub from_on : Named s m w None → (r : Option Span) → (r ≡ record_of (length s) stop w (from s (m + 2) false)) × found_in (m + 2) (length s) r → FindsFrom s m stop w r
  from_on x r f = (f.0 ∙ sym (x.says (length s) stop h), lower (m + 2) (length s) r f.1)

  pub from_here : (e to : ℕ) → Named s m w (Some e) → Marked s (e + 1) to → FindsFrom s m stop w (Some (span_of (e + 1) to))
  unfolding record_of
  from_here e to x q = (
    sym (ap (record_of (length s) stop w) x.says.2 ∙ rw (lt-ltb m stop h, x.says.3, ← mark_is s (e + 1) to q) refl),
    (omega arith, q.low, q.high),
  )

-- ---- `find_on_page`: k is the place after the blanks that begin the page

module _ (p w : List ℕ) (k : ℕ) (u : Unblanked p 0 k) where
  come : record_of (length p) (length p) w (from p 0 true) ≡ record_of (length p) (length p) w (from p k true)
  come = ap (record_of (length p) (length p) w) u.same

  pub page_over : length p ≤ k → FindsFrom p 0 (length p) w None
  unfolding record_of
  page_over h = (sym (come ∙ ap (record_of (length p) (length p) w) (from_end p k true h)), tt)

  pub page_mark : (r : Option Span) → FindsFrom p k (length p) w r → FindsFrom p 0 (length p) w r
  page_mark r f = (f.0 ∙ sym come, f.1)

  pub page_later : k < length p → hashed p k ≡ false → (r : Option Span) → (r ≡ record_of (length p) (length p) w (from p k false)) × found_in k (length p) r → FindsFrom p 0 (length p) w r
  page_later h n r f = (f.0 ∙ sym (come ∙ ap (record_of (length p) (length p) w) (no_label p k h (u.stops h) n)), lower k (length p) r f.1)
