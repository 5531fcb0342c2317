-- The seven records, found one after the other. No place of the code is named here. Assumes nothing.
use mathlib.Core.Path.{◌≡◌, refl, sym, ◌∙◌}
use mathlib.Core.List.{List, [], ◌∷◌}
use Prim.Native.Nat.{ℕ, zero, suc, ◌+◌, ◌≤◌, ◌<◌}
use native.Mathlib.Omega.{arith}
use native.Mathlib.Numerals.{add-one}
use lib.ListN.{length, get_or, drop, set, replicate, drop_of_length-le}
use lib.Seq.{drop-cons}
use Rattle.label_spec.specs.declared.Span.{Span}
use Rattle.file_spec.specs.Texts.{with_text, text_of, gathered_from}
use Rattle.file_marks.specs.Spans.{Within}
use Rattle.file_gather.specs.Order.{NAMES, name_at, none, needed_of}
use Rattle.file_gather.specs.Bounds.{AllWithin}
use Rattle.std.specs.Prelude.{Option, Some, None}
use Rattle.file_spec.specs.declared.Needed.{Needed}
use Rattle.label_spec.specs.Parts.{span_of}

-- not the n-th, so past it
pub past : {n k : ℕ} → (k ≡ n → ⊥) → n ≤ k → n + 1 ≤ k
past e h = omega (arith, e)

-- past five others, so the last of seven
pub sixth : {k : ℕ} → 6 ≤ k → k < 7 → k ≡ 6
sixth l h = omega arith

-- texts of a file of that length
abbrev pub Inside : ℕ → List Span → Type 0
Inside len l = (j : ℕ) → Within len (get_or l j none)

-- no text is one, and one among them may be exchanged for another
empty : {len : ℕ} → Within len none
empty = record { low = omega arith; high = omega arith }

inside_none : {len : ℕ} (n : ℕ) → Inside len (replicate n none)
inside_none zero j = empty
inside_none (suc n) zero = empty
inside_none (suc n) (suc j) = inside_none n j

inside_set : {len : ℕ} (l : List Span) (k : ℕ) {t : Span} → Inside len l → Within len t → Inside len (set l k t)
inside_set [] k h w j = h j
inside_set (x ∷ l) zero h w zero = w
inside_set (x ∷ l) zero h w (suc j) = h (suc j)
inside_set (x ∷ l) (suc k) h w zero = h 0
inside_set (x ∷ l) (suc k) h w (suc j) = inside_set l k (λ i. h (suc i)) w j

module _ (s : List ℕ) (start stop : ℕ) where
  -- the answer, where the records with these names are still to be found, the first of them the k-th
  unfoldable pub gathering : List (List ℕ) → ℕ → List Span → Option Needed
  gathering [] k l = Some (needed_of l)
  gathering (w ∷ ws) k l = with_text (text_of s start stop w) (λ t. gathering ws (k + 1) (set l k t))

  -- so far: k records are found, and what is left gives the answer
  pub record Gathers (k : ℕ) (l : List Span) : Type 0 where
    pub few : k ≤ 7
    pub inside : Inside (length s) l
    pub law : gathered_from s start stop ≡ gathering (drop k NAMES) k l

  pub gathers_none : Gathers 0 (none ∷ none ∷ none ∷ none ∷ none ∷ none ∷ none ∷ [])
  unfolding gathering gathered_from
  gathers_none = record { few = omega arith; inside = inside_none 7; law = refl }

  module _ {k : ℕ} {l : List Span} (g : Gathers k l) where
    -- the next is looked for
    next : k < 7 → gathered_from s start stop ≡ with_text (text_of s start stop (name_at k)) (λ t. gathering (drop (k + 1) NAMES) (k + 1) (set l k t))
    unfolding gathering
    next h = g.law ∙ rw (drop-cons NAMES k [] h, add-one k) refl

    pub gathers_lacking : k < 7 → text_of s start stop (name_at k) ≡ None → None ≡ gathered_from s start stop
    gathers_lacking h e = sym (next h ∙ rw e refl)

    pub gathers_on : {a b : ℕ} → k < 7 → text_of s start stop (name_at k) ≡ Some (span_of a b) → (start ≤ a) × (a ≤ b) × (b ≤ length s)
        → Gathers (k + 1) (set l k (record { from = a; to = b }))
    gathers_on h e f = record { few = omega arith; inside = inside_set l k g.inside (record { low = f.1; high = f.2 }); law = next h ∙ rw e refl }

    pub gathers_all : 7 ≤ k → Some (needed_of l) ≡ gathered_from s start stop
    unfolding gathering
    gathers_all h = sym (g.law ∙ rw (drop_of_length-le NAMES h) refl)

    pub all_inside : AllWithin (length s) (needed_of l)
    all_inside =
        let w = g.inside in
        record { xfactor = w 0; yfactor = w 1; firstx = w 2; lastx = w 3; npoints = w 4; firsty = w 5; xydata = w 6 }
