-- The walk over written records meets exactly their labels, in order (01, "The file"; 02, T-04). Assumes nothing.
use Rattle.std.specs.Prelude.{◌≡◌, Bool, true, false, List, [], ◌∷◌, ℕ, ◌+◌, eqb, leb, length}
use Rattle.terms.specs.Logic.{pick, both}
use Rattle.label_spec.specs.Names.{blank, norm, sames}
use Rattle.label_spec.specs.Labels.{Walk, over, label, longest_name}
use Rattle.file_write_spec.specs.Records.{Entry}

-- the text t, from a place where only blanks stand before it on its line (or not), has no line that begins with `#`, and ends with LF
abbrev pub Settles : Bool → List ℕ → Type 0
Settles true [] = Unit {0}
Settles false [] = ⊥
Settles false (b ∷ t) = Settles (eqb b 10) t
Settles true (b ∷ t) = (b ≡ 35 → ⊥) × Settles (pick (blank b) true (eqb b 10)) t

-- no `=` and no LF stands in a name
unfoldable pub plain : List ℕ → Bool
plain [] = true
plain (b ∷ v) = pick (eqb b 61) false (pick (eqb b 10) false (plain v))

-- a name as it is compared, of at most 40 bytes
unfoldable pub named : List ℕ → Bool
named v = both (sames (norm v) v) (both (leb (length v) longest_name) (plain v))

-- how many bytes a record has, and where its text starts
abbrev pub size : Entry → ℕ
size r = length r.name + length r.text + 3

abbrev pub inset : Entry → ℕ
inset r = length r.name + 3

-- a record as it is written
pub record Good (r : Entry) : Type 0 where
  pub named : named r.name ≡ true
  pub settles : Settles false r.text

abbrev pub AllGood : List Entry → Type 0
AllGood [] = Unit {0}
AllGood (r ∷ rs) = Good r × AllGood rs

-- the labels of records that stand from the place i on
abbrev pub labels : List Entry → ℕ → Walk
labels [] i = over
labels (r ∷ rs) i = label i (i + 2) (i + 2 + length r.name) r.name (labels rs (i + size r))
