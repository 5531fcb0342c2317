-- What `table_read::read_table` promises, in terms of spellings alone: its contract names no reader here. Assumes nothing.
use Rattle.std.specs.Prelude.{◌≡◌, List, ◌++◌, map, ℕ, ℤ, length, drop, Result, Ok, Err}
use Rattle.table_spec.specs.Frame.{Rules, rules, abscissa, entry_for}
use Rattle.table_law.specs.Spelling.{Spells}
use Rattle.table_law.specs.Outcome.{Allowed}
use Rattle.terms.specs.declared.Refusal.{Refusal}

module _ (f l : ℤ) (n : ℕ) (body : List ℕ) (out out' : List ℤ) where
  -- the rules that F, L and N make
  abbrev pub R : Rules
  R = rules (abscissa f) (abscissa l) n

  -- these bytes are a spelling of this list
  abbrev pub Spelled : List ℕ → Type 0
  Spelled ys = Spells R ys body

  -- the frame and the length are within their limits, and the lent slice has room for N ordinates
  abbrev pub Fits : Type 0
  Fits = Allowed f l n body (length out)

  -- accepted with the count m: it is N, and nothing forbade it; the body spells one list of N and no other; that list now stands in the slice's first entries, and the others are unaltered
  pub record Holds (m : ℕ) : Type 0 where
    pub count : m ≡ n
    pub fits : Fits
    pub list : List ℕ
    pub spelled : Spelled list
    pub long : length list ≡ n
    pub only : (zs : List ℕ) → Spelled zs → zs ≡ list
    pub slice : out' ≡ map entry_for list ++ drop n out

  -- refused: no entry is altered; and where frame, length and room allow a reading, the body spells no list
  pub record Declines : Type 0 where
    pub unaltered : out' ≡ out
    pub none : Fits → (ys : List ℕ) → Spelled ys → ⊥

  abbrev pub Promised : Result ℕ Refusal → Type 0
  Promised (Ok m) = Holds m
  Promised (Err r) = Declines
