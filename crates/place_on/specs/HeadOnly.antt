-- What a line may hold before its first value: blanks, a head, blanks (01, "Spelling of a body"). It defines, and proves nothing. Assumes nothing.
use Rattle.std.specs.Prelude.{Bool, List, [], ◌∷◌, ℕ}
use Rattle.alphabet_spec.specs.Kinds.{Blank}
use Rattle.table_law.specs.Spelling.{Head}

pub data Blanks (tabs : Bool) : List ℕ → Type 0 where
  no_blank : Blanks tabs []
  one_blank : {b : ℕ} {g : List ℕ} → Blank tabs b → Blanks tabs g → Blanks tabs (b ∷ g)

-- a head, with blanks before and after it
pub data HeadOnly (tabs : Bool) : List ℕ → Type 0 where
  after_blank : {b : ℕ} {g : List ℕ} → Blank tabs b → HeadOnly tabs g → HeadOnly tabs (b ∷ g)
  a_head : {h x : ℕ} {g e : List ℕ} → Head h x g e → Blanks tabs e → HeadOnly tabs g
