-- What the functions on tokens and groups ensure (01, "The written text"). Assumes nothing.
use Rattle.std.specs.Prelude.{◌≡◌, Bool, true, List, [], ◌∷◌, ◌++◌, ℕ, suc, ◌+◌, ◌≤◌, ◌<◌, ltb, eqb, length, get_or, drop}
use Rattle.std.specs.Bool.{beq}
use Rattle.terms.specs.Logic.{pick, both}
use Rattle.table_spec.specs.Frame.{apart}
use Rattle.table_spec.specs.Values.{is_dif}
use Rattle.table_spec.specs.Groups.{form, token_text, alike, many, dup_text, group}
use Rattle.text_tokens.specs.declared.Token.{Token}
use Rattle.text_tokens.specs.declared.Group.{Group}
use Rattle.table_text.specs.Digits.{further}
use Rattle.table_text.specs.Pieces.{number}
use Rattle.table_spec.specs.declared.Style.TheVariants.{Difdup}

-- does z after q have the token t again?
abbrev pub again : Token → ℕ → ℕ → Bool
again t q z = both (eqb (q + t.up) (z + t.down)) (beq (ltb 0 z) t.dif)

-- how many ordinates after q have it again
unfoldable pub run : Token → ℕ → List ℕ → ℕ
run t q [] = 0
run t q (z ∷ zs) = pick (again t q z) (suc (run t z zs)) 0

pub record SmallToken (t : Token) : Type 0 where
  pub size : t.size < 4294967296
  pub up : t.up < 4294967296
  pub down : t.down < 4294967296

-- what the first digit of the DIF for y after p is added to
unfoldable pub lead_of : ℕ → ℕ → ℕ
lead_of p y = pick (ltb y p) 105 (pick (eqb y p) 37 73)

-- t is the token of y after p. `again` is said of a q that is missing or not as y is: such a one is each that has the token
pub record TokenFor (p y : ℕ) (t : Token) : Type 0 where
  pub text : token_text Difdup (form p y) y ≡ number t.base t.size
  pub base : t.base ≤ 105
  pub small : SmallToken t
  pub dif_is : t.dif ≡ is_dif (form p y)
  pub likes : (q z : ℕ) → ltb 0 q ≡ ltb 0 y → again t q z ≡ alike (form p y) (form q z)
  pub keeps : (q z : ℕ) → ltb 0 q ≡ ltb 0 y → again t q z ≡ true → ltb 0 z ≡ ltb 0 y

-- the group at i after p: how many more points, its bytes, is its form DIF
abbrev pub count_at : List ℕ → ℕ → ℕ → ℕ
count_at ys i p = many (form p (get_or ys i 0)) (get_or ys i 0) (drop (i + 1) ys)

abbrev pub group_at : List ℕ → ℕ → ℕ → List ℕ
group_at ys i p = group Difdup p (get_or ys i 0) (drop (i + 1) ys)

abbrev pub dif_at : List ℕ → ℕ → ℕ → Bool
dif_at ys i p = is_dif (form p (get_or ys i 0))

-- g is that group
pub record Found (ys : List ℕ) (i p : ℕ) (g : Group) : Type 0 where
  pub text : group_at ys i p ≡ number g.base g.size ++ dup_text g.more
  pub base : g.base ≤ 105
  pub size : g.size < 4294967296
  pub digits : g.digits ≡ further 9 g.size
  pub more_is : g.more ≡ count_at ys i p
  pub width_is : g.width ≡ length (group_at ys i p)
  pub dif_is : g.dif ≡ dif_at ys i p
  pub inside : i + 1 + g.more ≤ length ys
  pub slim : g.width ≤ 20

-- the bytes of the DIF for y after p, where it stands alone before z; else more than a line has: y is missing, or z may have the same DIF
unfoldable pub lone : ℕ → ℕ → ℕ → ℕ
lone p y z = pick (eqb y 0) 81 (pick (eqb (p + z) (y + y)) 81 (1 + further 9 (apart p y)))
