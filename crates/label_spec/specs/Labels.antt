-- 01, The file: "A label is `##` first on a line (blanks aside), a name, then that line's first `=`. Names .. have at most 40 bytes".
use Rattle.std.specs.Prelude.{Bool, true, false, List, [], ◌∷◌, ℕ, ◌+◌, ◌-◌, leb, eqb, length, get_or, take, drop, Option, Some, None}
use Rattle.terms.specs.Logic.{pick}
use Rattle.label_spec.specs.Names.{blank, norm}

-- What a walk over a text meets, in order. A label: the places of its `##`, of its name and of its `=`, and its name as it is compared.
-- `bad`: a `##` first on a line without `=`, or with a name too long (refusal 20).
pub data Walk : Type 0 where
  over : Walk
  bad : ℕ → Walk → Walk
  label : ℕ → ℕ → ℕ → List ℕ → Walk → Walk

-- The most bytes of a name as it is compared.
abbrev pub longest_name : ℕ
longest_name = 40

-- The place of the line's first `=`; the text stands from the place i on.
unfoldable pub eq_in : List ℕ → ℕ → Option ℕ
eq_in [] i = None
eq_in (b ∷ s) i = pick (eqb b 61) (Some i) (pick (eqb b 10) None (eq_in s (i + 1)))

-- A `##` at m, and its line's first `=`: the text s stands from n on, where the name starts. K is what follows.
unfoldable pub headed : List ℕ → ℕ → ℕ → Walk → Option ℕ → Walk
headed s m n K None = bad m K
headed s m n K (Some e) = pick (leb (length (norm (take (e - n) s))) longest_name) (label m n e (norm (take (e - n) s)) K) (bad m K)

-- The byte b at the place i, with s after it, and K what follows. The mode: do only blanks stand before it on its line?
unfoldable pub step : (Bool → Walk) → List ℕ → ℕ → Bool → ℕ → Walk
step K s i false b = K (eqb b 10)
step K s i true b =
    pick (blank b) (K true)
    (pick (pick (eqb b 35) (eqb (get_or s 0 0) 35) false) (headed (drop 1 s) i (i + 2) (K false) (eq_in (drop 1 s) (i + 2)))
    (K (eqb b 10)))

-- The walk over a text that stands from the place i on.
unfoldable pub walk : List ℕ → ℕ → Bool → Walk
walk [] i t = over
walk (b ∷ s) i t = step (walk s (i + 1)) s i t b

-- The walk over a file from the place i on.
unfoldable pub from : List ℕ → ℕ → Bool → Walk
from s i t = walk (drop i s) i t

-- Does a `##` stand at the place i?
unfoldable pub hashed : List ℕ → ℕ → Bool
hashed s i = pick (eqb (get_or s i 0) 35) (eqb (get_or s (i + 1) 0) 35) false
