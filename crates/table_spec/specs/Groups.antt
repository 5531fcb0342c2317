-- How values are written: tokens and groups of equal tokens (01, "The written text"). Which of them go on a line is said in Writing. Assumes nothing.
use Rattle.std.specs.Prelude.{Bool, true, false, List, [], ◌∷◌, ◌++◌, ℕ, zero, suc, ◌+◌, ◌-◌, leb, eqb}
use Rattle.terms.specs.Logic.{pick, both}
use Rattle.alphabet_spec.specs.Kinds.{sqz, dif, dup}
use Rattle.table_spec.specs.Frame.{zero_ordinate}
use Rattle.table_spec.specs.Values.{Form, Own, Gap, By, Dup}
use Rattle.table_spec.specs.declared.Style.{Style}
use Rattle.table_spec.specs.declared.Style.TheVariants.{Affn, Pac, Sqz, Difdup}
use Rattle.table_spec.specs.Numerals.{top, low, numeral}

-- the form of the ordinate y after p (0: none on this line, or missing): "A line's first value is SQZ (or `?`); a value after `?` is SQZ or `?`; all others are DIF"
unfoldable pub form : ℕ → ℕ → Form
form p y = pick (eqb y 0) Gap (pick (eqb p 0) Own (pick (leb p y) (By false (y - p)) (By true (p - y))))

unfoldable pub sqz_text : ℕ → List ℕ
sqz_text u = pick (leb zero_ordinate u) (numeral (sqz false) (u - zero_ordinate)) (numeral (sqz true) (zero_ordinate - u))

-- 02, T-02: "Each value is written in full, no DUP and no check lines" in three of the four forms
abbrev pub in_full : Style → Bool
in_full Affn = true
in_full Pac = true
in_full Sqz = true
in_full Difdup = false

-- the digits of a number of at most ten
unfoldable pub plain_text : ℕ → List ℕ
plain_text v = (48 + top 9 v) ∷ low 9 v []

-- "a space before a value that is not negative, nothing before a minus"
unfoldable pub pac_text : ℕ → List ℕ
pac_text u = pick (leb zero_ordinate u) (32 ∷ plain_text (u - zero_ordinate)) (45 ∷ plain_text (zero_ordinate - u))

-- "one space before every value"
unfoldable pub affn_text : ℕ → List ℕ
affn_text u = pick (leb zero_ordinate u) (32 ∷ plain_text (u - zero_ordinate)) (32 ∷ 45 ∷ plain_text (zero_ordinate - u))

-- an ordinate of its own
abbrev pub own_text : Style → ℕ → List ℕ
own_text Affn y = affn_text y
own_text Pac y = pac_text y
own_text Sqz y = sqz_text y
own_text Difdup y = sqz_text y

-- a missing one: "nothing before .. `?`" but in AFFN
abbrev pub gap_text : Style → List ℕ
gap_text Affn = 32 ∷ 63 ∷ []
gap_text Pac = 63 ∷ []
gap_text Sqz = 63 ∷ []
gap_text Difdup = 63 ∷ []

-- the ordinate that a value is a difference to: none where it is written in full
abbrev pub seen_after : Style → ℕ → ℕ
seen_after w p = pick (in_full w) 0 p

-- the token of an ordinate y in its form
unfoldable pub token_text : Style → Form → ℕ → List ℕ
token_text w Own y = own_text w y
token_text w Gap y = gap_text w
token_text w (By m d) y = numeral (dif m) d
token_text w (Dup b) y = []

abbrev pub alike_sign : Bool → Bool → Bool
alike_sign true n = n
alike_sign false n = pick n false true

-- "Equal neighbouring DIF or `?` tokens are one group. An SQZ token is a group alone."
abbrev pub alike : Form → Form → Bool
alike Own s = false
alike Gap Own = false
alike Gap Gap = true
alike Gap (By n e) = false
alike Gap (Dup c) = false
alike (By m d) Own = false
alike (By m d) Gap = false
alike (By m d) (By n e) = both (alike_sign m n) (eqb d e)
alike (By m d) (Dup c) = false
alike (Dup b) s = false

-- "as many as follow": how many of the ordinates after p have the token of the form r too
unfoldable pub many : Form → ℕ → List ℕ → ℕ
many r p [] = 0
many r p (y ∷ ys) = pick (alike r (form p y)) (suc (many r y ys)) 0

-- "and a DUP if there are two or more": n more of a token
unfoldable pub dup_text : ℕ → List ℕ
dup_text zero = []
dup_text (suc n) = numeral dup (suc (suc n))

-- how many more tokens a group has: none where each value is written in full
abbrev pub more_of : Style → Form → ℕ → List ℕ → ℕ
more_of w r p ys = pick (in_full w) 0 (many r p ys)

-- the group that starts with y after p
unfoldable pub group : Style → ℕ → ℕ → List ℕ → List ℕ
group w p y ys = token_text w (form (seen_after w p) y) y ++ dup_text (more_of w (form (seen_after w p) y) y ys)
