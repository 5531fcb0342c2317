-- The rounded quotient of two decimals (01, The file: "to the nearest thousandth, halves to the larger").
-- The two sizes a and b are whole numbers and the sign stands beside them; all is cross-multiplied, so that no fraction is named.
use Rattle.std.specs.Prelude.{◌≡◌, Bool, true, false, ℕ, ◌+◌, ◌-◌, ◌*◌, ◌/◌, ◌≤◌, ◌<◌, ltb, leb, eqb, Option, Some, None}
use Rattle.terms.specs.Logic.{pick}
use Rattle.decimal_spec.specs.declared.Quotient.{Quotient}
use Rattle.decimal_spec.specs.declared.Whole.{Whole}
use Rattle.decimal_spec.specs.Parts.{whole_with}

-- q is not above the number nearest to a/b: q - 1/2 ≤ a/b. Of -a/b, whose halves go towards zero as they go to the larger: q - 1/2 < a/b
abbrev pub Reaches : Bool → ℕ → ℕ → ℕ → Type 0
Reaches false a b q = 2 * (b * q) ≤ 2 * a + b
Reaches true a b q = 2 * (b * q) < 2 * a + b

-- q is not below it: a/b < q + 1/2; of -a/b: a/b ≤ q + 1/2
abbrev pub Covers : Bool → ℕ → ℕ → ℕ → Type 0
Covers false a b q = 2 * a < 2 * (b * q) + b
Covers true a b q = 2 * a ≤ 2 * (b * q) + b

-- q is the size of the whole number nearest to a/b (to -a/b if minus), halves to the larger
pub record Nearest (minus : Bool) (a b q : ℕ) : Type 0 where
  pub reaches : Reaches minus a b q
  pub covers : Covers minus a b q

-- what is answered: the nearest number, with no sign for zero, if its size is within the limit, and Beyond if it is not:
-- the rounded number is held to the limit (01, The file, 28)
abbrev pub IsRounded : ℕ → Bool → ℕ → ℕ → Option Whole → Type 0
IsRounded limit minus a b (Some x) = Nearest minus a b x.size × (x.size ≤ limit) × (x.minus ≡ pick minus (ltb 0 x.size) false)
IsRounded limit minus a b None = (q : ℕ) × Nearest minus a b q × (limit < q)

-- the nearest number by computing
unfoldable pub nearest : Bool → ℕ → ℕ → ℕ
nearest false a b = (2 * a + b) / (2 * b)
nearest true a b = (2 * a + b - 1) / (2 * b)

-- the answer by computing; QuotientLaws has that IsRounded admits it and no other
unfoldable pub rounded_of : ℕ → Bool → ℕ → ℕ → Option Whole
rounded_of limit minus a b = pick (leb (nearest minus a b) limit) (Some (whole_with (pick minus (ltb 0 (nearest minus a b)) false) (nearest minus a b))) None

-- the answer is exact: the quotient times the divisor is the dividend (02, T-08). What lies beyond is no answer, and so is not exact.
-- The sign of the answer is that of the quotient, so that sizes decide.
abbrev pub Exact : ℕ → ℕ → Option Whole → Type 0
Exact a b (Some x) = b * x.size ≡ a
Exact a b None = ⊥

-- what the division may answer: the nearest number, and `exact` where it is so and nowhere else
pub record IsQuotient (limit : ℕ) (minus : Bool) (a b : ℕ) (x : Quotient) : Type 0 where
  pub rounds : IsRounded limit minus a b x.rounded
  pub sound : x.exact ≡ true → Exact a b x.rounded
  pub complete : Exact a b x.rounded → x.exact ≡ true

-- exactness by computing
unfoldable pub exact_of : ℕ → ℕ → Option Whole → Bool
exact_of a b (Some x) = eqb (b * x.size) a
exact_of a b None = false

-- what the division answers; QuotientLaws has that IsQuotient admits it and no other
unfoldable pub quotient_of : ℕ → Bool → ℕ → ℕ → Quotient
quotient_of limit minus a b = record { rounded = rounded_of limit minus a b; exact = exact_of a b (rounded_of limit minus a b) }

-- the answers that are known without dividing: zero, and what lies beyond
abbrev pub zero_quotient : Bool → Quotient
zero_quotient exact = record { rounded = Some (whole_with false 0); exact = exact }

abbrev pub beyond_quotient : Quotient
beyond_quotient = record { rounded = None; exact = false }
