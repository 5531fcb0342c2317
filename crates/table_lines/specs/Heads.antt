-- What the functions on heads ensure (01, "Head"). Assumes nothing.
use Rattle.std.specs.Prelude.{◌≡◌, Bool, false, List, ℕ, suc, ◌+◌, ◌-◌, ◌<◌, ◌≤◌, length, get_or, drop, Option, Some, None}
use Rattle.alphabet_spec.specs.Kinds.{tabs_too}
use Rattle.alphabet_spec.specs.Bytes.{kind}
use Rattle.table_spec.specs.Values.{headed_at}
use Rattle.table_spec.specs.Reading.{head, fault, no_head, sized, fresh, inner, pointed, Rest, opening}
use Rattle.table_lines.specs.Seen.{seen, behind}
use Rattle.table_lines.specs.declared.HeadRead.{HeadRead}

-- what follows the whole number w of a head, at the place i: its thousandths, its unit u and the place j after them
pub record Scaled (s : List ℕ) (i w : ℕ) (minus : Bool) (h u j : ℕ) : Type 0 where
  pub low : i ≤ j
  pub high : j ≤ length s
  pub clear : behind s i ≡ false → behind s j ≡ false
  pub size : ℕ
  pub small : size ≤ 9999999999
  pub is : h ≡ headed_at minus size
  pub coarsest : u ≤ 1000
  pub law : (n : ℕ) → pointed (drop i s) w n ≡ sized size u (n + (j - i))

abbrev pub Pointed : List ℕ → ℕ → ℕ → Bool → Option HeadRead → Type 0
Pointed s i w minus (Some x) = Scaled s i w minus x.abscissa x.unit x.at
Pointed s i w minus None = (n : ℕ) → pointed (drop i s) w n ≡ no_head

-- a head stands at the place i, with the abscissa h and the unit u, and values may stand from j on: its bytes are those from i up to j, whatever K says of what stands after them
pub record Topped (s : List ℕ) (i h u j : ℕ) : Type 0 where
  pub low : i < j
  pub high : j ≤ length s
  pub clear : behind s j ≡ false
  pub small : h < 20000000000
  pub coarsest : u ≤ 1000
  pub bytes : (K : Rest) → opening K i (drop (suc i) s) (kind tabs_too (get_or s i 0)) ≡ head i h u (K (j - suc i) (inner false))
  pub law : seen s i fresh ≡ head i h u (seen s j (inner false))

-- that; or what stands at the place is no head
abbrev pub Headed : List ℕ → ℕ → Option HeadRead → Type 0
Headed s i (Some x) = Topped s i x.abscissa x.unit x.at
Headed s i None = seen s i fresh ≡ fault 4 i
