-- The digits of a number by their count: how many follow the first, and the last of them. Assumes nothing.
use Rattle.std.specs.Prelude.{◌≡◌, List, [], ◌∷◌, ℕ, zero, suc, ◌+◌, ◌/◌, ◌%◌, ◌^◌, ◌≤◌, ◌<◌, ltb, length}
use Rattle.std.proofs.lemmas.List.Edits.{sets}
use Rattle.terms.specs.Logic.{pick}
use Rattle.table_spec.specs.Numerals.{top}

-- how many digits follow the first
unfoldable pub further : ℕ → ℕ → ℕ
further zero v = 0
further (suc f) v = pick (ltb v 10) 0 (suc (further f (v / 10)))

-- the last n digits of v, before acc
unfoldable pub last_digits : ℕ → ℕ → List ℕ → List ℕ
last_digits zero v acc = acc
last_digits (suc n) v acc = last_digits n (v / 10) ((48 + v % 10) ∷ acc)

-- what the count has come to: limit is 10^(n+1), and v is no less than 10^n
pub record Counting (v n limit : ℕ) : Type 0 where
  pub few : n ≤ 9
  pub is : limit ≡ 10 ^ suc n
  pub least : 0 < n → 10 ^ n ≤ v

pub record Storing (v w j : ℕ) : Type 0 where
  pub fuel : ℕ
  pub first : top 9 v ≡ top fuel w
  pub left : further fuel w ≡ j
  pub short : w < 10 ^ suc fuel

-- the loop of `put_digits`
pub record Digits (v n at : ℕ) (o₀ o : List ℕ) (w j : ℕ) : Type 0 where
  pub few : j ≤ n
  pub same : length o ≡ length o₀
  pub rest : sets o at (last_digits j w []) ≡ sets o₀ at (last_digits n v [])
  pub still : Storing v w j
