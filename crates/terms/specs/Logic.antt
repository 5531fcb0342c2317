-- A choice by a test, and how a proof goes by its two cases. Assumes nothing.
use Rattle.std.specs.Prelude.{◌≡◌, refl, Bool, true, false, ℕ, zero, suc, ◌<◌, Option, Some, Result, Ok, Err}
use Rattle.std.proofs.Common.{arith}

-- a where the test holds, else b
abbrev pub pick {ℓ} : {A : Type ℓ} → Bool → A → A → A
pick true a b = a
pick false a b = b

abbrev pub both : Bool → Bool → Bool
both a b = pick a b false

pub by_case : (P : Bool → Type 0) (q : Bool) → (q ≡ true → P true) → (q ≡ false → P false) → P q
by_case P true f g = f refl
by_case P false f g = g refl

-- two constructors of one type are never equal: where a proof meets that, `cc` makes it 0 ≡ 1
pub zero_one : {A : Type 0} → ◌≡◌ {A = ℕ} 0 1 → A
zero_one e = absurd (omega arith)

pub no_way : {A : Type 0} → false ≡ true → A
no_way e = zero_one cc

-- what stands in two equal answers is equal
pub some_same : {A : Type 0} {x y : A} → ◌≡◌ {A = Option A} (Some x) (Some y) → x ≡ y
some_same e = cc

pub ok_same : {A B : Type 0} {x y : A} → ◌≡◌ {A = Result A B} (Ok x) (Ok y) → x ≡ y
ok_same e = cc

pub err_same : {A B : Type 0} {x y : B} → ◌≡◌ {A = Result A B} (Err x) (Err y) → x ≡ y
err_same e = cc

pub both_true : (a b : Bool) → both a b ≡ true → (a ≡ true) × (b ≡ true)
both_true true b e = (refl, e)
both_true false b e = no_way e

-- what holds of each decimal digit
pub ten : (P : ℕ → Type 0) → P 0 → P 1 → P 2 → P 3 → P 4 → P 5 → P 6 → P 7 → P 8 → P 9 → (d : ℕ) → d < 10 → P d
ten P a b c e f g h i j k zero l = a
ten P a b c e f g h i j k (suc zero) l = b
ten P a b c e f g h i j k (suc (suc zero)) l = c
ten P a b c e f g h i j k (suc (suc (suc zero))) l = e
ten P a b c e f g h i j k (suc (suc (suc (suc zero)))) l = f
ten P a b c e f g h i j k (suc (suc (suc (suc (suc zero))))) l = g
ten P a b c e f g h i j k (suc (suc (suc (suc (suc (suc zero)))))) l = h
ten P a b c e f g h i j k (suc (suc (suc (suc (suc (suc (suc zero))))))) l = i
ten P a b c e f g h i j k (suc (suc (suc (suc (suc (suc (suc (suc zero)))))))) l = j
ten P a b c e f g h i j k (suc (suc (suc (suc (suc (suc (suc (suc (suc zero))))))))) l = k
ten P a b c e f g h i j k (suc (suc (suc (suc (suc (suc (suc (suc (suc (suc n)))))))))) l = absurd (omega arith)
