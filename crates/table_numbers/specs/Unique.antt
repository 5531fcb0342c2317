-- Reading a number has one answer (01, "What the contracts say"): two that meet the contract on one text, at one place, are equal. Assumes nothing.
use Rattle.std.specs.Prelude.{◌≡◌, refl, false, List, ℕ, ◌+◌, ◌≤◌, ◌<◌, ltb, leb, Option, Some, None}
use Rattle.std.proofs.Common.{sym, ap, ◌∙◌, arith}
use Rattle.terms.specs.Logic.{pick, by_case, zero_one}
use Rattle.alphabet_spec.specs.Kinds.{Lead, sqz, dif, dup}
use Rattle.table_spec.specs.Values.{Value, own, gap, by, times, value_of}
use Rattle.table_numbers.specs.Numbers.{lead_of, value_at, NumberAt, Numbered}

-- the number of a value
abbrev size : Value → ℕ
size (own m v) = v
size gap = 0
size (by m v) = v
size (times v) = v

lead_size : (k : Lead) (v : ℕ) → size (value_of k v) ≡ v
lead_size (sqz m) v = refl
lead_size (dif m) v = refl
lead_size dup v = refl

value_size : (e v : ℕ) → size (value_at e v) ≡ v
value_size e v =
    by_case (λ t. size (pick t (own false v) (pick (ltb e 96) (value_of (lead_of e) v) (own (leb 144 e) v))) ≡ v) (ltb e 16) (λ _. refl)
    (λ _. by_case (λ t. size (pick t (value_of (lead_of e) v) (own (leb 144 e) v)) ≡ v) (ltb e 96) (λ _. lead_size (lead_of e) v) (λ _. refl))

-- the place after it: digits stand up to it, and none at it
no_further : {s : List ℕ} {i e v j u k : ℕ} → NumberAt s i e v j → NumberAt s i e u k → j < k → ⊥
no_further {i = i} {j = j} x y l =
    let a = x.token.low in let b : i + 1 ≤ j = omega arith in let d = y.digits j b l in let m = x.over in omega arith

number_same : {s : List ℕ} {i e v j u k : ℕ} → NumberAt s i e v j → NumberAt s i e u k → ◌≡◌ {A = Option (ℕ × ℕ)} (Some (v, j)) (Some (u, k))
number_same {s} {i} {e} {v} {j} {u} {k} x y =
    let a : j < k → ⊥ = no_further x y in let b : k < j → ⊥ = no_further y x in let p : j ≡ k = omega (arith, a, b) in
    let z = sym x.token.law ∙ y.token.law in
    let q : value_at e v ≡ value_at e u = cc in
    let n : v ≡ u = sym (value_size e v) ∙ ap size q ∙ value_size e u in
    rw (n, p) refl

pub number_unique : (s : List ℕ) (i e : ℕ) (x y : Option (ℕ × ℕ)) → Numbered s i e x → Numbered s i e y → x ≡ y
number_unique s i e (Some (v, j)) (Some (u, k)) a b = number_same a b
number_unique s i e (Some (v, j)) None a b = let z = sym a.token.law ∙ b in zero_one cc
number_unique s i e None (Some (u, k)) a b = let z = sym b.token.law ∙ a in zero_one cc
number_unique s i e None None a b = refl
