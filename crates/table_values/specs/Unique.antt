-- Reading the values of a line has one outcome (01, "What the contracts say"): two that meet the contract on one input are equal, the answer and every entry of the lent slice. Assumes nothing.
use Rattle.std.specs.Prelude.{◌≡◌, refl, List, ℕ, zero, suc, ◌<◌, ℤ, Result, Ok, Err}
use Rattle.std.proofs.Common.{sym, ap, ◌∙◌, arith}
use Rattle.terms.specs.Logic.{zero_one}
use Rattle.table_spec.specs.Values.{Spot}
use Rattle.table_lines.specs.Ends.{end_at}
use Rattle.table_values.specs.Lines.{LineEnds, LineDone, LineBroken, Lined}
use Rattle.table_value.specs.States.{Holds, opening, checking}
use Rattle.table_values.specs.declared.Row.{Row}
use Rattle.terms.specs.declared.Fault.{Fault}
use Rattle.terms.specs.Refusals.{fault_at}

-- a line begins somewhere: no ordinate is asked for, or it is that of the last point
started : {A : Type 0} (want : ℕ) → ((p : ℕ) (w : Spot) → Holds 0 want 0 0 p w → A) → A
started zero f = f 0 _ opening
started (suc n) f = f (suc n) _ (checking (omega arith))

-- ---- the place of the next line

no_sooner : {s : List ℕ} {i j k : ℕ} (x : LineEnds s i j) (y : LineEnds s i k) → x.stop < y.stop → ⊥
no_sooner x y l = let a = y.clear x.stop x.low l in let b = x.ends in omega arith

next_same : {s : List ℕ} {i j k : ℕ} → LineEnds s i j → LineEnds s i k → j ≡ k
next_same {s} {j = j} {k} x y =
    let f : x.stop < y.stop → ⊥ = no_sooner x y in let g : y.stop < x.stop → ⊥ = no_sooner y x in
    let z : x.stop ≡ y.stop = omega (arith, f, g) in
    let a = sym x.next ∙ ap (end_at s) z ∙ y.next in
    cc

-- ---- the state after the line, and the slice

row_same : (x y : Row) → x.at ≡ y.at → x.k ≡ y.k → x.q ≡ y.q → x.dif ≡ y.dif → x ≡ y
row_same x y a b c d = λ i. record { at = a i; k = b i; q = c i; dif = d i }

module _ (N : ℕ) (s : List ℕ) (i k : ℕ) (out : List ℤ) {p : ℕ} {w : Spot} {a b : List ℤ} where
  done_same : {x y : Row} → x.at ≡ y.at → LineDone N s i k p w out a x → LineDone N s i k p w out b y → (◌≡◌ {A = Result Row Fault} (Ok x) (Ok y)) × (a ≡ b)
  done_same {x} {y} e f g =
      let z = sym f.law ∙ g.law in
      let us : f.points ≡ g.points = cc in let q : f.ordinate ≡ g.ordinate = cc in let v : f.spot ≡ g.spot = cc in
      let n : x.k ≡ y.k = f.count ∙ rw us (sym g.count) in
      let l : x.q ≡ y.q = f.last ∙ rw (v, q) (sym g.last) in
      let d : x.dif ≡ y.dif = f.form ∙ rw v (sym g.form) in
      (ap Ok (row_same x y e n l d), f.stored ∙ rw us (sym g.stored))

  broken_same : {n m u v : ℕ} → LineBroken N s i k p w out a n u → LineBroken N s i k p w out b m v → (◌≡◌ {A = Result Row Fault} (Err (fault_at n u)) (Err (fault_at m v))) × (a ≡ b)
  broken_same {n} {m} {u} {v} f g =
      let z = sym f.law ∙ g.law in
      let us : f.points ≡ g.points = cc in let c : n ≡ m = cc in let d : u ≡ v = cc in
      (rw (c, d) refl, f.stored ∙ rw us (sym g.stored))

  unlike : {A : Type 0} {n u : ℕ} {x : Row} → LineDone N s i k p w out a x → LineBroken N s i k p w out b n u → A
  unlike f g = let z = sym f.law ∙ g.law in zero_one cc

pub values_unique : (N : ℕ) (s : List ℕ) (i k want : ℕ) (out a b : List ℤ) (x y : Result Row Fault) → Lined N s i k want out a x → Lined N s i k want out b y → (x ≡ y) × (a ≡ b)
values_unique N s i k want out a b (Ok x) (Ok y) f g = started want (λ p w h. done_same N s i k out (next_same f.ends g.ends) (f.done p w h) (g.done p w h))
values_unique N s i k want out a b (Ok x) (Err y) f g = started want (λ p w h. unlike N s i k out (f.done p w h) (g p w h))
values_unique N s i k want out a b (Err x) (Ok y) f g = started want (λ p w h. unlike N s i k out (g.done p w h) (f p w h))
values_unique N s i k want out a b (Err x) (Err y) f g = started want (λ p w h. broken_same N s i k out (f p w h) (g p w h))
