-- A row held to the points that are still missing, and how it grows, value by value: what code keeps of a row. Assumes nothing.
use Rattle.std.specs.Prelude.{◌≡◌, false, List, [], ◌∷◌, ◌++◌, ℕ, zero, suc, ◌+◌, ◌-◌, ◌≤◌, ◌<◌, ltb, leb, length}
use Rattle.std.proofs.Math.Path.{refl}
use Rattle.std.proofs.Common.{sym, ap, ◌∙◌, append_assoc, arith}
use Rattle.terms.specs.Logic.{pick, by_case, zero_one}
use Rattle.table_spec.specs.Values.{Value, own, gap, by, times, Form, Own, Dup, is_dif, ordinate, first, after, last_or}
use Rattle.table_spec.specs.Reading.{Tokens, over, fault, head, value, line, Says, adds, refuses, says, again}
use Rattle.plain_spec.specs.Rows.{Row, point, done, bad, points, given, values}
use Rattle.plain_spec.specs.Plain.{ordinates, in_dif, Verdict, fine, wrong}

-- ---- a row held to n points: a further one is 11 at its value, and nothing is said after it

abbrev pub hold : Row → ℕ → Row
hold (point a u r) zero = bad 11 a
hold (point a u r) (suc n) = point a u (hold r n)
hold (done d) n = done d
hold (bad c a) n = bad c a

abbrev pub fault_of : Row → Verdict
fault_of (point a u r) = fault_of r
fault_of (done d) = fine
fault_of (bad c a) = wrong c a

-- ---- how a row grows, value by value

-- the row q is the points us, and then the row r; places are told no more
pub record Grown (q r : Row) (us : List ℕ) : Type 0 where
  pub points : ordinates q ≡ us ++ ordinates r
  pub fault : fault_of q ≡ fault_of r
  pub dif : in_dif q ≡ in_dif r

pub grown_none : (r : Row) → Grown r r []
grown_none r = record { points = refl; fault = refl; dif = refl }

pub grown_then : {q r t : Row} {us vs : List ℕ} → Grown q r us → Grown r t vs → Grown q t (us ++ vs)
grown_then {t = t} {us = us} {vs = vs} x y =
    record { points = x.points ∙ ap (λ (l : List ℕ). us ++ l) y.points ∙ sym (append_assoc us vs (ordinates t)); fault = x.fault ∙ y.fault; dif = x.dif ∙ y.dif }

points_held : (a : ℕ) (vs : List ℕ) (r : Row) (m : ℕ) → length vs ≤ m → Grown (hold (points a vs r) m) (hold r (m - length vs)) vs
points_held a [] r m l = let e : m - 0 ≡ m = omega arith in rw e (grown_none (hold r m))
points_held a (v ∷ vs) r zero l = absurd (omega arith)
points_held a (v ∷ vs) r (suc m) l =
    let z = points_held a vs r m (omega arith) in
    let e : suc m - suc (length vs) ≡ m - length vs = omega arith in
    rw e (record { points = ap (λ (l : List ℕ). v ∷ l) z.points; fault = z.fault; dif = z.dif })

points_over : (a : ℕ) (vs : List ℕ) (r : Row) (m : ℕ) → m < length vs → fault_of (hold (points a vs r) m) ≡ wrong 11 a
points_over a [] r m l = absurd (omega arith)
points_over a (v ∷ vs) r zero l = refl
points_over a (v ∷ vs) r (suc m) l = points_over a vs r m (omega arith)

module _ (a q m : ℕ) (f : Form) (v : Value) (r : Tokens) where
  -- the row that a value at the place a begins, after an ordinate q of a form, with room for m points
  abbrev pub from_value : Row
  from_value = hold (values (value a v r) (after f) q) m

  pub value_adds : {vs : List ℕ} {g : Form} → says (after f) q v ≡ adds vs g → length vs ≤ m → Grown from_value (hold (values r (after g) (last_or q vs)) (m - length vs)) vs
  unfolding values
  value_adds {vs} {g} e l = rw e (points_held a vs (values r (after g) (last_or q vs)) m l)

  pub value_over : {vs : List ℕ} {g : Form} → says (after f) q v ≡ adds vs g → m < length vs → fault_of from_value ≡ wrong 11 a
  unfolding values
  value_over {vs} {g} e l = rw e (points_over a vs (values r (after g) (last_or q vs)) m l)

  pub value_refuses : {c : ℕ} → says (after f) q v ≡ refuses c → fault_of from_value ≡ wrong c a
  unfolding values
  value_refuses e = rw e refl

-- a fault of spelling, and the line's end
pub fault_row : (c a q m : ℕ) (f : Form) → hold (values (fault c a) (after f) q) m ≡ bad c a
unfolding values
fault_row c a q m f = refl

pub line_row : (r : Tokens) (q m : ℕ) (f : Form) → hold (values (line r) (after f) q) m ≡ done (is_dif f)
unfolding values
line_row r q m f = refl

-- ---- a line by itself begins as after a DUP that is not DIF: so code needs no state before the first value

says_first : (v : Value) → says (first false) 0 v ≡ says (after (Dup false)) 0 v
unfolding says again
says_first (own m v) = refl
says_first gap = refl
says_first (by m d) = refl
says_first (times n) = sym (by_case (λ t. pick t (refuses 8) (refuses 8) ≡ refuses 8) (ltb n 2) (λ _. refl) (λ _. refl))

pub values_first : (r : Tokens) → values r (first false) 0 ≡ values r (after (Dup false)) 0
unfolding values
values_first (over a) = refl
values_first (fault c a) = refl
values_first (head a h u r) = refl
values_first (value a v r) = ap (given (λ f q. values r (after f) q) a 0) (says_first v)
values_first (line r) = refl

abbrev listed : Says → List ℕ
listed (adds vs g) = vs
listed (refuses c) = []

-- the first value stands for one ordinate
pub first_one : (v : Value) (vs : List ℕ) (g : Form) → says (after (Dup false)) 0 v ≡ adds vs g → says (first false) 0 v ≡ adds (last_or 0 vs ∷ []) g
unfolding says
first_one (own m x) vs g e =
    says_first (own m x)
    ∙ by_case (λ t. pick t (adds (ordinate m x ∷ []) Own) (refuses 9) ≡ adds vs g → pick t (adds (ordinate m x ∷ []) Own) (refuses 9) ≡ adds (last_or 0 vs ∷ []) g) (leb x 2147483647)
    (λ _ z. z ∙ ap (λ (l : List ℕ). adds l g) (rw (← ap listed z) refl)) (λ _ z. zero_one cc) e
first_one gap vs g e = e ∙ ap (λ (l : List ℕ). adds l g) (rw (← ap listed e) refl)
first_one (by m d) vs g e = zero_one cc
first_one (times n) vs g e = let z = says_first (times n) ∙ e in zero_one cc
