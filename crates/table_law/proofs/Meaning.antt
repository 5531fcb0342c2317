-- What reading makes of a value is what the value stands for (01, "Meaning" and "Checks"), both ways. Assumes nothing.
use Rattle.std.specs.Prelude.{◌≡◌, refl, Bool, true, false, List, [], ◌∷◌, ℕ, zero, suc, ◌-◌, ◌≤◌, ltb, leb, eqb}
use Rattle.std.proofs.Common.{sym, subst, arith, ltb-true, ltb-false, leb-true, eqb-true, lt-ltb, le-ltb, le-leb, eq-eqb, ne_eqb}
use Rattle.std.proofs.lemmas.Bool.{eqb-false}
use Rattle.terms.specs.Logic.{pick, by_case, no_way}
use Rattle.table_spec.specs.Values.{Value, own, gap, by, times, Form, Own, Gap, By, Dup, Spot, first, after, ordinate, moved, copies, last_or}
use Rattle.table_spec.specs.Reading.{Says, adds, refuses, in_range, all_in, again, says}
use Rattle.table_law.specs.Spelling.{Ordinate, Sized, size_up, size_down, Step, up, down, Steps, no_step, one_step, same}
use Rattle.table_law.specs.Spelling.{Stands, check, own_first, own_after, gap_first, gap_after, dif_after, dup_own, dup_gap, dup_dif}

-- ---- what a value stands for is said

in_range_lem : (u : ℕ) → Ordinate u → in_range u ≡ true
in_range_lem u h = rw (le-leb 1 u h.low, lt-ltb u 4294967296 h.high) refl

sized_is : {m : Bool} {v u : ℕ} → Sized m v u → (u ≡ ordinate m v) × (v ≤ 2147483647)
sized_is (size_up l) = (refl, l)
sized_is (size_down l) = (refl, l)

step_is : {m : Bool} {d p u : ℕ} → Step m d p u → u ≡ moved m d p
step_is up = refl
step_is down = refl

-- copies of an ordinate, of a value of its own or a missing one, and of a difference
pub own_copies : (n p : ℕ) → (copies n Own p ≡ same n p) × (last_or p (same n p) ≡ p)
own_copies zero p = (refl, refl)
own_copies (suc n) p = let z = own_copies n p in (rw z.0 refl, z.1)

pub gap_copies : (n p : ℕ) → copies n Gap p ≡ same n p
gap_copies zero p = refl
gap_copies (suc n) p = rw (gap_copies n p) refl

steps_are : {m : Bool} {d n p e : ℕ} {us : List ℕ} → Steps m d n p us e → (copies n (By m d) p ≡ us) × (all_in us ≡ true) × (last_or p us ≡ e)
steps_are no_step = (refl, refl, refl)
steps_are (one_step {u = u} s o r) = let z = steps_are r in (rw (← step_is s, z.0) refl, rw (in_range_lem u o) z.1, z.2)

-- what reading says of a value that stands for points, and the last of them
abbrev pub Told : Spot → ℕ → Value → List ℕ → Form → ℕ → Type 0
Told w p x us f e = (says w p x ≡ adds us f) × (last_or p us ≡ e)

sized_told : {m : Bool} {v u : ℕ} → Sized m v u → (leb v 2147483647 ≡ true) × (ordinate m v ≡ u)
sized_told {v = v} h = let z = sized_is h in (le-leb v 2147483647 z.1, sym z.0)

pub stands_says : {w : Spot} {p e : ℕ} {x : Value} {us : List ℕ} {f : Form} → Stands w p x us f e → Told w p x us f e
unfolding says again
stands_says (check {p = p} h) = let z = sized_told h in (rw (z.0, z.1, eq-eqb p p refl) refl, refl)
stands_says (own_first h) = let z = sized_told h in (rw (z.0, z.1) refl, refl)
stands_says (own_after h) = let z = sized_told h in (rw (z.0, z.1) refl, refl)
stands_says gap_first = (refl, refl)
stands_says gap_after = (refl, refl)
stands_says (dif_after {p = p} {u = u} h s o) = (rw (ne_eqb p 0 (λ e. omega arith), ← step_is s, in_range_lem u o) refl, refl)
stands_says (dup_own {p = p} {n = n} h) =
    let z = own_copies n p in let e : suc n - 1 ≡ n = omega arith in (rw (le-ltb (suc n) 2 (omega arith), e, z.0) refl, z.1)
stands_says (dup_gap {p = p} {n = n} h) =
    let e : suc n - 1 ≡ n = omega arith in (rw (le-ltb (suc n) 2 (omega arith), e, gap_copies n p) refl, (own_copies n p).1)
stands_says (dup_dif {n = n} h s) =
    let z = steps_are s in let e : suc n - 1 ≡ n = omega arith in (rw (le-ltb (suc n) 2 (omega arith), e, z.0, z.1) refl, z.2)

-- ---- what is said, a value stands for

-- said of a value at a spot: it stands for that; of a refusal nothing
abbrev pub Said : Spot → ℕ → Value → Says → Type 0
Said w p x (adds us f) = Stands w p x us f (last_or p us)
Said w p x (refuses c) = Unit {0}

ranged : (u : ℕ) → in_range u ≡ true → Ordinate u
ranged u e =
    by_case (λ t. pick t (ltb u 4294967296) false ≡ true → Ordinate u) (leb 1 u)
    (λ l h. record { low = leb-true 1 u l; high = ltb-true u 4294967296 h }) (λ l h. no_way h) e

sized : (m : Bool) (v : ℕ) → v ≤ 2147483647 → Sized m v (ordinate m v)
sized true v l = size_down l
sized false v l = size_up l

pub step : (m : Bool) (d p : ℕ) → Step m d p (moved m d p)
step true d p = down
step false d p = up

steps : (m : Bool) (d n p : ℕ) → all_in (copies n (By m d) p) ≡ true → Steps m d n p (copies n (By m d) p) (last_or p (copies n (By m d) p))
steps m d zero p e = no_step
steps m d (suc n) p e =
    let u = moved m d p in
    by_case (λ t. in_range u ≡ t → pick t (all_in (copies n (By m d) u)) false ≡ true → Steps m d (suc n) p (u ∷ copies n (By m d) u) (last_or u (copies n (By m d) u))) (in_range u)
    (λ l g h. one_step (step m d p) (ranged u g) (steps m d n u h)) (λ l g h. no_way h) refl e

test : (w : Spot) (p : ℕ) (x : Value) (a b : Says) (t : Bool) → (t ≡ true → Said w p x a) → (t ≡ false → Said w p x b) → Said w p x (pick t a b)
test w p x a b true f g = f refl
test w p x a b false f g = g refl

dups : (r : Form) (n p : ℕ) → 1 ≤ n → Said (after r) p (times (suc n)) (again r n p)
unfolding again
dups Own n p h = let z = own_copies n p in rw (z.0, z.1) (dup_own h)
dups Gap n p h = let z = own_copies n p in rw (gap_copies n p, z.1) (dup_gap h)
dups (By m d) n p h = test (after (By m d)) p (times (suc n)) _ _ (all_in (copies n (By m d) p)) (λ e. dup_dif h (steps m d n p e)) (λ e. tt)
dups (Dup b) n p h = tt

-- a DUP with a count of at least 2
counts : (r : Form) (n p : ℕ) → 2 ≤ n → Said (after r) p (times n) (again r (n - 1) p)
counts r zero p h = absurd (omega arith)
counts r (suc n) p h = let e : suc n - 1 ≡ n = omega arith in rw e (dups r n p (omega arith))

checks : (p : ℕ) (m : Bool) (v : ℕ) → v ≤ 2147483647 → eqb (ordinate m v) p ≡ true → Stands (first true) p (own m v) [] Own p
checks p m v l e = check (subst (Sized m v) (eqb-true (ordinate m v) p e) (sized m v l))

pub said : (w : Spot) (p : ℕ) (x : Value) → Said w p x (says w p x)
unfolding says
said (first true) p (own m v) =
    test _ p _ _ _ (leb v 2147483647)
    (λ e. test (first true) p (own m v) _ _ (eqb (ordinate m v) p) (λ g. checks p m v (leb-true v 2147483647 e) g) (λ g. tt)) (λ e. tt)
said (first false) p (own m v) = test _ p _ _ _ (leb v 2147483647) (λ e. own_first (sized m v (leb-true v 2147483647 e))) (λ e. tt)
said (after r) p (own m v) = test _ p _ _ _ (leb v 2147483647) (λ e. own_after (sized m v (leb-true v 2147483647 e))) (λ e. tt)
said (first true) p gap = tt
said (first false) p gap = gap_first
said (after r) p gap = gap_after
said (first c) p (by m d) = tt
said (after r) p (by m d) =
    test _ p _ _ _ (eqb p 0) (λ e. tt)
    (λ e. test (after r) p (by m d) _ _ (in_range (moved m d p)) (λ g. dif_after (let z = eqb-false p 0 e in omega (arith, z)) (step m d p) (ranged _ g)) (λ g. tt))
said (first c) p (times n) = tt
said (after r) p (times n) = test _ p _ _ _ (ltb n 2) (λ e. tt) (λ e. counts r n p (ltb-false n 2 e))
