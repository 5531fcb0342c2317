-- The two nested scans (`judge`) answer what "each name is looked for among those before it" (`judged`) says, since the places of labels rise.
use Rattle.std.specs.Prelude.{◌≡◌, refl, Bool, true, false, List, [], ◌∷◌, ◌++◌, ℕ, ◌+◌, ◌-◌, ◌≤◌, ◌<◌, leb, eqb, length, get_or, take, drop, Option, Some, None}
use Rattle.std.proofs.Common.{ap, subst, arith, lt-ltb, le-ltb}
use Rattle.terms.specs.Logic.{pick}
use Rattle.label_spec.specs.SharedLaws.{picked}
use Rattle.label_spec.specs.Names.{norm, blank}
use Rattle.label_spec.specs.Labels.{Walk, over, bad, label, longest_name, eq_in, headed, step, walk, from}
use Rattle.label_spec.specs.File.{member, twice, judged}
use Rattle.label_spec.specs.Scans.{known, clash, judge}

-- The labels passed, put before a walk again.
record Passed : Type 0 where
  mark : ℕ
  start : ℕ
  eq : ℕ
  name : List ℕ

abbrev glue : List Passed → Walk → Walk
glue [] k = k
glue (l ∷ ls) k = label l.mark l.start l.eq l.name (glue ls k)

abbrev names : List Passed → List (List ℕ)
names [] = []
names (l ∷ ls) = l.name ∷ names ls

abbrev below : ℕ → List Passed → Type 0
below m [] = Unit
below m (l ∷ ls) = (l.mark < m) × below m ls

-- The places of labels rise, from lo on.
abbrev Rising : ℕ → Walk → Type 0
Rising lo over = Unit
Rising lo (bad x rest) = Unit
Rising lo (label x n e v rest) = (lo ≤ x) × Rising (x + 1) rest

glue_on : (ls : List Passed) (l : Passed) (k : Walk) → glue (ls ++ l ∷ []) k ≡ glue ls (label l.mark l.start l.eq l.name k)
glue_on [] l k = refl
glue_on (a ∷ ls) l k = ap (label a.mark a.start a.eq a.name) (glue_on ls l k)

names_on : (ls : List Passed) (l : Passed) → names (ls ++ l ∷ []) ≡ names ls ++ l.name ∷ []
names_on [] l = refl
names_on (a ∷ ls) l = ap (λ (x : List (List ℕ)). a.name ∷ x) (names_on ls l)

below_on : (m x : ℕ) (ls : List Passed) (l : Passed) → m ≤ x → below m ls → l.mark < x → below x (ls ++ l ∷ [])
below_on m x [] l h b k = (k, tt)
below_on m x (a ∷ ls) l h b k = (omega (arith, b.0), below_on m x ls l h b.1 k)

below_up : (m x : ℕ) (ls : List Passed) → m ≤ x → below m ls → below x ls
below_up m x [] h b = tt
below_up m x (a ∷ ls) h b = (omega (arith, b.0), below_up m x ls h b.1)

-- The inner scan finds w among the labels passed exactly if it is one of their names.
known_glue : (m : ℕ) (w : List ℕ) (ls : List Passed) (k : Walk) → below m ls → known m w k ≡ false → known m w (glue ls k) ≡ member w (names ls)
unfolding known member
known_glue m w [] k b h = h
known_glue m w (l ∷ ls) k b h = rw (lt-ltb l.mark m b.0, known_glue m w ls k b.1 h) refl

known_here : (x n e : ℕ) (v w : List ℕ) (rest : Walk) → known x w (label x n e v rest) ≡ false
unfolding known
known_here x n e v w rest = rw (le-ltb x x (omega arith)) refl

clash_glue : (x n e : ℕ) (v : List ℕ) (ls : List Passed) (rest : Walk) → below x ls → clash x v (glue ls (label x n e v rest)) ≡ twice v (names ls)
unfolding clash twice
clash_glue x n e [] ls rest b = refl
clash_glue x n e (c ∷ v) ls rest b = known_glue x (c ∷ v) ls (label x n e (c ∷ v) rest) b (known_here x n e (c ∷ v) (c ∷ v) rest)

scans : (len : ℕ) (ls : List Passed) (k : Walk) (lo : ℕ) → below lo ls → Rising lo k → judge len (glue ls k) k ≡ judged len (names ls) k
unfolding judge judged
scans len ls over lo b r = refl
scans len ls (bad x rest) lo b r = refl
scans len ls (label x n e v rest) lo b r =
    let l : Passed = record { mark = x; start = n; eq = e; name = v } in
    let tail : judge len (glue ls (label x n e v rest)) rest ≡ judged len (names ls ++ v ∷ []) rest =
    subst (λ w. judge len w rest ≡ judged len (names ls ++ v ∷ []) rest) (glue_on ls l rest)
    (subst (λ ns. judge len (glue (ls ++ l ∷ []) rest) rest ≡ judged len ns rest) (names_on ls l)
    (scans len (ls ++ l ∷ []) rest (x + 1) (below_on lo (x + 1) ls l (omega (arith, r.0)) b (omega arith)) r.1)) in
    rw (clash_glue x n e v ls rest (below_up lo x ls r.0 b), tail) refl

-- The places of a walk rise.
looser : (a b : ℕ) (k : Walk) → a ≤ b → Rising b k → Rising a k
looser a b over h r = tt
looser a b (bad x rest) h r = tt
looser a b (label x n e v rest) h r = (omega (arith, r.0), r.1)

headed_rising : (s : List ℕ) (m n : ℕ) (k : Walk) (p : Option ℕ) → Rising (m + 1) k → Rising m (headed s m n k p)
unfolding headed
headed_rising s m n k None r = tt
headed_rising s m n k (Some e) r = picked (Rising m) (leb (length (norm (take (e - n) s))) longest_name) (omega arith, r) tt

step_rising : (K : Bool → Walk) (s : List ℕ) (i : ℕ) (t : Bool) (b : ℕ) → ((u : Bool) → Rising (i + 1) (K u)) → Rising i (step K s i t b)
unfolding step
step_rising K s i false b h = looser i (i + 1) (K (eqb b 10)) (omega arith) (h (eqb b 10))
step_rising K s i true b h =
    picked (Rising i) (blank b) (looser i (i + 1) (K true) (omega arith) (h true))
    (picked (Rising i) (pick (eqb b 35) (eqb (get_or s 0 0) 35) false)
    (headed_rising (drop 1 s) i (i + 2) (K false) (eq_in (drop 1 s) (i + 2)) (h false))
    (looser i (i + 1) (K (eqb b 10)) (omega arith) (h (eqb b 10))))

walk_rising : (s : List ℕ) (i : ℕ) (t : Bool) → Rising i (walk s i t)
unfolding walk
walk_rising [] i t = tt
walk_rising (b ∷ s) i t = step_rising (walk s (i + 1)) s i t b (walk_rising s (i + 1))

-- The theorem.
pub judge_is : (len : ℕ) (s : List ℕ) (i : ℕ) (t : Bool) → judge len (from s i t) (from s i t) ≡ judged len [] (from s i t)
unfolding from
judge_is len s i t = scans len [] (walk (drop i s) i t) i tt (walk_rising (drop i s) i t)
