-- What a line does (table_law/WholeLine) is what its row says, point by point. Assumes nothing.
use Rattle.std.specs.Prelude.{◌≡◌, Bool, ℕ, suc, ◌+◌, ◌-◌, ◌≤◌, ◌<◌, ltb, eqb, length}
use Rattle.std.proofs.Math.Path.{refl}
use Rattle.std.proofs.Common.{sym, ap, ◌∙◌, arith, ltb-true, ltb-false, leb-true, eqb-true, le-leb, lt-ltb}
use Rattle.std.proofs.Math.Bool.{true, false}
use mathlib.Core.List.{List, [], ◌∷◌}
use Rattle.std.proofs.Math.Dec.{leb}
use Rattle.std.proofs.lemmas.Bool.{lt-leb}
use Rattle.terms.specs.Logic.{pick, both, by_case, no_way}
use Rattle.table_spec.specs.Frame.{Rules}
use Rattle.table_spec.specs.Values.{Value, own, gap, by, times, Form, Own, Gap, Spot, first, after, ordinate, last_or}
use Rattle.table_spec.specs.Reading.{Tokens, over, fault, head, value, line, Says, adds, refuses, says, Answer, refuse, accept, push, bare, dif_before}
use Rattle.table_spec.specs.ReadingLaws.{push_none}
use Rattle.line_law.specs.WholeLine.{Done, refused, add, resume, takes, does, push_add, resume_pick}
use Rattle.plain_spec.specs.Rows.{Row, point, done, bad, points, given, values, row_of}
use Rattle.plain_spec.specs.Plain.{new, Verdict, fine, wrong, meets}

push_one : (u : ℕ) (us : List ℕ) (t : Bool) (x : Answer) (a : ℕ) → push (u ∷ []) (pick t (push us x) (refuse 11 a)) ≡ pick t (push (u ∷ us) x) (refuse 11 a)
unfolding push
push_one u us true (refuse c b) a = refl
push_one u us true (accept ys) a = refl
push_one u us false x a = refl

-- a fault that is met before
abbrev pub met : Verdict → Answer → Answer
met fine x = x
met (wrong c a) x = refuse c a

pub shift : (i n : ℕ) → i + suc n ≡ suc i + n
shift i n = omega arith

-- an ordinate of its own is not missing
present : (m : Bool) (v : ℕ) → v ≤ 2147483647 → 0 < ordinate m v
present true v l = omega arith
present false v l = omega arith

-- the tokens of one line after its head: values, then its end at z, or a fault
abbrev pub Inside : ℕ → Tokens → Type 0
Inside z (over a) = ⊥
Inside z (fault c a) = Unit {0}
Inside z (head a h u r) = ⊥
Inside z (value a v r) = Inside z r
Inside z (line r) = r ≡ over z

module _ (R : Rules) where
  -- what comes after a row: points given, the last one, whether in DIF form
  abbrev pub After : Type 0
  After = ℕ → ℕ → Bool → Answer

  -- a row, point by point, and what comes after it
  abbrev pub goes : Row → ℕ → ℕ → After → Answer
  goes (point a u r) i p k = pick (ltb i R.points) (push (u ∷ []) (goes r (suc i) u k)) (refuse 11 a)
  goes (done d) i p k = k i p d
  goes (bad c a) i p k = refuse c a

  points_go : (a : ℕ) (vs : List ℕ) (r : Row) (i p : ℕ) (k : After) → i ≤ R.points
      → goes (points a vs r) i p k ≡ pick (leb (i + length vs) R.points) (push vs (goes r (i + length vs) (last_or p vs) k)) (refuse 11 a)
  points_go a [] r i p k l = let e : i + 0 ≡ i = omega arith in rw (e, le-leb i R.points l) (push_none (goes r i p k))
  points_go a (u ∷ us) r i p k l =
      by_case (λ t. ltb i R.points ≡ t → pick t (push (u ∷ []) (goes (points a us r) (suc i) u k)) (refuse 11 a)
      ≡ pick (leb (i + suc (length us)) R.points) (push (u ∷ us) (goes r (i + suc (length us)) (last_or u us) k)) (refuse 11 a)) (ltb i R.points)
      (λ _ e. rw (shift i (length us), points_go a us r (suc i) u k (ltb-true i R.points e))
      (push_one u us (leb (suc i + length us) R.points) (goes r (suc i + length us) (last_or u us) k) a))
      (λ _ e. let h = ltb-false i R.points e in let g : R.points < i + suc (length us) = omega arith in rw (lt-leb (i + suc (length us)) R.points g) refl) refl

  -- k: reading goes on after the line; K: the same, by what the row leaves behind
  module _ (z : ℕ) (k : ℕ → ℕ → Spot → Answer) (K : After) (on : (i p : ℕ) (w : Spot) → i ≤ R.points → k i p w ≡ K i p (dif_before w)) where
    -- a value that says x, and what comes after it
    takes_go : (f : ℕ → ℕ → Form → Done) (g : Form → ℕ → Row) (a i p : ℕ) (x : Says) → i ≤ R.points
        → ((j q : ℕ) (r : Form) → j ≤ R.points → resume (f j q r) k ≡ goes (g r q) j q K)
        → resume (takes R f a i p x) k ≡ goes (given g a p x) i p K
    takes_go f g a i p (refuses c) l h = refl
    takes_go f g a i p (adds vs r) l h =
        let j = i + length vs in
        let q = last_or p vs in
        let d = f j q r in
        rw (resume_pick (leb j R.points) (add vs d) (refused 11 a) k, ← push_add vs d k, points_go a vs (g r q) i p K l)
        (by_case (λ t. leb j R.points ≡ t → pick t (push vs (resume d k)) (refuse 11 a) ≡ pick t (push vs (goes (g r q) j q K)) (refuse 11 a)) (leb j R.points)
        (λ _ e. ap (push vs) (h j q r (leb-true j R.points e))) (λ _ e. refl) refl)

    values_go : (r : Tokens) → Inside z r → (i p : ℕ) (f : Form) → i ≤ R.points → resume (does R r i p (after f)) k ≡ goes (values r (after f) p) i p K
    unfolding does values
    values_go (over a) h i p f l = absurd h
    values_go (fault c a) h i p f l = refl
    values_go (head a g u r) h i p f l = absurd h
    values_go (value a v r) h i p f l =
        takes_go (λ j q e. does R r j q (after e)) (λ e q. values r (after e) q) a i p (says (after f) p v) l (λ j q e m. values_go r h j q e m)
    values_go (line r) h i p f l = rw h (sym (push_none (k i p (after f))) ∙ on i p (after f) l)

    -- the values after the first
    abbrev then_does : Tokens → ℕ → ℕ → Form → Done
    then_does r j q f = does R r j q (after f)

    abbrev then_row : Tokens → Form → ℕ → Row
    then_row r f q = values r (after f) q

    said_go : (r : Tokens) → Inside z r → (a i p : ℕ) (n : Says) → i ≤ R.points → resume (takes R (then_does r) a i p n) k ≡ goes (given (then_row r) a p n) i p K
    said_go r h a i p n l = takes_go (then_does r) (then_row r) a i p n l (λ j q e m. values_go r h j q e m)

    -- an ordinate of its own, first on a check line
    check_go : (r : Tokens) → Inside z r → (a i p o : ℕ) → i ≤ R.points → 0 < o
        → resume (takes R (then_does r) a i p (pick (eqb o p) (adds [] Own) (refuses 10))) k
        ≡ met (pick (both (ltb 0 o) (eqb o p)) fine (wrong 10 a)) (goes (values r (after Own) o) i p K)
    check_go r h a i p o l g =
        rw (lt-ltb 0 o g)
        (by_case (λ t. eqb o p ≡ t → resume (takes R (then_does r) a i p (pick t (adds [] Own) (refuses 10))) k
        ≡ met (pick t fine (wrong 10 a)) (goes (values r (after Own) o) i p K)) (eqb o p)
        (λ _ e. said_go r h a i p (adds [] Own) l ∙ ap (λ (q : ℕ). goes (values r (after Own) q) i p K) (sym (eqb-true o p e))) (λ _ e. refl) refl)

    -- the first value of a line by itself, which says n there, and in its place
    abbrev FirstGoes : Bool → Tokens → ℕ → ℕ → ℕ → Says → Says → Type 0
    FirstGoes c r a i p x n = resume (takes R (then_does r) a i p x) k ≡ met (meets (given (then_row r) a 0 n) c p) (goes (new (given (then_row r) a 0 n) c) i p K)

    value_go : (c : Bool) (v : Value) (r : Tokens) → Inside z r → (a i p : ℕ) → i ≤ R.points → FirstGoes c r a i p (says (first c) p v) (says (first false) 0 v)
    unfolding says
    value_go true (own m v) r h a i p l =
        by_case (λ t. leb v 2147483647 ≡ t
        → FirstGoes true r a i p (pick t (pick (eqb (ordinate m v) p) (adds [] Own) (refuses 10)) (refuses 9)) (pick t (adds (ordinate m v ∷ []) Own) (refuses 9))) (leb v 2147483647)
        (λ _ e. check_go r h a i p (ordinate m v) l (present m v (leb-true v 2147483647 e))) (λ _ e. refl) refl
    value_go false (own m v) r h a i p l =
        by_case (λ t. FirstGoes false r a i p (pick t (adds (ordinate m v ∷ []) Own) (refuses 9)) (pick t (adds (ordinate m v ∷ []) Own) (refuses 9))) (leb v 2147483647)
        (λ _. said_go r h a i p (adds (ordinate m v ∷ []) Own) l) (λ _. refl)
    value_go true gap r h a i p l = refl
    value_go false gap r h a i p l = said_go r h a i p (adds (0 ∷ []) Gap) l
    value_go true (by m d) r h a i p l = refl
    value_go false (by m d) r h a i p l = refl
    value_go true (times n) r h a i p l = refl
    value_go false (times n) r h a i p l = refl

    -- the values of a line that has some
    first_go : (c : Bool) (r : Tokens) → Inside z r → bare r ≡ false → (i p : ℕ) → i ≤ R.points
        → resume (does R r i p (first c)) k ≡ met (meets (values r (first false) 0) c p) (goes (new (values r (first false) 0) c) i p K)
    unfolding does values
    first_go c (over a) h b i p l = absurd h
    first_go c (fault n a) h b i p l = refl
    first_go c (head a g u r) h b i p l = absurd h
    first_go c (line r) h b i p l = no_way (sym b)
    first_go c (value a v r) h b i p l = value_go c v r h a i p l

    -- 7, or the values
    pub row_go : (a : ℕ) (c : Bool) (r : Tokens) → Inside z r → (i p : ℕ) → i ≤ R.points
        → resume (pick (bare r) (refused 7 a) (does R r i p (first c))) k ≡ met (meets (row_of a r) c p) (goes (new (row_of a r) c) i p K)
    row_go a c r h i p l =
        by_case (λ t. bare r ≡ t → resume (pick t (refused 7 a) (does R r i p (first c))) k
        ≡ met (meets (pick t (bad 7 a) (values r (first false) 0)) c p) (goes (new (pick t (bad 7 a) (values r (first false) 0)) c) i p K)) (bare r)
        (λ _ e. refl) (λ _ e. first_go c r h e i p l) refl
