-- What a line does to the state of reading, said by its row held to the points that are still missing: the law that code cites. Assumes nothing.
use Rattle.std.specs.Prelude.{◌≡◌, Bool, true, false, List, [], ◌∷◌, eqb, length}
use Rattle.std.proofs.Math.Path.{refl}
use Rattle.std.proofs.Common.{sym, ap, ◌∙◌, arith, ltb-true, ltb-false}
use Prim.Native.Nat.{ℕ, suc, ◌+◌, ◌-◌, ◌≤◌}
use Rattle.std.proofs.Math.Dec.{ltb}
use Rattle.terms.specs.Logic.{pick, both, by_case}
use Rattle.table_spec.specs.Frame.{Rules}
use Rattle.table_spec.specs.Values.{Value, Form, Own, Dup, Spot, first, after, last_or, index}
use Rattle.table_spec.specs.Reading.{Tokens, over, fault, head, value, line, adds, refuses, says, Answer, refuse, accept, push, bare, dif_before, checked, judge}
use Rattle.table_spec.specs.ReadingLaws.{push_none}
use Rattle.line_law.specs.WholeLine.{Starts, refused, resume, does, resume_pick}
use Rattle.line_law.proofs.WholeLine.{goes_on}
use Rattle.plain_spec.specs.Rows.{Row, point, done, bad, values, row_of}
use Rattle.plain_spec.specs.Plain.{ordinates, in_dif, new, Verdict, fine, wrong, meets}
use Rattle.plain_law.specs.Within.{beyond, Within, starts_beyond, to_end, end_beyond, end_inside, end_closed, end_row}
use Rattle.plain_law.specs.Growing.{hold, fault_of}
use Rattle.plain_law.specs.Along.{met, shift, After, goes, row_go}

push_met : (u : ℕ) (v : Verdict) (us : List ℕ) (x : Answer) → push (u ∷ []) (met v (push us x)) ≡ met v (push (u ∷ us) x)
unfolding push
push_met u fine us (refuse c a) = refl
push_met u fine us (accept ys) = refl
push_met u (wrong c a) us x = refl

-- a spot after a line that ended in DIF form, or did not
abbrev pub spot_of : Bool → Spot
spot_of true = after (Dup true)
spot_of false = after Own

pub spot_dif : (d : Bool) → dif_before (spot_of d) ≡ d
spot_dif true = refl
spot_dif false = refl

module _ (R : Rules) where
  -- at a line's start nothing else of the spot is looked at
  pub judged_by : (y : Tokens) → Starts y → (i p : ℕ) (v w : Spot) → dif_before v ≡ dif_before w → judge R y i p v ≡ judge R y i p w
  unfolding judge
  judged_by (over a) o i p v w e = rw e refl
  judged_by (fault c a) o i p v w e = refl
  judged_by (head a h u r) o i p v w e = rw e refl
  judged_by (value a x r) o i p v w e = absurd o
  judged_by (line r) o i p v w e = absurd o

  abbrev pub after_row : After R → Row → ℕ → ℕ → Answer
  after_row k r i p = met (fault_of r) (push (ordinates r) (k (i + length (ordinates r)) (last_or p (ordinates r)) (in_dif r)))

  goes_held : (r : Row) (i p : ℕ) (k : After R) → i ≤ R.points → goes R r i p k ≡ after_row k (hold r (R.points - i)) i p
  goes_held (point a u r) i p k l =
      by_case (λ t. ltb i R.points ≡ t → pick t (push (u ∷ []) (goes R r (suc i) u k)) (refuse 11 a) ≡ after_row k (hold (point a u r) (R.points - i)) i p) (ltb i R.points)
      (λ _ e. let g = ltb-true i R.points e in
      let s : R.points - i ≡ suc (R.points - suc i) = omega arith in
      let q = hold r (R.points - suc i) in
      rw (s, shift i (length (ordinates q)), goes_held r (suc i) u k (omega arith)) (push_met u (fault_of q) (ordinates q) (k (suc i + length (ordinates q)) (last_or u (ordinates q)) (in_dif q))))
      (λ _ e. let g = ltb-false i R.points e in let s : R.points - i ≡ 0 = omega arith in rw s refl) refl
  goes_held (done d) i p k l = let e : i + 0 ≡ i = omega arith in rw e (push_none (k i p d))
  goes_held (bad c a) i p k l = refl

  -- reading goes on beyond the line of r
  abbrev pub beyond_line : Tokens → After R
  beyond_line r j q d = judge R (beyond r) j q (spot_of d)

  head_does : (a h u : ℕ) (r : Tokens) (i p : ℕ) (w : Spot) (k : ℕ → ℕ → Spot → Answer)
      → resume (does R (head a h u r) i p w) k
      ≡ pick (R.passing h u (index (dif_before w) i)) (resume (pick (bare r) (refused 7 a) (does R r i p (first (dif_before w)))) k) (refuse 6 a)
  unfolding does
  head_does a h u r i p w k = resume_pick (R.passing h u (index (dif_before w) i)) (pick (bare r) (refused 7 a) (does R r i p (first (dif_before w)))) (refused 6 a) k

  -- THE LAW OF A ROW: 6; then 10; then the row that is held, and reading goes on
  pub row_says : (a h u : ℕ) (r : Tokens) → Within r → (i p : ℕ) (w : Spot) → i ≤ R.points
      → judge R (head a h u r) i p w
      ≡ pick (R.passing h u (index (dif_before w) i)) (met (meets (row_of a r) (dif_before w) p) (goes R (new (row_of a r) (dif_before w)) i p (beyond_line r))) (refuse 6 a)
  row_says a h u r o i p w l =
      let c = dif_before w in
      let y = beyond r in
      let q = to_end r in
      let k = judge R y in
      let x = pick (bare q) (refused 7 a) (does R q i p (first c)) in
      let t = R.passing h u (index c i) in
      ap (λ (z : Tokens). judge R z i p w) (ap (head a h u) (sym (end_beyond r o))) ∙ goes_on R y (head a h u q) (end_closed r o) i p w ∙ head_does a h u q i p w k
      ∙ ap (λ (z : Answer). pick t z (refuse 6 a))
      (row_go R 0 k (beyond_line r) (λ n e v m. judged_by y (starts_beyond r o) n e v (spot_of (dif_before v)) (sym (spot_dif (dif_before v)))) a c q (end_inside r o) i p l
      ∙ ap (λ (z : Row). met (meets z c p) (goes R (new z c) i p (beyond_line r))) (end_row a r))

  -- ---- the same, by what stands after the head

  module _ (a h u : ℕ) (i p : ℕ) (w : Spot) (l : i ≤ R.points) where
    -- a head that passes, and what follows then
    abbrev pub Headed : Tokens → Answer → Type 0
    Headed r x = judge R (head a h u r) i p w ≡ pick (R.passing h u (index (dif_before w) i)) x (refuse 6 a)

    -- 7
    pub row_bare : (r : Tokens) → Headed (line r) (refuse 7 a)
    unfolding judge checked
    row_bare r = refl

    -- 3 or 5 at the first value
    pub row_fault : (c b : ℕ) → Headed (fault c b) (refuse c b)
    unfolding judge checked
    row_fault c b = refl

    -- 8 or 9 at the first value
    pub row_refuses : (b c : ℕ) (v : Value) (r : Tokens) → Within r → says (first false) 0 v ≡ refuses c → Headed (value b v r) (refuse c b)
    unfolding values
    row_refuses b c v r o e = row_says a h u (value b v r) o i p w l ∙ rw e refl

    -- a check line's first value: 10; else it is no point, and the others are held to what is missing
    pub row_checked : (b x : ℕ) (g : Form) (v : Value) (r : Tokens) → Within r → says (first false) 0 v ≡ adds (x ∷ []) g → dif_before w ≡ true
        → Headed (value b v r) (pick (both (ltb 0 x) (eqb x p)) (after_row (beyond_line r) (hold (values r (after g) x) (R.points - i)) i p) (refuse 10 b))
    unfolding values
    row_checked b x g v r o e d =
        row_says a h u (value b v r) o i p w l
        ∙ rw (d, e, goes_held (values r (after g) x) i p (beyond_line r) l)
        (by_case (λ t. pick (R.passing h u (i - 1)) (met (pick t fine (wrong 10 b)) (after_row (beyond_line r) (hold (values r (after g) x) (R.points - i)) i p)) (refuse 6 a)
        ≡ pick (R.passing h u (i - 1)) (pick t (after_row (beyond_line r) (hold (values r (after g) x) (R.points - i)) i p) (refuse 10 b)) (refuse 6 a))
        (both (ltb 0 x) (eqb x p)) (λ _. refl) (λ _. refl))

    -- another line's first value: 11; else it is a point, and the others are held to what is then missing
    pub row_opened : (b x : ℕ) (g : Form) (v : Value) (r : Tokens) → Within r → says (first false) 0 v ≡ adds (x ∷ []) g → dif_before w ≡ false
        → Headed (value b v r) (pick (ltb i R.points) (push (x ∷ []) (after_row (beyond_line r) (hold (values r (after g) x) (R.points - suc i)) (suc i) x)) (refuse 11 b))
    unfolding values
    row_opened b x g v r o e d =
        row_says a h u (value b v r) o i p w l
        ∙ rw (d, e)
        (by_case (λ t. ltb i R.points ≡ t → pick (R.passing h u i) (pick t (push (x ∷ []) (goes R (values r (after g) x) (suc i) x (beyond_line r))) (refuse 11 b)) (refuse 6 a)
        ≡ pick (R.passing h u i) (pick t (push (x ∷ []) (after_row (beyond_line r) (hold (values r (after g) x) (R.points - suc i)) (suc i) x)) (refuse 11 b)) (refuse 6 a)) (ltb i R.points)
        (λ _ e. rw (goes_held (values r (after g) x) (suc i) x (beyond_line r) (ltb-true i R.points e)) refl) (λ _ e. refl) refl)
