-- 02, T-14: the plain reading of a body is its reading: number, place and ordinates, on every input. Assumes nothing.
use Rattle.std.specs.Prelude.{◌≡◌, Bool, ltb, ℤ}
use Rattle.std.proofs.Math.Path.{refl, sym}
use Rattle.std.proofs.Common.{ap, ◌∙◌}
use mathlib.Core.List.{List, [], ◌∷◌, ◌++◌}
use Prim.Native.Nat.{ℕ, suc, ◌+◌, ◌≤◌}
use native.Mathlib.Omega.{arith}
use Rattle.std.proofs.Math.ListN.{length}
use Rattle.terms.specs.Logic.{pick, by_case}
use Rattle.table_spec.specs.Frame.{Rules, rules, abscissa, longest_line}
use Rattle.table_spec.specs.Values.{Own, Spot, first, after, last_or, index}
use Rattle.table_spec.specs.Reading.{Tokens, over, fault, head, value, line, fresh, stop, tokens, Answer, refuse, accept, push, bare, dif_before, finish, judge, long_line, line_length, sooner, read}
use Rattle.table_spec.specs.Reading.{read_table, stored}
use Rattle.table_spec.specs.ReadingLaws.{push_none}
use Rattle.line_law.specs.WholeLine.{refused, resume, does, line_does, reading, read_is}
use Rattle.line_law.proofs.WholeLine.{line_then, last_line}
use Rattle.plain_spec.specs.Rows.{lines, Row, point, done, bad, Line, unread, row_of, expand, alone, expanded}
use Rattle.plain_spec.specs.Plain.{ordinates, in_dif, new, Verdict, fine, wrong, then, meets, fits, onward, checks, laid, answer, plain, plain_table}
use Rattle.plain_law.specs.Along.{met, shift, Inside, After, goes, row_go}
use Rattle.plain_law.specs.Single.{Alone, Single, line_alone}
use Rattle.plain_law.specs.Lines.{Cut, no_line, end_line, whole_line, cut, lines_whole, lines_last, single_whole, single_last, length_whole}

push_answer : (u : ℕ) (x : Verdict) (ys : List ℕ) → push (u ∷ []) (answer x ys) ≡ answer x (u ∷ ys)
unfolding push
push_answer u fine ys = refl
push_answer u (wrong c a) ys = refl

met_answer : (v x : Verdict) (ys : List ℕ) → met v (answer x ys) ≡ answer (then v x) ys
met_answer fine x ys = refl
met_answer (wrong c a) x ys = refl

module _ (R : Rules) where
  -- ---- a line: its row, checked and laid

  module _ (z : ℕ) (ls : List Line) where
    -- the rows after it, checked and laid
    abbrev rest : After R
    rest i p c = answer (checks R z ls i p c) (laid ls c)

    goes_laid : (r : Row) (i p : ℕ) → goes R r i p rest ≡ answer (onward R (checks R z ls) r i p) (ordinates r ++ laid ls (in_dif r))
    goes_laid (point a u r) i p =
        by_case (λ t. pick t (push (u ∷ []) (goes R r (suc i) u rest)) (refuse 11 a)
        ≡ answer (then (pick t (fits R.points r (suc i)) (wrong 11 a)) (checks R z ls (i + suc (length (ordinates r))) (last_or u (ordinates r)) (in_dif r)))
        (u ∷ ordinates r ++ laid ls (in_dif r))) (ltb i R.points)
        (λ _. rw (shift i (length (ordinates r)), goes_laid r (suc i) u) (push_answer u (onward R (checks R z ls) r (suc i) u) (ordinates r ++ laid ls (in_dif r)))) (λ _. refl)
    goes_laid (done d) i p = let e : i + 0 ≡ i = omega arith in rw e refl
    goes_laid (bad c a) i p = refl

    -- reading goes on as these rows say
    module _ (k : ℕ → ℕ → Spot → Answer) (on : (i p : ℕ) (w : Spot) → i ≤ R.points → k i p w ≡ rest i p (dif_before w)) where
      abbrev Plainly : Line → ℕ → ℕ → Spot → Answer
      Plainly x i p w = answer (checks R z (x ∷ ls) i p (dif_before w)) (laid (x ∷ ls) (dif_before w))

      head_passed : (y a : ℕ) (r : Tokens) → Inside y r → (i p : ℕ) (c : Bool) → i ≤ R.points
          → resume (pick (bare r) (refused 7 a) (does R r i p (first c))) k
          ≡ answer (then (meets (row_of a r) c p) (onward R (checks R z ls) (new (row_of a r) c) i p)) (ordinates (new (row_of a r) c) ++ laid ls (in_dif (new (row_of a r) c)))
      head_passed y a r o i p c l =
          let q = row_of a r in
          row_go R y k rest on a c r o i p l ∙ ap (met (meets q c p)) (goes_laid (new q c) i p)
          ∙ met_answer (meets q c p) (onward R (checks R z ls) (new q c) i p) (ordinates (new q c) ++ laid ls (in_dif (new q c)))

      tokens_read : (y : ℕ) (x : Tokens) → Alone y x → (i p : ℕ) (w : Spot) → i ≤ R.points → resume (does R x i p w) k ≡ Plainly (expand x) i p w
      unfolding does checks laid expand
      tokens_read y (over a) o i p w l = sym (push_none (k i p w)) ∙ on i p w l
      tokens_read y (fault c a) o i p w l = refl
      tokens_read y (head a h u r) o i p w l =
          let c = dif_before w in
          let q = row_of a r in
          by_case (λ t. resume (pick t (pick (bare r) (refused 7 a) (does R r i p (first c))) (refused 6 a)) k
          ≡ answer (pick t (then (meets q c p) (onward R (checks R z ls) (new q c) i p)) (wrong 6 a)) (ordinates (new q c) ++ laid ls (in_dif (new q c)))) (R.passing h u (index c i))
          (λ _. head_passed y a r o i p c l) (λ _. refl)
      tokens_read y (value a v r) o i p w l = absurd o
      tokens_read y (line r) o i p w l = absurd o

      -- 16 first
      line_reads : (t : List ℕ) (a : ℕ) → Single t → (i p : ℕ) (w : Spot) → i ≤ R.points → resume (line_does R t a i p w) k ≡ Plainly (alone R.tabs a t) i p w
      unfolding checks laid
      line_reads t a o i p w l =
          let x = tokens R.tabs t 0 a fresh in
          by_case (λ q. resume (pick q (refused 16 a) (does R x i p w)) k ≡ Plainly (pick q (unread 16 a) (expand x)) i p w) (ltb longest_line (line_length t))
          (λ _. refl) (λ _. tokens_read (a + length t) x (line_alone R.tabs t a o) i p w l)

  -- ---- the body, line by line

  end_reads : (a i p : ℕ) (w : Spot) → finish R a i (dif_before w) ≡ answer (checks R a [] i p (dif_before w)) (laid [] (dif_before w))
  unfolding finish checks laid
  end_reads a i p w =
      by_case (λ t. pick t (refuse 12 a) (pick (dif_before w) (refuse 13 a) (accept [])) ≡ answer (pick t (wrong 12 a) (pick (dif_before w) (wrong 13 a) fine)) []) (ltb i R.points)
      (λ _. refl) (λ _. by_case (λ t. pick t (refuse 13 a) (accept []) ≡ answer (pick t (wrong 13 a) fine) []) (dif_before w) (λ _. refl) (λ _. refl))

  body_reads : (s : List ℕ) → Cut s → (a z i p : ℕ) (w : Spot) → a + length s ≡ z → i ≤ R.points
      → reading R s a i p w ≡ answer (checks R z (expanded R.tabs a (lines s)) i p (dif_before w)) (laid (expanded R.tabs a (lines s)) (dif_before w))
  unfolding expanded
  body_reads [] no_line a z i p w e l =
      unfold lines in unfold tokens in unfold stop in unfold long_line in unfold sooner in unfold judge in let g : z ≡ a = omega arith in rw g (end_reads a i p w)
  body_reads s (end_line b t h) a z i p w e l =
      rw (lines_last b t h, last_line R (b ∷ t) a i p w h, e)
      (line_reads z [] (λ j q u. finish R z j (dif_before u)) (λ j q u m. end_reads z j q u) (b ∷ t) a (single_last (b ∷ t) h) i p w l)
  body_reads s (whole_line t m h k) a z i p w e l =
      let n = a + suc (length t) in
      let g : n + length m ≡ z = (let q = length_whole t m in omega arith) in
      let f : length (t ++ 10 ∷ []) ≡ suc (length t) = (let q = length_whole t [] in omega arith) in
      rw (lines_whole t m h, line_then R t m a i p w h, f)
      (line_reads z (expanded R.tabs n (lines m)) (reading R m n) (λ j q u v. body_reads m k n z j q u g v) (t ++ 10 ∷ []) a (single_whole t h) i p w l)

-- T-14: "gives the first engine's number, place .. and ordinates on every input": every body, all rules
pub plain_read : (R : Rules) (s : List ℕ) → plain R s ≡ read R s
unfolding plain
plain_read R s = sym (read_is R s ∙ body_reads R s (cut s) 0 (length s) 0 0 (after Own) (omega arith) (omega arith))

-- 1 and 2 too
pub plain_table_lem : (f l : ℤ) (n : ℕ) (s : List ℕ) (space : ℕ) → plain_table f l n s space ≡ read_table f l n s space
unfolding plain_table read_table
plain_table_lem f l n s space = rw (plain_read (rules (abscissa f) (abscissa l) n) s) refl

-- "lent slices included"
pub plain_stored : (f l : ℤ) (n : ℕ) (s : List ℕ) (out : List ℤ) → stored out (plain_table f l n s (length out)) ≡ stored out (read_table f l n s (length out))
plain_stored f l n s out = ap (stored out) (plain_table_lem f l n s (length out))
