-- Written lines are spelled, in each of the four forms (02, T-02), whatever heads they have that are spelled and pass. Assumes nothing.
use Rattle.std.specs.Prelude.{◌≡◌, refl, Bool, leb}
use Rattle.std.proofs.Common.{sym, ◌∙◌, add-suc, not-suc-le-zero, le_of_suc-le-suc, add-one, lit<, length-take-le}
use Rattle.std.proofs.Math.Path.{ap, subst}
use Rattle.std.proofs.Math.Bool.{true, false}
use mathlib.Core.List.{List, [], ◌∷◌, ◌++◌, append_assoc}
use Prim.Native.Nat.{ℕ, zero, suc, ◌+◌, ◌-◌, ◌≤◌, ◌<◌}
use native.Mathlib.Omega.{arith}
use Rattle.std.proofs.Math.Nat.{add-zero, suc-add}
use Rattle.std.proofs.Math.ListN.{length, take, drop, take-append-drop}
use Rattle.terms.specs.Logic.{pick, by_case, no_way}
use Rattle.table_spec.specs.Frame.{Rules, longest_line}
use Rattle.table_spec.specs.Values.{Form, Own, Gap, By, Dup, is_dif, first, after, copies, last_or}
use Rattle.table_spec.specs.Groups.{form, sqz_text, dup_text, group}
use Rattle.table_spec.specs.Writing.{put, check, open_line, go_on, close, text, lines_of}
use Rattle.table_law.specs.Spelling as sp
use Rattle.table_law.specs.Small.{Small}
use Rattle.table_write_law.specs.Tokens.{Inside, line_ends, headed, sqz_value, first_value, next_value, Last, many_copies, many_last, dup_value, form_last}
use Rattle.table_spec.specs.declared.Style.{Style}
use Rattle.table_spec.specs.Values.{Form, Own, Gap, By, Dup, is_dif, first, after, copies, last_or}
use Rattle.table_spec.specs.Groups.{form, sqz_text, seen_after, more_of, dup_text, group}
use Rattle.table_write_law.specs.Tokens.{Inside, line_ends, Passing, headed, sqz_value, first_value, next_value, Last, more_many, more_le, many_copies, many_last, dup_value, form_last}

-- the last ordinate has 32 bits, and is not missing after a DIF form
pub record Ok (r : Form) (p : ℕ) : Type 0 where
  pub small : p < 4294967296
  pub given : is_dif r ≡ true → 0 < p

last_small : (p n : ℕ) (ys : List ℕ) → p < 4294967296 → Small ys → last_or p (take n ys) < 4294967296
last_small p zero ys h k = h
last_small p (suc n) [] h k = h
last_small p (suc n) (y ∷ ys) h k = last_small y n ys k.0 k.1

last_given : (r : Form) (p : ℕ) → Last r p → is_dif r ≡ true → 0 < p
last_given Own p o e = o
last_given Gap p o e = no_way e
last_given (By m d) p o e = o
last_given (Dup b) p o e = o e

-- heads that are spelled and pass
module _ (st : Style) (R : Rules) (few : R.points ≤ 65536) (hd : ℕ → List ℕ) (at : ℕ → ℕ) (heads : (i : ℕ) (s : List ℕ) → i < R.points → Passing R i (at i) (hd i ++ s) s) where
  abbrev Left : List ℕ → Type 0
  Left zs = (n i p : ℕ) (r : Form) (col : ℕ) → Small zs → Ok r (last_or p (take n zs)) → n ≤ length zs → 0 < i → i + length zs ≡ R.points
      → Inside R (after r) (i + n) (last_or p (take n zs)) (drop n zs) (text st hd zs n i p (is_dif r) col)

  -- ---- check lines

  check_line : {ys s : List ℕ} (i p : ℕ) → 0 < p → p < 4294967296 → 0 < i → i ≤ R.points → Inside R (after Own) i p ys s → sp.Body R i p true ys (check st hd i p ++ s)
  unfolding check
  check_line {ys = ys} {s = s} i p a b g l n =
      let k : i - 1 < R.points = omega arith in
      let m : Inside R (after Own) (i + 0) p ys s = rw (add-zero i) n in
      rw append_assoc (headed (heads (i - 1) (sqz_text p ++ s) k) sp.last_given (sqz_value {us = []} p a b (λ m v z. sp.check z) m))

  closes : (b : Bool) (i p : ℕ) → (b ≡ true → 0 < p) → p < 4294967296 → 0 < i → i ≡ R.points → sp.Body R i p b [] (close st hd b i p)
  unfolding close
  closes false i p g h a l = rw l sp.end
  closes true i p g h a l = check_line i p (g refl) h a (omega arith) (line_ends (rw l sp.end))

  -- ---- groups

  module _ (y : ℕ) (ys : List ℕ) (ih : Left ys) (sy : y < 4294967296) (sys : Small ys) where
    -- what follows the first value of a group
    more : (r : Form) (i col n : ℕ) → more_of st r y ys ≡ n → Last r y → 0 < i → i + length ys ≡ R.points → Inside R (after r) i y ys (dup_text n ++ text st hd ys n i y (is_dif r) col)
    more r i col zero e o g b = unfold dup_text in rw add-zero at (ih 0 i y r col sys (record { small = sy; given = last_given r y o }) (omega arith) g b)
    more r i col (suc n) q o g b =
        let e = more_many st r y ys n q in
        let tk : take (suc n) ys ≡ copies (suc n) r y = rw e at (many_copies r y ys o) in
        let le : suc n ≤ length ys = omega (arith, more_le st r y ys) in
        let all : copies (suc n) r y ++ drop (suc n) ys ≡ ys = ap (λ (l : List ℕ). l ++ drop (suc n) ys) (sym tk) ∙ take-append-drop (suc n) ys in
        let ok : Ok (Dup (is_dif r)) (last_or y (take (suc n) ys)) = record {
          small = last_small y (suc n) ys sy sys;
          given = last_given r (last_or y (take (suc n) ys)) (rw e at (many_last r y ys o));
        } in
        let k = ih (suc n) i y (Dup (is_dif r)) col sys ok le g b in
        let q0 : Inside R (after (Dup (is_dif r))) (i + length (take (suc n) ys)) (last_or y (take (suc n) ys)) (drop (suc n) ys) (text st hd ys (suc n) i y (is_dif r) col) =
        rw (length-take-le (suc n) ys le) k in
        let q1 = subst (λ (l : List ℕ). Inside R (after (Dup (is_dif r))) (i + length l) (last_or y l) (drop (suc n) ys) (text st hd ys (suc n) i y (is_dif r) col)) tk q0 in
        subst (λ (l : List ℕ). Inside R (after r) i y l (dup_text (suc n) ++ text st hd ys (suc n) i y (is_dif r) col)) all (dup_value r y ys n (omega arith) o sys e q1)

    tail : (p i col : ℕ) → i + length (y ∷ ys) ≡ R.points
        → Inside R (after (form p y)) (i + 1) y ys (dup_text (more_of st (form p y) y ys) ++ text st hd ys (more_of st (form p y) y ys) (suc i) y (is_dif (form p y)) col)
    tail p i col b = rw (add-one i) (more (form p y) (suc i) col (more_of st (form p y) y ys) refl (form_last p y) (omega arith) (omega arith))

    put_next : (r : Form) (i p col : ℕ) → p < 4294967296 → i + length (y ∷ ys) ≡ R.points → Inside R (after r) i p (y ∷ ys) (put st hd (text st hd ys) col i p y ys)
    unfolding put group
    put_next r i p col h b = rw append_assoc (next_value st y h sy (tail (seen_after st p) i _ b))

    put_first : (i p col : ℕ) → i + length (y ∷ ys) ≡ R.points → Inside R (first false) i p (y ∷ ys) (put st hd (text st hd ys) col i 0 y ys)
    unfolding put group
    put_first i p col b = rw append_assoc (first_value st y sy (tail (seen_after st 0) i _ b))

    opens : (c : Bool) (i p : ℕ) → (c ≡ true → (0 < p) × (0 < i)) → p < 4294967296 → i + length (y ∷ ys) ≡ R.points → sp.Body R i p c (y ∷ ys) (open_line st hd (text st hd ys) c i p y ys)
    unfolding open_line
    opens true i p g h b = check_line i p (g refl).0 h (g refl).1 (omega arith) (put_next Own i p (length (check st hd i p)) h b)
    opens false i p g h b = let k : i < R.points = omega arith in headed (heads i _ k) sp.next_point (put_first i p (length (hd i)) b)

    goes_on : (r : Form) (i p col : ℕ) → Ok r p → 0 < i → i + length (y ∷ ys) ≡ R.points → Inside R (after r) i p (y ∷ ys) (go_on st hd (text st hd ys) (is_dif r) col i p y ys)
    unfolding go_on
    goes_on r i p col o a b =
        let K = text st hd ys in
        by_case (λ t. Inside R (after r) i p (y ∷ ys) (pick t (put st hd K col i p y ys) (13 ∷ 10 ∷ open_line st hd K (is_dif r) i p y ys)))
        (leb (col + length (group st p y ys)) longest_line)
        (λ e. put_next r i p col o.small b)
        (λ e. line_ends (opens (is_dif r) i p (λ d. (o.given d, a)) o.small b))

  spells : (zs : List ℕ) → Left zs
  unfolding text
  spells [] zero i p r col s o l g b = rw add-zero (line_ends (closes (is_dif r) i p o.given o.small g (omega arith)))
  spells [] (suc n) i p r col s o l g b = absurd (not-suc-le-zero l)
  spells (y ∷ ys) zero i p r col s o l g b = rw add-zero (goes_on y ys (spells ys) s.0 s.1 r i p col o g b)
  spells (y ∷ ys) (suc n) i p r col s o l g b =
      rw (add-suc i n, ← suc-add i n) (spells ys n (suc i) y r col s.1 o (le_of_suc-le-suc l) (omega arith) (omega arith))

  -- the text of a list that is not empty
  pub lines_body : (ys : List ℕ) → Small ys → length ys ≡ R.points → 0 < R.points → sp.Body R 0 0 false ys (lines_of st hd ys)
  unfolding lines_of
  lines_body [] s b h = absurd (omega arith)
  lines_body (y ∷ ys) s b h = opens y ys (spells ys) s.0 s.1 false 0 0 (λ e. no_way e) (lit< tt) (omega arith)
