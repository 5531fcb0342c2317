-- The written text point by point: what is left of it in a state, said by the next group. No place of the code is named here. Assumes nothing.
use mathlib.Core.Path.{◌≡◌, refl, sym, ap, ◌∙◌}
use mathlib.Core.Bool.{Bool, true, false}
use mathlib.Core.List.{List, [], ◌∷◌, ◌++◌}
use Prim.Native.Nat.{ℕ, zero, suc, ◌+◌, ◌-◌, ◌≤◌, ◌<◌}
use native.Mathlib.Omega.{arith}
use native.Mathlib.Nat.{add-zero, add-suc, suc-add, not-suc-le-zero, le_of_suc-le-suc}
use native.Mathlib.Numerals.{add-one}
use lib.ListN.{length, get_or, take, drop, length-drop, drop_of_length-le}
use lib.Seq.{drop-cons, drop-drop}
use borrow.Author.Tests.{le-leb, lt-leb}
use Rattle.terms.specs.Logic.{pick}
use Rattle.table_spec.specs.Values.{last_or}
use Rattle.table_spec.specs.Groups.{form}
use Rattle.table_spec.specs.Writing.{put, check, open_line, go_on, close, text, lines_of}
use Rattle.table_write_law.specs.Tokens.{many_le}
use Rattle.table_write_law.specs.Lengths.{group_any}
use Rattle.text_openings.specs.declared.State.{State}
use Rattle.text_tokens.specs.Tokens.{count_at, group_at, dif_at}
use Rattle.text_openings.specs.Lines.{from, after, opening, start}
use Rattle.table_spec.specs.declared.Style.TheVariants.{Difdup}

-- ---- from a point on

last_at : (ys : List ℕ) (m i : ℕ) → i + m < length ys → last_or (get_or ys i 0) (take m (drop (suc i) ys)) ≡ get_or ys (i + m) 0
last_at ys zero i h = rw (add-zero i) refl
last_at ys (suc m) i h = rw (drop-cons ys (suc i) 0 (omega arith), add-suc i m, ← suc-add i m) (last_at ys m (suc i) (omega arith))

module _ (hd : ℕ → List ℕ) where
  -- points that are passed over
  skip : (zs : List ℕ) (n i p : ℕ) (dif : Bool) (col : ℕ) → n ≤ length zs → text Difdup hd zs n i p dif col ≡ text Difdup hd (drop n zs) 0 (i + n) (last_or p (take n zs)) dif col
  unfolding text
  skip zs zero i p dif col h = rw (add-zero i) refl
  skip [] (suc n) i p dif col h = absurd (not-suc-le-zero h)
  skip (y ∷ ys) (suc n) i p dif col h = rw (add-suc i n, ← suc-add i n) (skip ys n (suc i) y dif col (le_of_suc-le-suc h))

  module _ (ys : List ℕ) (i : ℕ) (h : i < length ys) where
    count_le : (p : ℕ) → i + 1 + count_at ys i p ≤ length ys
    count_le p = omega (arith, many_le (form p (get_or ys i 0)) (get_or ys i 0) (drop (i + 1) ys), length-drop (i + 1) ys)

    onward : (m : ℕ) (dif : Bool) (col : ℕ) → i + 1 + m ≤ length ys
        → text Difdup hd (drop (i + 1) ys) m (suc i) (get_or ys i 0) dif col ≡ text Difdup hd (drop (i + m + 1) ys) 0 (i + m + 1) (get_or ys (i + m) 0) dif col
    onward m dif col l =
        let e : i + m + 1 ≡ i + 1 + m = omega arith in
        let f : suc i + m ≡ i + 1 + m = omega arith in
        skip (drop (i + 1) ys) m (suc i) (get_or ys i 0) dif col (omega (arith, length-drop (i + 1) ys))
        ∙ rw (drop-drop m (i + 1) ys, e, f, ← last_at ys m i (omega arith), add-one i) refl

    puts : (p col : ℕ) → put Difdup hd (text Difdup hd (drop (i + 1) ys)) col i p (get_or ys i 0) (drop (i + 1) ys) ≡ after hd ys i p col
    unfolding put after from
    puts p col = rw (onward (count_at ys i p) (dif_at ys i p) (col + length (group_at ys i p)) (count_le p)) refl

    opens : (dif : Bool) (p : ℕ)
        → open_line Difdup hd (text Difdup hd (drop (i + 1) ys)) dif i p (get_or ys i 0) (drop (i + 1) ys) ≡ opening hd dif i p ++ after hd ys i (pick dif p 0) (length (opening hd dif i p))
    unfolding open_line
    opens true p = rw (puts p (length (check Difdup hd i p))) refl
    opens false p = rw (puts 0 (length (hd i))) refl

  module _ (ys : List ℕ) (s : State) where
    steps : s.given < length ys
        → from hd ys s ≡ go_on Difdup hd (text Difdup hd (drop (s.given + 1) ys)) s.dif s.column s.given s.last (get_or ys s.given 0) (drop (s.given + 1) ys)
    unfolding from text
    steps h = rw (drop-cons ys s.given 0 h, add-one s.given) refl

    -- the group fits
    pub from_fits : s.given < length ys → s.column + length (group_at ys s.given s.last) ≤ 80 → from hd ys s ≡ after hd ys s.given s.last s.column
    unfolding go_on
    from_fits h l = steps h ∙ rw (le-leb _ 80 l) (puts ys s.given h s.last s.column)

    -- it does not fit
    pub from_break : s.given < length ys → 80 < s.column + length (group_at ys s.given s.last)
        → from hd ys s ≡ 13 ∷ 10 ∷ opening hd s.dif s.given s.last ++ after hd ys s.given (pick s.dif s.last 0) (length (opening hd s.dif s.given s.last))
    unfolding go_on
    from_break h l = steps h ∙ rw (lt-leb _ 80 l) (ap (λ (t : List ℕ). 13 ∷ 10 ∷ t) (opens ys s.given h s.dif s.last))

    -- no point is left
    pub from_end : length ys ≤ s.given → from hd ys s ≡ 13 ∷ 10 ∷ close Difdup hd s.dif s.given s.last
    unfolding from text
    from_end h = rw (drop_of_length-le ys h) refl

  pub lines_start : (ys : List ℕ) (n : ℕ) → 0 < length ys → n ≡ length (hd 0) → n ≤ 60 → lines_of Difdup hd ys ≡ hd 0 ++ from hd ys (start n)
  unfolding lines_of
  lines_start [] n h e l = absurd (not-suc-le-zero h)
  lines_start (y ∷ ys) n h e l =
      let g = group_any 0 y ys in
      opens (y ∷ ys) 0 h false 0 ∙ ap (λ (t : List ℕ). hd 0 ++ t) (rw (← e) (sym (from_fits (y ∷ ys) (start n) h (omega arith))))
