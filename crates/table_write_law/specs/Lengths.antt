-- How long the written text is at most in each of the four forms (02, T-02): 15 bytes for each point and 44 more, so never longer than a body may be. Assumes nothing.
-- A line that is full has at least five points on it. In DIFDUP a point pays 10 bytes for its token and 5 towards the next line's end, head and check value; in the others 12 and 3.
use Rattle.std.specs.Prelude.{◌≡◌, refl, Bool, ltb, leb}
use Rattle.std.proofs.Math.Bool.{true, false}
use mathlib.Core.List.{List, [], ◌∷◌, ◌++◌}
use Prim.Native.Nat.{ℕ, zero, suc, ◌+◌, ◌-◌, ◌*◌, ◌/◌, ◌%◌, ◌≤◌, ◌<◌}
use native.Mathlib.Omega.{arith}
use Rattle.std.proofs.Common.{not-suc-le-zero, le_of_suc-le-suc}
use Rattle.std.proofs.Math.ListN.{length, length-append}
use borrow.Author.Tests.{leb-false}
use Rattle.terms.specs.Logic.{pick, by_case}
use Rattle.alphabet_spec.specs.Kinds.{Lead, sqz, dif, dup}
use Rattle.table_spec.specs.Frame.{zero_ordinate, longest_line}
use Rattle.table_spec.specs.Values.{Form, Own, Gap, By, Dup, is_dif}
use Rattle.table_spec.specs.Numerals.{low, numeral}
use Rattle.table_spec.specs.Groups.{form, sqz_text, token_text, many, dup_text, group}
use Rattle.table_spec.specs.Writing.{put, check, open_line, go_on, close, text, lines_of}
use Rattle.table_write_law.specs.Numbers.{numeral_length}
use Rattle.table_write_law.specs.Tokens.{many_le, form_cases}
use Rattle.table_spec.specs.declared.Style.{Style}
use Rattle.table_spec.specs.declared.Style.TheVariants.{Affn, Pac, Sqz, Difdup}
use Rattle.table_spec.specs.Groups.{in_full, form, sqz_text, plain_text, pac_text, affn_text, own_text, gap_text, token_text, many, dup_text, group}
use Rattle.table_write_law.specs.Plain.{value_text, values, never_dif, plain_group, plain_lines}

-- ---- groups

low_most : (f v : ℕ) (acc : List ℕ) → length (low f v acc) ≤ f + length acc
unfolding low
low_most zero v acc = omega arith
low_most (suc f) v acc =
    by_case (λ q. length (pick q acc (low f (v / 10) ((48 + v % 10) ∷ acc))) ≤ suc f + length acc) (ltb v 10)
    (λ _. omega arith) (λ _. omega (arith, low_most f (v / 10) ((48 + v % 10) ∷ acc)))

numeral_most : (k : Lead) (v : ℕ) → length (numeral k v) ≤ 10
unfolding numeral
numeral_most k v = omega (arith, low_most 9 v [])

pub sqz_most : (u : ℕ) → length (sqz_text u) ≤ 10
unfolding sqz_text
sqz_most u =
    by_case (λ t. length (pick t (numeral (sqz false) (u - zero_ordinate)) (numeral (sqz true) (zero_ordinate - u))) ≤ 10) (leb zero_ordinate u)
    (λ _. numeral_most (sqz false) (u - zero_ordinate)) (λ _. numeral_most (sqz true) (zero_ordinate - u))

pub plain_most : (v : ℕ) → length (plain_text v) ≤ 10
unfolding plain_text
plain_most v = omega (arith, low_most 9 v [])

affn_most : (u : ℕ) → length (affn_text u) ≤ 12
unfolding affn_text
affn_most u =
    by_case (λ t. length (pick t (32 ∷ plain_text (u - zero_ordinate)) (32 ∷ 45 ∷ plain_text (zero_ordinate - u))) ≤ 12) (leb zero_ordinate u)
    (λ _. omega (arith, plain_most (u - zero_ordinate))) (λ _. omega (arith, plain_most (zero_ordinate - u)))

pac_most : (u : ℕ) → length (pac_text u) ≤ 12
unfolding pac_text
pac_most u =
    by_case (λ t. length (pick t (32 ∷ plain_text (u - zero_ordinate)) (45 ∷ plain_text (zero_ordinate - u))) ≤ 12) (leb zero_ordinate u)
    (λ _. omega (arith, plain_most (u - zero_ordinate))) (λ _. omega (arith, plain_most (zero_ordinate - u)))

own_most : (st : Style) (u : ℕ) → length (own_text st u) ≤ 12
own_most Affn u = affn_most u
own_most Pac u = pac_most u
own_most Sqz u = omega (arith, sqz_most u)
own_most Difdup u = omega (arith, sqz_most u)

gap_most : (st : Style) → length (gap_text st) ≤ 2
gap_most Affn = omega arith
gap_most Pac = omega arith
gap_most Sqz = omega arith
gap_most Difdup = omega arith

-- a value in full: `value_text`
pub value_most : (st : Style) (y : ℕ) → length (value_text st y) ≤ 12
unfolding value_text token_text
value_most st y =
    form_cases (λ r. length (token_text st r y) ≤ 12) 0 y (λ _. omega (arith, gap_most st)) (λ _ _. own_most st y) (λ _ h _. absurd (omega arith)) (λ _ h _. absurd (omega arith))

-- a token of DIFDUP
token_most : (r : Form) (y : ℕ) → length (token_text Difdup r y) ≤ 10
unfolding token_text
token_most Own y = sqz_most y
token_most Gap y = omega arith
token_most (By m d) y = numeral_most (dif m) d
token_most (Dup b) y = omega arith

dup_most : (n : ℕ) → n ≤ 65536 → (length (dup_text n) ≤ 5 * n) × (length (dup_text n) ≤ 5)
unfolding dup_text
dup_most zero h = (omega arith, omega arith)
dup_most (suc n) h = let z = numeral_length dup (suc (suc n)) (omega arith) in (omega arith, omega arith)

dup_slim : (n : ℕ) → length (dup_text n) ≤ 10
unfolding dup_text
dup_slim zero = omega arith
dup_slim (suc n) = numeral_most dup (suc (suc n))

pub group_most : (p y : ℕ) (ys : List ℕ) → length ys ≤ 65536 → (length (group Difdup p y ys) ≤ 10 + 5 * many (form p y) y ys) × (length (group Difdup p y ys) ≤ 15)
unfolding group
group_most p y ys h =
    let r = form p y in
    let a = length-append (token_text Difdup r y) (dup_text (many r y ys)) in
    let b = token_most r y in
    let c = dup_most (many r y ys) (omega (arith, many_le r y ys)) in
    (omega (arith, c.0), omega (arith, c.1))

-- a group of any list
pub group_any : (p y : ℕ) (ys : List ℕ) → length (group Difdup p y ys) ≤ 20
unfolding group
group_any p y ys =
    let a = token_text Difdup (form p y) y in let n = many (form p y) y ys in
    omega (arith, length-append a (dup_text n), token_most (form p y) y, dup_slim n)

-- a group fits on a line after its head and check value
pub group_slim : (st : Style) (p y : ℕ) (ys : List ℕ) → length ys ≤ 65536 → length (group st p y ys) ≤ 15
group_slim Affn p y ys h = rw (plain_group Affn refl p y ys) (omega (arith, value_most Affn y))
group_slim Pac p y ys h = rw (plain_group Pac refl p y ys) (omega (arith, value_most Pac y))
group_slim Sqz p y ys h = rw (plain_group Sqz refl p y ys) (omega (arith, value_most Sqz y))
group_slim Difdup p y ys h = let w = group_most p y ys h in w.1

one_token : (y : ℕ) → length (group Difdup 0 y []) ≤ 10
unfolding group many dup_text
one_token y = omega (arith, length-append (token_text Difdup (form 0 y) y) [], token_most (form 0 y) y)

-- ---- lines of DIFDUP

module _ (N : ℕ) (few : N ≤ 65536) (hd : ℕ → List ℕ) (short : (i : ℕ) → i < N → length (hd i) ≤ 12) where
  abbrev Most : List ℕ → Type 0
  Most zs = (n i p : ℕ) (d : Bool) (col : ℕ) → n ≤ length zs → 0 < i → i + length zs ≡ N → 2 * length (text Difdup hd zs n i p d col) + 30 * n ≤ 30 * length zs + col + 52

  -- the head and the first value of a check line
  pub check_most : (st : Style) (i p : ℕ) → 0 < i → i ≤ N → length (check st hd i p) ≤ 22
  unfolding check
  check_most st i p g l = omega (arith, length-append (hd (i - 1)) (sqz_text p), short (i - 1) (omega arith), sqz_most p)

  close_most : (d : Bool) (i p : ℕ) → 0 < i → i ≤ N → length (close Difdup hd d i p) ≤ 24
  unfolding close
  close_most true i p g l = omega (arith, length-append (check Difdup hd i p) (13 ∷ 10 ∷ []), check_most Difdup i p g l)
  close_most false i p g l = omega arith

  module _ (y : ℕ) (ys : List ℕ) (ih : Most ys) where
    -- a group and what follows it
    put_most : (i p col : ℕ) → i + length (y ∷ ys) ≡ N
        → 2 * length (put Difdup hd (text Difdup hd ys) col i p y ys) + 30 * many (form p y) y ys ≤ 30 * length ys + col + 3 * length (group Difdup p y ys) + 52
    unfolding put
    put_most i p col b =
        let r = form p y in
        let t = text Difdup hd ys (many r y ys) (suc i) y (is_dif r) (col + length (group Difdup p y ys)) in
        omega (arith, length-append (group Difdup p y ys) t, ih (many r y ys) (suc i) y (is_dif r) (col + length (group Difdup p y ys)) (many_le r y ys) (omega arith) (omega arith))

    opens_most : (d : Bool) (i p col : ℕ) → 0 < i → i + length (y ∷ ys) ≡ N → longest_line < col + length (group Difdup p y ys)
        → 2 * (2 + length (open_line Difdup hd (text Difdup hd ys) d i p y ys)) ≤ 30 * length (y ∷ ys) + col + 52
    unfolding open_line
    opens_most true i p col g b l =
        let c = check Difdup hd i p in
        let e = length-append c (put Difdup hd (text Difdup hd ys) (length c) i p y ys) in
        let m = put_most i p (length c) b in
        let w = group_most p y ys (omega arith) in
        omega (arith, check_most Difdup i p g (omega arith), w.0)
    opens_most false i p col g b l =
        let c = hd i in
        let e = length-append c (put Difdup hd (text Difdup hd ys) (length c) i 0 y ys) in
        let m = put_most i 0 (length c) b in
        let w = group_most p y ys (omega arith) in
        let v = group_most 0 y ys (omega arith) in
        omega (arith, short i (omega arith), w.1, v.1)

    goes_most : (d : Bool) (i p col : ℕ) → 0 < i → i + length (y ∷ ys) ≡ N → 2 * length (go_on Difdup hd (text Difdup hd ys) d col i p y ys) ≤ 30 * length (y ∷ ys) + col + 52
    unfolding go_on
    goes_most d i p col g b =
        by_case (λ t. 2 * length (pick t (put Difdup hd (text Difdup hd ys) col i p y ys) (13 ∷ 10 ∷ open_line Difdup hd (text Difdup hd ys) d i p y ys)) ≤ 30 * length (y ∷ ys) + col + 52)
        (leb (col + length (group Difdup p y ys)) longest_line)
        (λ _. let w = group_most p y ys (omega arith) in omega (arith, put_most i p col b, w.0))
        (λ e. omega (arith, opens_most d i p col g b (leb-false (col + length (group Difdup p y ys)) longest_line e)))

  text_most : (zs : List ℕ) → Most zs
  unfolding text
  text_most [] zero i p d col l g b = omega (arith, close_most d i p g (omega arith))
  text_most [] (suc n) i p d col l g b = absurd (not-suc-le-zero l)
  text_most (y ∷ ys) zero i p d col l g b = omega (arith, goes_most y ys (text_most ys) d i p col g b)
  text_most (y ∷ ys) (suc n) i p d col l g b = omega (arith, text_most ys n (suc i) y d col (le_of_suc-le-suc l) (omega arith) (omega arith))

  pub lines_most : (ys : List ℕ) → length ys ≡ N → length (lines_of Difdup hd ys) ≤ 15 * N + 44
  unfolding lines_of open_line
  lines_most [] b = omega arith
  lines_most (y ∷ ys) b =
      let c = hd 0 in
      let w = group_most 0 y ys (omega arith) in
      omega (arith, length-append c (put Difdup hd (text Difdup hd ys) (length c) 0 0 y ys), put_most y ys (text_most ys) 0 0 (length c) (omega arith), short 0 (omega arith), w.0)

  -- one point: a line, and no check line after it
  pub one_most : (y : ℕ) → 0 < N → length (lines_of Difdup hd (y ∷ [])) ≤ 24
  unfolding lines_of open_line put text close many
  one_most y h =
      let c = hd 0 in
      let g = group Difdup 0 y [] in
      let w = group_most 0 y [] (omega arith) in
      rw (never_dif y) (omega (arith, length-append c (g ++ 13 ∷ 10 ∷ []), length-append g (13 ∷ 10 ∷ []), short 0 h, one_token y))

-- ---- lines of the three other forms

module _ (st : Style) (full : in_full st ≡ true) (N : ℕ) (hd : ℕ → List ℕ) (short : (i : ℕ) → i < N → length (hd i) ≤ 12) where
  values_most : (ys : List ℕ) (i col : ℕ) → i + length ys ≡ N → 4 * length (values (value_text st) hd ys i col) ≤ 60 * length ys + col + 8
  unfolding values
  values_most [] i col b = omega arith
  values_most (y ∷ ys) i col b =
      let v = value_text st y in
      let m = value_most st y in
      let on = v ++ values (value_text st) hd ys (suc i) (col + length v) in
      let anew = hd i ++ (v ++ values (value_text st) hd ys (suc i) (length (hd i) + length v)) in
      by_case (λ t. 4 * length (pick t on (13 ∷ 10 ∷ anew)) ≤ 60 * length (y ∷ ys) + col + 8)
      (leb (col + length v) longest_line)
      (λ _. omega (arith, length-append v (values (value_text st) hd ys (suc i) (col + length v)), values_most ys (suc i) (col + length v) (omega arith)))
      (λ e. let k = leb-false (col + length v) longest_line e in
      let s = values (value_text st) hd ys (suc i) (length (hd i) + length v) in
      omega (arith, length-append (hd i) (v ++ s), length-append v s, short i (omega arith), values_most ys (suc i) (length (hd i) + length v) (omega arith)))

  pub plain_lines_most : (ys : List ℕ) → length ys ≡ N → length (lines_of st hd ys) ≤ 15 * N + 17
  plain_lines_most [] b = unfold lines_of in omega arith
  plain_lines_most (y ∷ ys) b =
      let h = short 0 (omega arith) in
      rw (plain_lines st full hd y ys (omega (arith, value_most st y)))
      (omega (arith, length-append (hd 0) (values (value_text st) hd (y ∷ ys) 0 (length (hd 0))), values_most (y ∷ ys) 0 (length (hd 0)) (omega arith)))
