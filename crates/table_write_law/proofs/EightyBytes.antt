-- "Lines hold at most 80 bytes, then CR LF" (01, "The written text"): the written text is such lines in each of the four forms (02, T-02), and no CR, LF or `#` stands within them. Assumes nothing.
use Rattle.std.specs.Prelude.{◌≡◌, refl, Bool, ltb, leb, eqb}
use Rattle.std.proofs.Math.Bool.{true, false}
use mathlib.Core.List.{List, [], ◌∷◌, ◌++◌}
use Prim.Native.Nat.{ℕ, zero, suc, ◌+◌, ◌-◌, ◌/◌, ◌%◌, ◌≤◌, ◌<◌}
use Rattle.std.proofs.Common.{arith, add-zero, add-suc, suc-add, not-suc-le-zero, le_of_suc-le-suc, leb-true}
use Rattle.std.proofs.Math.Nat.{zero-add}
use Rattle.std.proofs.Math.ListN.{length}
use Rattle.terms.specs.Logic.{pick, by_case, no_way}
use Rattle.alphabet_spec.specs.Kinds.{Lead, sqz, dif, dup}
use Rattle.table_spec.specs.Frame.{longest_line, nearest, zero_ordinate, zero_abscissa}
use Rattle.table_spec.specs.Values.{Form, Own, Gap, By, Dup, is_dif}
use Rattle.table_spec.specs.Numerals.{top, low, lead_byte, numeral, fraction, magnitude, head_text}
use Rattle.table_spec.specs.Groups.{form, sqz_text, token_text, dup_text, group}
use Rattle.table_spec.specs.Writing.{put, check, open_line, go_on, close, text, lines_of, written}
use Rattle.table_law.specs.Spelling as sp
use Rattle.table_law.specs.Spelling.{Short}
use Rattle.table_write_law.proofs.Written.{Takes}
use Rattle.table_write_law.specs.Lengths.{check_most}
use Rattle.table_write_law.proofs.Lengths.{head_most}
use Rattle.table_spec.specs.declared.Style.{Style}
use Rattle.table_spec.specs.declared.Style.TheVariants.{Affn, Pac, Sqz, Difdup}
use Rattle.table_spec.specs.Groups.{form, sqz_text, plain_text, pac_text, affn_text, own_text, gap_text, seen_after, token_text, more_of, dup_text, group}
use Rattle.table_write_law.specs.Tokens.{more_le}
use Rattle.table_write_law.specs.Lengths.{group_slim, check_most}
use Rattle.table_write_law.proofs.Lengths.{head_most}

-- a text after c bytes of its first line: lines of at most 80 bytes, each of them such a byte, and after each line CR LF
pub data LinedOf (P : ℕ → Type 0) : ℕ → List ℕ → Type 0 where
  over : LinedOf P 0 []
  ends : {c : ℕ} {s : List ℕ} → c ≤ longest_line → LinedOf P 0 s → LinedOf P c (13 ∷ 10 ∷ s)
  byte : {c b : ℕ} {s : List ℕ} → P b → LinedOf P (suc c) s → LinedOf P c (b ∷ s)

-- lines of bytes that are neither CR nor LF
abbrev pub Ordinary : ℕ → Type 0
Ordinary b = (b ≡ 13 → ⊥) × (b ≡ 10 → ⊥)

abbrev pub Lined : ℕ → List ℕ → Type 0
Lined c s = LinedOf Ordinary c s

-- lines of bytes above CR of which none is `#`, so that no label begins there
abbrev pub Inner : ℕ → Type 0
Inner b = (13 < b) × (b ≡ 35 → ⊥)

pub inner_lined : {c : ℕ} {s : List ℕ} → LinedOf Inner c s → Lined c s
inner_lined over = over
inner_lined (ends l x) = ends l (inner_lined x)
inner_lined (byte {b = b} h x) = let k = h.0 in let o : Ordinary b = (λ e. omega arith, λ e. omega arith) in byte o (inner_lined x)

-- such lines are short as reading asks for it (02, T-06)
lined_most : {P : ℕ → Type 0} {c : ℕ} {s : List ℕ} → LinedOf P c s → c ≤ longest_line
lined_most over = omega arith
lined_most (ends l x) = l
lined_most (byte h x) = let k = lined_most x in omega arith

shorter : {P : ℕ → Type 0} {c : ℕ} {s : List ℕ} → LinedOf P c s → (m : ℕ) → c + m ≡ longest_line → Short m s
shorter over m e = sp.over
shorter (ends l x) m e = sp.cr_lf (shorter x longest_line refl)
shorter (byte h x) zero e = let k = lined_most x in absurd (omega arith)
shorter (byte h x) (suc m) e = sp.byte (shorter x m (omega arith))

pub lined_short : {P : ℕ → Type 0} {s : List ℕ} → LinedOf P 0 s → Short longest_line s
lined_short x = shorter x longest_line refl

-- ---- the bytes of tokens and heads

-- a space is such a byte, and so is every byte above `#`
space : Inner 32
space = (omega arith, λ e. omega arith)

pub high : (b : ℕ) → 35 < b → Inner b
high b h = (omega arith, λ e. omega arith)

-- each byte of a text is such a byte
abbrev pub Each : (ℕ → Type 0) → List ℕ → Type 0
Each P [] = Unit {0}
Each P (b ∷ s) = P b × Each P s

abbrev pub Above : List ℕ → Type 0
Above s = Each Inner s

pub joined : (a b : List ℕ) → Above a → Above b → Above (a ++ b)
joined [] b h k = k
joined (x ∷ a) b h k = (h.0, joined a b h.1 k)

pub low_above : (f v : ℕ) (acc : List ℕ) → Above acc → Above (low f v acc)
unfolding low
low_above zero v acc h = h
low_above (suc f) v acc h =
    by_case (λ q. Above (pick q acc (low f (v / 10) ((48 + v % 10) ∷ acc)))) (ltb v 10) (λ _. h)
    (λ _. low_above f (v / 10) ((48 + v % 10) ∷ acc) (high (48 + v % 10) (omega arith), h))

lead_above : (k : Lead) (d : ℕ) → Inner (lead_byte k d)
lead_above (sqz false) d = high (64 + d) (omega arith)
lead_above (sqz true) d = high (96 + d) (omega arith)
lead_above (dif false) d = by_case (λ q. Inner (pick q 37 (73 + d))) (eqb d 0) (λ _. high 37 (omega arith)) (λ _. high (73 + d) (omega arith))
lead_above (dif true) d = high (105 + d) (omega arith)
lead_above dup d = by_case (λ q. Inner (pick q 115 (82 + d))) (eqb d 9) (λ _. high 115 (omega arith)) (λ _. high (82 + d) (omega arith))

numeral_above : (k : Lead) (v : ℕ) → Above (numeral k v)
unfolding numeral
numeral_above k v = (lead_above k (top 9 v), low_above 9 v [] tt)

sqz_above : (u : ℕ) → Above (sqz_text u)
unfolding sqz_text
sqz_above u =
    by_case (λ t. Above (pick t (numeral (sqz false) (u - zero_ordinate)) (numeral (sqz true) (zero_ordinate - u)))) (leb zero_ordinate u)
    (λ _. numeral_above (sqz false) (u - zero_ordinate)) (λ _. numeral_above (sqz true) (zero_ordinate - u))

pub plain_above : (v : ℕ) → Above (plain_text v)
unfolding plain_text
plain_above v = (high (48 + top 9 v) (omega arith), low_above 9 v [] tt)

affn_above : (u : ℕ) → Above (affn_text u)
unfolding affn_text
affn_above u =
    by_case (λ t. Above (pick t (32 ∷ plain_text (u - zero_ordinate)) (32 ∷ 45 ∷ plain_text (zero_ordinate - u)))) (leb zero_ordinate u)
    (λ _. (space, plain_above (u - zero_ordinate))) (λ _. (space, (high 45 (omega arith), plain_above (zero_ordinate - u))))

pac_above : (u : ℕ) → Above (pac_text u)
unfolding pac_text
pac_above u =
    by_case (λ t. Above (pick t (32 ∷ plain_text (u - zero_ordinate)) (45 ∷ plain_text (zero_ordinate - u)))) (leb zero_ordinate u)
    (λ _. (space, plain_above (u - zero_ordinate))) (λ _. (high 45 (omega arith), plain_above (zero_ordinate - u)))

own_above : (st : Style) (u : ℕ) → Above (own_text st u)
own_above Affn u = affn_above u
own_above Pac u = pac_above u
own_above Sqz u = sqz_above u
own_above Difdup u = sqz_above u

gap_above : (st : Style) → Above (gap_text st)
gap_above Affn = (space, (high 63 (omega arith), tt))
gap_above Pac = (high 63 (omega arith), tt)
gap_above Sqz = (high 63 (omega arith), tt)
gap_above Difdup = (high 63 (omega arith), tt)

token_above : (st : Style) (r : Form) (y : ℕ) → Above (token_text st r y)
unfolding token_text
token_above st Own y = own_above st y
token_above st Gap y = gap_above st
token_above st (By m d) y = numeral_above (dif m) d
token_above st (Dup b) y = tt

dup_above : (n : ℕ) → Above (dup_text n)
unfolding dup_text
dup_above zero = tt
dup_above (suc n) = numeral_above dup (suc (suc n))

group_above : (st : Style) (p y : ℕ) (ys : List ℕ) → Above (group st p y ys)
unfolding group
group_above st p y ys =
    let r = form (seen_after st p) y in joined (token_text st r y) (dup_text (more_of st r y ys)) (token_above st r y) (dup_above (more_of st r y ys))

fraction_above : (f : ℕ) → Above (fraction f)
unfolding fraction
fraction_above f =
    let third = pick (eqb (f % 10) 0) [] ((48 + f % 10) ∷ []) in
    by_case (λ q. Above (pick q [] (46 ∷ (48 + f / 100) ∷ pick (eqb (f % 100) 0) [] ((48 + f / 10 % 10) ∷ third)))) (eqb f 0) (λ _. tt)
    (λ _. (
      high 46 (omega arith),
      (
        high (48 + f / 100) (omega arith),
        by_case (λ q. Above (pick q [] ((48 + f / 10 % 10) ∷ third))) (eqb (f % 100) 0) (λ _. tt)
            (λ _. (
              high (48 + f / 10 % 10) (omega arith),
              by_case (λ q. Above (pick q [] ((48 + f % 10) ∷ []))) (eqb (f % 10) 0) (λ _. tt) (λ _. (high (48 + f % 10) (omega arith), tt)),
            )),
      ),
    ))

magnitude_above : (g : ℕ) → Above (magnitude g)
unfolding magnitude
magnitude_above g = (high (48 + top 9 (g / 1000)) (omega arith), joined (low 9 (g / 1000) []) (fraction (g % 1000)) (low_above 9 (g / 1000) [] tt) (fraction_above (g % 1000)))

head_above : (h : ℕ) → Above (head_text h)
unfolding head_text
head_above h =
    by_case (λ q. Above (pick q (magnitude (h - zero_abscissa)) (45 ∷ magnitude (zero_abscissa - h)))) (leb zero_abscissa h)
    (λ _. magnitude_above (h - zero_abscissa)) (λ _. (high 45 (omega arith), magnitude_above (zero_abscissa - h)))

-- ---- lines

-- such bytes go on with a line
pub onward : {P : ℕ → Type 0} {s : List ℕ} (c : ℕ) (g : List ℕ) → Each P g → LinedOf P (c + length g) s → LinedOf P c (g ++ s)
onward c [] h l = rw add-zero at l
onward c (b ∷ g) h l =
    byte h.0 (onward (suc c) g h.1 (rw (add-suc c (length g), ← suc-add c (length g)) at l))

module _ (st : Style) (N : ℕ) (few : N ≤ 65536) (hd : ℕ → List ℕ) (short : (i : ℕ) → i < N → length (hd i) ≤ 12) (above : (i : ℕ) → Above (hd i)) where
  abbrev Rows : List ℕ → Type 0
  Rows zs = (n i p : ℕ) (d : Bool) (col : ℕ) → n ≤ length zs → 0 < i → i + length zs ≡ N → col ≤ longest_line → LinedOf Inner col (text st hd zs n i p d col)

  check_above : (i p : ℕ) → Above (check st hd i p)
  unfolding check
  check_above i p = joined (hd (i - 1)) (sqz_text p) (above (i - 1)) (sqz_above p)

  close_lined : (d : Bool) (i p : ℕ) → 0 < i → i ≤ N → LinedOf Inner 0 (close st hd d i p)
  unfolding close
  close_lined true i p g l = let k = check_most N few hd short st i p g l in onward 0 (check st hd i p) (check_above i p) (ends (omega arith) over)
  close_lined false i p g l = over

  module _ (y : ℕ) (ys : List ℕ) (ih : Rows ys) where
    put_lined : (i p col : ℕ) → i + length (y ∷ ys) ≡ N → col + length (group st p y ys) ≤ longest_line → LinedOf Inner col (put st hd (text st hd ys) col i p y ys)
    unfolding put
    put_lined i p col b l =
        let r = form (seen_after st p) y in
        onward col (group st p y ys) (group_above st p y ys)
        (ih (more_of st r y ys) (suc i) y (is_dif r) (col + length (group st p y ys)) (more_le st r y ys) (omega arith) (omega arith) l)

    opens_lined : (d : Bool) (i p : ℕ) → (d ≡ true → 0 < i) → i + length (y ∷ ys) ≡ N → LinedOf Inner 0 (open_line st hd (text st hd ys) d i p y ys)
    unfolding open_line
    opens_lined true i p g b =
        let k = check_most N few hd short st i p (g refl) (omega arith) in
        let w = group_slim st p y ys (omega arith) in
        onward 0 (check st hd i p) (check_above i p) (rw zero-add (put_lined i p (length (check st hd i p)) b (omega (arith, w))))
    opens_lined false i p g b =
        let k = short i (omega arith) in
        let w = group_slim st 0 y ys (omega arith) in
        onward 0 (hd i) (above i) (rw zero-add (put_lined i 0 (length (hd i)) b (omega (arith, w))))

    goes_lined : (d : Bool) (i p col : ℕ) → 0 < i → i + length (y ∷ ys) ≡ N → col ≤ longest_line → LinedOf Inner col (go_on st hd (text st hd ys) d col i p y ys)
    unfolding go_on
    goes_lined d i p col g b l =
        by_case (λ t. LinedOf Inner col (pick t (put st hd (text st hd ys) col i p y ys) (13 ∷ 10 ∷ open_line st hd (text st hd ys) d i p y ys))) (leb (col + length (group st p y ys)) longest_line)
        (λ e. put_lined i p col b (leb-true (col + length (group st p y ys)) longest_line e))
        (λ _. ends l (opens_lined d i p (λ _. g) b))

  text_lined : (zs : List ℕ) → Rows zs
  unfolding text
  text_lined [] zero i p d col l g b c = ends c (close_lined d i p g (omega arith))
  text_lined [] (suc n) i p d col l g b c = absurd (not-suc-le-zero l)
  text_lined (y ∷ ys) zero i p d col l g b c = goes_lined y ys (text_lined ys) d i p col g b c
  text_lined (y ∷ ys) (suc n) i p d col l g b c = text_lined ys n (suc i) y d col (le_of_suc-le-suc l) (omega arith) (omega arith) c

  lines_lined : (ys : List ℕ) → length ys ≡ N → LinedOf Inner 0 (lines_of st hd ys)
  unfolding lines_of
  lines_lined [] b = over
  lines_lined (y ∷ ys) b = opens_lined y ys (text_lined ys) false 0 0 (λ e. no_way e) (omega arith)

-- the text of a frame that the writer takes
pub written_lined : (st : Style) (first last n : ℕ) (ys : List ℕ) → Takes first last n → length ys ≡ n → LinedOf Inner 0 (written st first last n ys)
unfolding written
written_lined st first last n ys t e =
    lines_lined st n t.few (λ i. head_text (nearest first last n i)) (head_most first last n t) (λ i. head_above (nearest first last n i)) ys e
