-- What reading looks at ahead, digits and heads, is the same in two texts with the same bytes w and then the byte y; or it reaches y, and y makes it longer. Assumes nothing.
use Rattle.std.specs.Prelude.{◌≡◌, refl, true, false, List, [], ◌∷◌, ◌++◌, ℕ, zero, suc, ◌+◌, ◌-◌, ◌*◌, ◌≤◌, eqb, length, drop}
use Rattle.std.proofs.Common.{sym, ◌∙◌, arith, le_of_suc-le-suc, not-suc-le-zero}
use Rattle.terms.specs.Logic.{pick, by_case, no_way}
use Rattle.alphabet_spec.specs.Digits.{within, Run, long, run, one_more, digits, some}
use Rattle.table_spec.specs.Reading.{HeadDigits, no_head, sized, unit, starts, scaled, pointed, thousandths}

-- ---- bytes w, and then a text

drop_in : (n : ℕ) (w s : List ℕ) → n ≤ length w → drop n (w ++ s) ≡ drop n w ++ s
drop_in zero w s l = refl
drop_in (suc n) [] s l = absurd (not-suc-le-zero l)
drop_in (suc n) (b ∷ w) s l = drop_in n w s (le_of_suc-le-suc l)

drop_length : (n : ℕ) (w : List ℕ) → n ≤ length w → n + length (drop n w) ≡ length w
drop_length zero w l = omega arith
drop_length (suc n) [] l = absurd (not-suc-le-zero l)
drop_length (suc n) (b ∷ w) l = let z = drop_length n w (le_of_suc-le-suc l) in omega arith

pub starts_same : (c y : ℕ) (w s t : List ℕ) → starts c (w ++ y ∷ s) ≡ starts c (w ++ y ∷ t)
starts_same c y [] s t = refl
starts_same c y (b ∷ w) s t = refl

-- a run, and the digits of a head, that end in w
abbrev pub RunIn : List ℕ → ℕ → Run → Type 0
RunIn w n long = Unit {0}
RunIn w n (run v k) = k ≤ n + length w

abbrev pub HeadIn : List ℕ → ℕ → HeadDigits → Type 0
HeadIn w n no_head = Unit {0}
HeadIn w n (sized h u k) = k ≤ n + length w

pub some_in : (w : List ℕ) (n : ℕ) (x : Run) → RunIn w n x → RunIn w n (some x)
some_in w n long h = tt
some_in w n (run v zero) h = tt
some_in w n (run v (suc k)) h = h

-- a byte that makes a head longer
pub data Lengthens (y : ℕ) : Type 0 where
  by_digit : within 48 10 y ≡ true → Lengthens y
  by_point : eqb y 46 ≡ true → Lengthens y

-- ---- a run has no fewer digits than it had before

abbrev RunLeast : ℕ → Run → Type 0
RunLeast n long = Unit {0}
RunLeast n (run v k) = n ≤ k

least_more : (n : ℕ) (x : Run) → RunLeast (suc n) x → RunLeast n x
least_more n long h = tt
least_more n (run v k) h = omega arith

digits_least : (s : List ℕ) (m v n : ℕ) → RunLeast n (digits s m v n)
unfolding digits
digits_least [] m v n = omega arith
digits_least (b ∷ s) zero v n = by_case (λ q. RunLeast n (pick q long (run v n))) (within 48 10 b) (λ _. tt) (λ _. omega arith)
digits_least (b ∷ s) (suc m) v n =
    let x = digits s m (v * 10 + (b - 48)) (suc n) in
    by_case (λ q. RunLeast n (pick q x (run v n))) (within 48 10 b) (λ _. least_more n x (digits_least s m (v * 10 + (b - 48)) (suc n))) (λ _. omega arith)

abbrev HeadLeast : ℕ → HeadDigits → Type 0
HeadLeast n no_head = Unit {0}
HeadLeast n (sized h u k) = n ≤ k

scaled_least : (n : ℕ) (x : Run) → HeadLeast (suc n) (scaled n x)
unfolding scaled
scaled_least n long = tt
scaled_least n (run v k) = omega arith

head_less : (n : ℕ) (x : HeadDigits) → HeadLeast (suc n) x → HeadLeast n x
head_less n no_head h = tt
head_less n (sized g u k) h = omega arith

pointed_least : (s : List ℕ) (v n : ℕ) → HeadLeast n (pointed s v n)
unfolding pointed
pointed_least s v n =
    let x = scaled n (digits (drop 1 s) 3 v 0) in
    by_case (λ q. HeadLeast n (pick q x (sized (v * unit 0) (unit 0) n))) (starts 46 s) (λ _. head_less n x (scaled_least n (digits (drop 1 s) 3 v 0))) (λ _. omega arith)

-- ---- runs

-- after n digits: in w, the same; or beyond w, since y is a digit
abbrev RunOut : List ℕ → ℕ → Run → Type 0
RunOut w n x = RunLeast (suc (n + length w)) x

pub data RunSame (y : ℕ) (w : List ℕ) (n : ℕ) : Run → Run → Type 0 where
  run_in : {x : Run} → RunIn w n x → RunSame y w n x x
  run_out : {x z : Run} → within 48 10 y ≡ true → RunOut w n x → RunSame y w n x z

run_on : (b : ℕ) (w : List ℕ) (n : ℕ) (x : Run) → RunOut w (suc n) x → RunOut (b ∷ w) n x
run_on b w n long h = tt
run_on b w n (run v k) h = omega arith

run_on_in : (b : ℕ) (w : List ℕ) (n : ℕ) (x : Run) → RunIn w (suc n) x → RunIn (b ∷ w) n x
run_on_in b w n long h = tt
run_on_in b w n (run v k) h = omega arith

one_digit : {y b n : ℕ} {w : List ℕ} {x z : Run} → RunSame y w (suc n) x z → RunSame y (b ∷ w) n x z
one_digit {b = b} {n = n} {w = w} (run_in {x = x} h) = run_in (run_on_in b w n x h)
one_digit {b = b} {n = n} {w = w} (run_out {x = x} e h) = run_out e (run_on b w n x h)

one_more_lem : (s : List ℕ) (m v n d : ℕ) → RunOut [] n (one_more (digits s) m v n d)
one_more_lem s zero v n d = tt
one_more_lem s (suc m) v n d = let e : suc (n + 0) ≡ suc n = omega arith in rw e (digits_least s m (v * 10 + d) (suc n))

pub digits_reach : (y : ℕ) (w s t : List ℕ) (m v n : ℕ) → RunSame y w n (digits (w ++ y ∷ s) m v n) (digits (w ++ y ∷ t) m v n)
unfolding digits
digits_reach y [] s t m v n =
    by_case (λ q. within 48 10 y ≡ q → RunSame y [] n (pick q (one_more (digits s) m v n (y - 48)) (run v n)) (pick q (one_more (digits t) m v n (y - 48)) (run v n))) (within 48 10 y)
    (λ _ e. run_out e (one_more_lem s m v n (y - 48))) (λ _ e. run_in (let l : n ≤ n + 0 = omega arith in l)) refl
digits_reach y (b ∷ w) s t zero v n =
    by_case (λ q. RunSame y (b ∷ w) n (pick q long (run v n)) (pick q long (run v n))) (within 48 10 b) (λ _. run_in tt) (λ _. run_in {x = run v n} (omega arith))
digits_reach y (b ∷ w) s t (suc m) v n =
    let f : List ℕ → Run = λ u. digits (w ++ y ∷ u) m (v * 10 + (b - 48)) (suc n) in
    by_case (λ q. RunSame y (b ∷ w) n (pick q (f s) (run v n)) (pick q (f t) (run v n))) (within 48 10 b)
    (λ _. one_digit (digits_reach y w s t m (v * 10 + (b - 48)) (suc n))) (λ _. run_in {x = run v n} (omega arith))

some_out : (w : List ℕ) (n : ℕ) (x : Run) → RunOut w n x → RunOut w n (some x)
some_out w n long h = tt
some_out w n (run v zero) h = tt
some_out w n (run v (suc k)) h = h

pub some_reach : {y n : ℕ} {w : List ℕ} {x z : Run} → RunSame y w n x z → RunSame y w n (some x) (some z)
some_reach {n = n} {w = w} (run_in {x = x} h) = run_in (some_in w n x h)
some_reach {n = n} {w = w} (run_out {x = x} e h) = run_out e (some_out w n x h)

-- ---- heads

abbrev HeadOut : List ℕ → ℕ → HeadDigits → Type 0
HeadOut w n x = HeadLeast (suc (n + length w)) x

pub data HeadSame (y : ℕ) (w : List ℕ) (n : ℕ) : HeadDigits → HeadDigits → Type 0 where
  within_them : {x : HeadDigits} → HeadIn w n x → HeadSame y w n x x
  beyond_them : {x z : HeadDigits} → Lengthens y → HeadOut w n x → HeadSame y w n x z

scaled_in : (b : ℕ) (w : List ℕ) (n : ℕ) (x : Run) → RunIn w 0 x → HeadIn (b ∷ w) n (scaled n x)
unfolding scaled
scaled_in b w n long h = tt
scaled_in b w n (run v k) h = omega arith

scaled_out : (b : ℕ) (w : List ℕ) (n : ℕ) (x : Run) → RunOut w 0 x → HeadOut (b ∷ w) n (scaled n x)
unfolding scaled
scaled_out b w n long h = tt
scaled_out b w n (run v k) h = omega arith

scaled_reach : {y b n : ℕ} {w : List ℕ} {x z : Run} → RunSame y w 0 x z → HeadSame y (b ∷ w) n (scaled n x) (scaled n z)
scaled_reach {b = b} {n = n} {w = w} (run_in {x = x} h) = within_them (scaled_in b w n x h)
scaled_reach {b = b} {n = n} {w = w} (run_out {x = x} e h) = beyond_them (by_digit e) (scaled_out b w n x h)

pointed_reach : (y : ℕ) (w s t : List ℕ) (v n : ℕ) → HeadSame y w n (pointed (w ++ y ∷ s) v n) (pointed (w ++ y ∷ t) v n)
unfolding pointed
pointed_reach y [] s t v n =
    let h = sized (v * unit 0) (unit 0) n in
    by_case (λ q. eqb y 46 ≡ q → HeadSame y [] n (pick q (scaled n (digits s 3 v 0)) h) (pick q (scaled n (digits t 3 v 0)) h)) (eqb y 46)
    (λ _ e. beyond_them (by_point e) (let g : suc (n + 0) ≡ suc n = omega arith in rw g (scaled_least n (digits s 3 v 0)))) (λ _ e. within_them {x = h} (omega arith)) refl
pointed_reach y (b ∷ w) s t v n =
    let h = sized (v * unit 0) (unit 0) n in
    by_case (λ q. HeadSame y (b ∷ w) n (pick q (scaled n (digits (w ++ y ∷ s) 3 v 0)) h) (pick q (scaled n (digits (w ++ y ∷ t) 3 v 0)) h)) (eqb b 46)
    (λ _. scaled_reach (digits_reach y w s t 3 v 0)) (λ _. within_them {x = h} (omega arith))

-- the bytes of w after the whole number
in_part : (n : ℕ) (w u : List ℕ) (x : HeadDigits) → n + length u ≡ length w → HeadIn u n x → HeadIn w 0 x
in_part n w u no_head e h = tt
in_part n w u (sized g x k) e h = omega arith

out_part : (n : ℕ) (w u : List ℕ) (x : HeadDigits) → n + length u ≡ length w → HeadOut u n x → HeadOut w 0 x
out_part n w u no_head e h = tt
out_part n w u (sized g x k) e h = omega arith

part : {y : ℕ} {x z : HeadDigits} (n : ℕ) (w u : List ℕ) → n + length u ≡ length w → HeadSame y u n x z → HeadSame y w 0 x z
part n w u e (within_them {x = x} h) = within_them (in_part n w u x e h)
part n w u e (beyond_them {x = x} l h) = beyond_them l (out_part n w u x e h)

out_all : (w : List ℕ) (n : ℕ) (x : HeadDigits) → suc (0 + length w) ≤ n → HeadLeast n x → HeadOut w 0 x
out_all w n no_head l h = tt
out_all w n (sized g u k) l h = omega arith

pub head_reach : (y : ℕ) (w s t : List ℕ) {x z : Run} → RunSame y w 0 x z → HeadSame y w 0 (thousandths (w ++ y ∷ s) x) (thousandths (w ++ y ∷ t) z)
unfolding thousandths
head_reach y w s t (run_in {x = long} h) = within_them tt
head_reach y w s t (run_in {x = run v n} h) =
    rw (drop_in n w (y ∷ s) (omega arith), drop_in n w (y ∷ t) (omega arith)) (part n w (drop n w) (drop_length n w (omega arith)) (pointed_reach y (drop n w) s t v n))
head_reach y w s t (run_out {x = long} e h) = beyond_them (by_digit e) tt
head_reach y w s t (run_out {x = run v n} e h) =
    let x = pointed (drop n (w ++ y ∷ s)) v n in beyond_them (by_digit e) (out_all w n x h (pointed_least (drop n (w ++ y ∷ s)) v n))

-- ---- where y is neither a digit nor a point, it is the same

module _ (y : ℕ) (no_digit : within 48 10 y ≡ false) where
  run_kept : {w : List ℕ} {n : ℕ} {x z : Run} → RunSame y w n x z → (x ≡ z) × RunIn w n x
  run_kept (run_in h) = (refl, h)
  run_kept (run_out e h) = no_way (sym no_digit ∙ e)

  pub digits_same : (w s t : List ℕ) (m v n : ℕ) → digits (w ++ y ∷ s) m v n ≡ digits (w ++ y ∷ t) m v n
  digits_same w s t m v n = (run_kept (digits_reach y w s t m v n)).0

  pub digits_in : (w s : List ℕ) (m v n : ℕ) → RunIn w n (digits (w ++ y ∷ s) m v n)
  digits_in w s m v n = (run_kept (digits_reach y w s s m v n)).1

  module _ (no_point : eqb y 46 ≡ false) where
    head_kept : {w : List ℕ} {n : ℕ} {x z : HeadDigits} → HeadSame y w n x z → (x ≡ z) × HeadIn w n x
    head_kept (within_them h) = (refl, h)
    head_kept (beyond_them (by_digit e) h) = no_way (sym no_digit ∙ e)
    head_kept (beyond_them (by_point e) h) = no_way (sym no_point ∙ e)

    pub head_same : (w s t : List ℕ) (x : Run) → RunIn w 0 x → thousandths (w ++ y ∷ s) x ≡ thousandths (w ++ y ∷ t) x
    head_same w s t x h = (head_kept (head_reach y w s t (run_in h))).0

    pub head_in : (w s : List ℕ) (x : Run) → RunIn w 0 x → HeadIn w 0 (thousandths (w ++ y ∷ s) x)
    head_in w s x h = (head_kept (head_reach y w s s (run_in h))).1
