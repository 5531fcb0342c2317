-- What is spelled before a text is spelled so before any other; and an LF may end a line wherever it ends (01, "Spelling of a body"). Assumes nothing.
use Rattle.std.specs.Prelude.{◌≡◌, refl, Bool, List, [], ◌∷◌, ◌++◌, ℕ, ◌+◌}
use Rattle.std.proofs.Common.{sym, ap, ◌∙◌, append_assoc}
use Rattle.terms.specs.Logic.{no_way}
use Rattle.alphabet_spec.specs.SpelledDigits.{SpelledDigits, none, more}
use Rattle.table_spec.specs.Values.{Value}
use Rattle.table_law.specs.Spelling.{Magnitude, whole, pointed, Head, unsigned, positive, negative, Spelled, plus, minus, plain, sqz_zero, sqz_more, dif_zero, dif_more, dup_more, missing}
use Rattle.table_law.specs.Spelling.{Comment, cut, ends, any, LineEnd, over, lf, cr_lf, comment}
use Rattle.line_law.specs.Linewise.{NoLf}

-- t is some bytes and then s, and they are spelled so before any other text
pub record Front (P : List ℕ → List ℕ → Type 0) (t s : List ℕ) : Type 0 where
  pub bytes : List ℕ
  pub text : t ≡ bytes ++ s
  pub again : (u : List ℕ) → P (bytes ++ u) u

-- a byte more before them
more_front : {P Q : List ℕ → List ℕ → Type 0} {t s : List ℕ} (b : ℕ) → ((w u : List ℕ) → P w u → Q (b ∷ w) u) → Front P t s → Front Q (b ∷ t) s
more_front b f z = record { bytes = b ∷ z.bytes; text = ap (λ (x : List ℕ). b ∷ x) z.text; again = λ u. f (z.bytes ++ u) u (z.again u) }

-- the same bytes, spelled otherwise
as_front : {P Q : List ℕ → List ℕ → Type 0} {t s : List ℕ} → ((w u : List ℕ) → P w u → Q w u) → Front P t s → Front Q t s
as_front f z = record { bytes = z.bytes; text = z.text; again = λ u. f (z.bytes ++ u) u (z.again u) }

-- digits, a head without its sign, a head, a value
digits_front : {n v w : ℕ} {t s : List ℕ} → SpelledDigits n v w t s → Front (SpelledDigits n v w) t s
digits_front none = record { bytes = []; text = refl; again = λ u. none }
digits_front (more {d = d} l r) = more_front (48 + d) (λ w u x. more l x) (digits_front r)

magnitude_front : {h x : ℕ} {t s : List ℕ} → Magnitude h x t s → Front (Magnitude h x) t s
magnitude_front (whole a l r p) = as_front (λ w u x. whole a l x p) (digits_front r)
magnitude_front (pointed {s = s} a l r f p) =
    let z = digits_front r in
    let y = digits_front f in
    record {
      bytes = z.bytes ++ 46 ∷ y.bytes;
      text = z.text ∙ ap (λ (x : List ℕ). z.bytes ++ 46 ∷ x) y.text ∙ sym (append_assoc z.bytes (46 ∷ y.bytes) s);
      again = λ u. rw (append_assoc z.bytes (46 ∷ y.bytes) u) (pointed a l (z.again (46 ∷ (y.bytes ++ u))) (y.again u) p);
    }

pub head_front : {h x : ℕ} {t s : List ℕ} → Head h x t s → Front (Head h x) t s
head_front (unsigned r) = as_front (λ w u x. unsigned x) (magnitude_front r)
head_front (positive r) = more_front 43 (λ w u x. positive x) (magnitude_front r)
head_front (negative r) = more_front 45 (λ w u x. negative x) (magnitude_front r)

pub value_front : {q : Bool} {x : Value} {t s : List ℕ} → Spelled q x t s → Front (Spelled q x) t s
value_front (plus a l r) = more_front 43 (λ w u x. plus a l x) (digits_front r)
value_front (minus a l r) = more_front 45 (λ w u x. minus a l x) (digits_front r)
value_front (plain a l r) = as_front (λ w u x. plain a l x) (digits_front r)
value_front sqz_zero = record { bytes = 64 ∷ []; text = refl; again = λ u. sqz_zero }
value_front (sqz_more {b = b} g z l r) = more_front b (λ w u x. sqz_more g z l x) (digits_front r)
value_front dif_zero = record { bytes = 37 ∷ []; text = refl; again = λ u. dif_zero }
value_front (dif_more {b = b} g z l r) = more_front b (λ w u x. dif_more g z l x) (digits_front r)
value_front (dup_more {b = b} g l r) = more_front b (λ w u x. dup_more g l x) (digits_front r)
value_front missing = record { bytes = 63 ∷ []; text = refl; again = λ u. missing }

-- t is some bytes, after which an LF may end what P is, and then what ends it here: nothing, where t has no LF
pub record Closes (P : List ℕ → List ℕ → Type 0) (t : List ℕ) : Type 0 where
  pub bytes : List ℕ
  pub rest : List ℕ
  pub text : t ≡ bytes ++ rest
  pub all : NoLf rest → rest ≡ []
  pub again : (u : List ℕ) → P (bytes ++ 10 ∷ u) u

-- the rest of a comment, and a line's end
comment_closes : {t s : List ℕ} → Comment t s → Closes Comment t
comment_closes cut = record { bytes = []; rest = []; text = refl; all = λ n. refl; again = λ u. ends }
comment_closes (ends {s = s}) = record { bytes = []; rest = 10 ∷ s; text = refl; all = λ n. no_way (sym n.0); again = λ u. ends }
comment_closes (any {b = b} h r) =
    let z = comment_closes r in
    record { bytes = b ∷ z.bytes; rest = z.rest; text = ap (λ (x : List ℕ). b ∷ x) z.text; all = z.all; again = λ u. any h (z.again u) }

pub end_closes : {t s : List ℕ} → LineEnd t s → Closes LineEnd t
end_closes over = record { bytes = []; rest = []; text = refl; all = λ n. refl; again = λ u. lf }
end_closes (lf {s = s}) = record { bytes = []; rest = 10 ∷ s; text = refl; all = λ n. no_way (sym n.0); again = λ u. lf }
end_closes (cr_lf {s = s}) = record { bytes = []; rest = 13 ∷ 10 ∷ s; text = refl; all = λ n. no_way (sym n.1.0); again = λ u. lf }
end_closes (comment r) =
    let z = comment_closes r in
    record { bytes = 36 ∷ 36 ∷ z.bytes; rest = z.rest; text = ap (λ (x : List ℕ). 36 ∷ 36 ∷ x) z.text; all = z.all; again = λ u. comment (z.again u) }
