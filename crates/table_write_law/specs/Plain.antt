-- The forms whose values are written in full (02, T-02): their text is one value after another, each on the line if it fits. Assumes nothing.
use Rattle.std.specs.Prelude.{◌≡◌, Bool, true, false, ℕ, suc, ◌+◌, ◌≤◌, leb}
use Rattle.std.proofs.Math.Path.{refl}
use mathlib.Core.List.{List, [], ◌∷◌, ◌++◌, append-nil}
use Rattle.std.proofs.Common.{arith, le-leb}
use Rattle.std.proofs.Math.ListN.{length}
use Rattle.terms.specs.Logic.{pick}
use Rattle.table_spec.specs.declared.Style.{Style}
use Rattle.table_spec.specs.Values.{is_dif}
use Rattle.table_spec.specs.Groups.{in_full, form, token_text, dup_text, group}
use Rattle.table_spec.specs.Frame.{longest_line}
use Rattle.table_spec.specs.Writing.{put, open_line, go_on, close, text, lines_of}
use Rattle.table_write_law.specs.Tokens.{form_cases}

-- "Each value is written in full"
unfoldable pub value_text : Style → ℕ → List ℕ
value_text st y = token_text st (form 0 y) y

-- the values of the points from i on, after some bytes of their line: "at most 80 bytes a line, as many values as fit". A value's text, and the head of a point
module _ (shown : ℕ → List ℕ) (hd : ℕ → List ℕ) where
  unfoldable pub values : List ℕ → ℕ → ℕ → List ℕ
  values [] i col = 13 ∷ 10 ∷ []
  values (y ∷ ys) i col =
      pick (leb (col + length (shown y)) longest_line)
      (shown y ++ values ys (suc i) (col + length (shown y)))
      (13 ∷ 10 ∷ hd i ++ (shown y ++ values ys (suc i) (length (hd i) + length (shown y))))

-- a value that is written in full is not in DIF form
pub never_dif : (y : ℕ) → is_dif (form 0 y) ≡ false
never_dif y = form_cases (λ r. is_dif r ≡ false) 0 y (λ _. refl) (λ _ _. refl) (λ _ h _. absurd (omega arith)) (λ _ h _. absurd (omega arith))

pub plain_group : (st : Style) → in_full st ≡ true → (p y : ℕ) (ys : List ℕ) → group st p y ys ≡ value_text st y
unfolding group value_text dup_text
plain_group st full p y ys = rw full (append-nil (token_text st (form 0 y) y))

module _ (st : Style) (full : in_full st ≡ true) (hd : ℕ → List ℕ) where
  plain_put : (K : ℕ → ℕ → ℕ → Bool → ℕ → List ℕ) (col i p y : ℕ) (ys : List ℕ)
      → put st hd K col i p y ys ≡ value_text st y ++ K 0 (suc i) y false (col + length (value_text st y))
  unfolding put
  plain_put K col i p y ys = rw (plain_group st full p y ys, full, never_dif y) refl

  -- what is left to write in such a form does not hang on the last ordinate
  pub plain_text : (ys : List ℕ) (i p col : ℕ) → text st hd ys 0 i p false col ≡ values (value_text st) hd ys i col
  unfolding text values go_on open_line close
  plain_text [] i p col = refl
  plain_text (y ∷ ys) i p col =
      rw (
        plain_group st full p y ys,
        plain_put (text st hd ys) col i p y ys,
        plain_put (text st hd ys) (length (hd i)) i 0 y ys,
        plain_text ys (suc i) y (col + length (value_text st y)),
        plain_text ys (suc i) y (length (hd i) + length (value_text st y)),
      ) refl

  -- the whole text: the head of the first point, and the values; the first one fits
  pub plain_lines : (y : ℕ) (ys : List ℕ) → length (hd 0) + length (value_text st y) ≤ longest_line → lines_of st hd (y ∷ ys) ≡ hd 0 ++ values (value_text st) hd (y ∷ ys) 0 (length (hd 0))
  unfolding lines_of open_line values
  plain_lines y ys h =
      rw (le-leb (length (hd 0) + length (value_text st y)) longest_line h, plain_put (text st hd ys) (length (hd 0)) 0 0 y ys, plain_text ys 1 y (length (hd 0) + length (value_text st y))) refl
