-- The turns of the functions on keywords: no place of the code is named here.
use mathlib.Core.Path.{◌≡◌, refl, sym, ap, ◌∙◌}
use mathlib.Core.Bool.{Bool, true, false, ◌&&◌}
use mathlib.Core.List.{List, [], ◌∷◌}
use Prim.Native.Nat.{ℕ, ◌+◌, ◌≤◌}
use native.Mathlib.Omega.{arith}
use lib.Dec.{eqb}
use lib.ListN.{length, take}
use lib.Pointwise.{pointwise}
use Rattle.std.specs.List.{starts_with}
use Rattle.text.proofs.Passing.{turned, rest, rest_drop, length_part}
use Rattle.terms.specs.Logic.{pick, by_case}
use Rattle.label_spec.specs.Names.{sames}
use Rattle.label_spec.specs.Space.{past_space}
use Rattle.keyword_spec.specs.Keywords.{word_from, is_word}
use Rattle.keyword.specs.Post.{worded, Worded}

-- `word_at`: one list begins with another where as many of its items as that has are the other's
same_begin : (w s : List ℕ) → pointwise eqb w s ≡ sames s w
unfolding sames
same_begin [] [] = refl
same_begin [] (x ∷ s) = refl
same_begin (y ∷ w) [] = refl
same_begin (y ∷ w) (x ∷ s) = rw (turned y x) (by_case (λ t. (t && pointwise eqb w s) ≡ pick t (sames s w) false) (eqb x y) (λ _. same_begin w s) (λ _. refl))

pub word_starts : (t : List ℕ) (p : ℕ) (w : List ℕ) → p ≤ length t → (r : Bool) → r ≡ starts_with eqb (rest t p) w → (r ≡ true → length w ≤ length (rest t p)) → Worded t p w r
unfolding worded
word_starts t p w h r e f = record {
  is = e ∙ same_begin w (take (length w) (rest t p)) ∙ ap (λ (l : List ℕ). sames (take (length w) l) w) (rest_drop t p);
  fits = λ z. let l = f z in omega (arith, length_part t p (length t) h (omega arith));
}

-- `is_keyword`
pub keyword_no : (t w : List ℕ) (p : ℕ) → p ≡ past_space t 0 → Worded t p w false → false ≡ is_word w t
unfolding is_word word_from worded
keyword_no t w p h g = sym (rw (← h, ← g.is) refl)

pub keyword_yes : (t w : List ℕ) (p r : ℕ) → p ≡ past_space t 0 → Worded t p w true → r ≡ past_space t (p + length w) → eqb r (length t) ≡ is_word w t
unfolding is_word word_from worded
keyword_yes t w p r h g e = sym (rw (← h, ← g.is, ← e) refl)
