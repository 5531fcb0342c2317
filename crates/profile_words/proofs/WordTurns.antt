-- One of several words, and the words that are listed for a record: no place of the code is named here.
use mathlib.Core.Path.{◌≡◌, refl, ◌∙◌}
use mathlib.Core.Bool.{Bool, true, false, ◌||◌}
use mathlib.Core.List.{List, [], ◌∷◌}
use Prim.Native.Nat.{ℕ, zero, suc}
use native.Mathlib.Omega.{arith}
use lib.Dec.{eqb}
use borrow.Author.Tests.{ne_eqb}
use Rattle.terms.specs.Logic.{pick}
use Rattle.keyword_spec.specs.Keywords.{is_word}
use Rattle.profile_spec.specs.Wanted.{version, spectrum, table, polarities, modes, xunits, yunits, wanted, kth}
use Rattle.profile_spec.specs.Profile.{any_word}

-- The text t is one of these words, or b was true already.
abbrev or_any : List ℕ → Bool → List (List ℕ) → Bool
or_any t b [] = b
or_any t b (w ∷ ws) = or_any t (b || is_word w t) ws

or_any_lem : (t : List ℕ) (b : Bool) (ws : List (List ℕ)) → or_any t b ws ≡ pick b true (any_word ws t)
unfolding any_word
or_any_lem t true [] = refl
or_any_lem t false [] = refl
or_any_lem t true (w ∷ ws) = or_any_lem t true ws
or_any_lem t false (w ∷ ws) = or_any_lem t (is_word w t) ws

-- The code's way: one word after the other.
pub one_of : (w : List ℕ) (ws : List (List ℕ)) (t : List ℕ) → or_any t (is_word w t) ws ≡ any_word (w ∷ ws) t
unfolding any_word
one_of w ws t = or_any_lem t (is_word w t) ws

-- The listed words by the number of the record.
words_of : (k : ℕ) → (kth k).words ≡
    pick (eqb k 0) version (pick (eqb k 1) spectrum (pick (eqb k 2) table (pick (eqb k 9) polarities (pick (eqb k 10) modes (pick (eqb k 13) xunits (pick (eqb k 14) yunits []))))))
unfolding wanted
words_of zero = refl
words_of (suc zero) = refl
words_of (suc (suc zero)) = refl
words_of (suc (suc (suc zero))) = refl
words_of (suc (suc (suc (suc zero)))) = refl
words_of (suc (suc (suc (suc (suc zero))))) = refl
words_of (suc (suc (suc (suc (suc (suc zero)))))) = refl
words_of (suc (suc (suc (suc (suc (suc (suc zero))))))) = refl
words_of (suc (suc (suc (suc (suc (suc (suc (suc zero)))))))) = refl
words_of (suc (suc (suc (suc (suc (suc (suc (suc (suc zero))))))))) = refl
words_of (suc (suc (suc (suc (suc (suc (suc (suc (suc (suc zero)))))))))) = refl
words_of (suc (suc (suc (suc (suc (suc (suc (suc (suc (suc (suc zero))))))))))) = refl
words_of (suc (suc (suc (suc (suc (suc (suc (suc (suc (suc (suc (suc zero)))))))))))) = refl
words_of (suc (suc (suc (suc (suc (suc (suc (suc (suc (suc (suc (suc (suc zero))))))))))))) = refl
words_of (suc (suc (suc (suc (suc (suc (suc (suc (suc (suc (suc (suc (suc (suc zero)))))))))))))) = refl
words_of (suc (suc (suc (suc (suc (suc (suc (suc (suc (suc (suc (suc (suc (suc (suc k))))))))))))))) =
    let n = suc (suc (suc (suc (suc (suc (suc (suc (suc (suc (suc (suc (suc (suc (suc k)))))))))))))) in
    rw (
      ne_eqb n 0 (λ e. omega arith),
      ne_eqb n 1 (λ e. omega arith),
      ne_eqb n 2 (λ e. omega arith),
      ne_eqb n 9 (λ e. omega arith),
      ne_eqb n 10 (λ e. omega arith),
      ne_eqb n 13 (λ e. omega arith),
      ne_eqb n 14 (λ e. omega arith),
    ) refl

pub no_words : (k : ℕ) → (k ≡ 0 → ⊥) → (k ≡ 1 → ⊥) → (k ≡ 2 → ⊥) → (k ≡ 9 → ⊥) → (k ≡ 10 → ⊥) → (k ≡ 13 → ⊥) → (k ≡ 14 → ⊥) → (kth k).words ≡ []
no_words k a b c d e f g = words_of k ∙ rw (ne_eqb k 0 a, ne_eqb k 1 b, ne_eqb k 2 c, ne_eqb k 9 d, ne_eqb k 10 e, ne_eqb k 13 f, ne_eqb k 14 g) refl
