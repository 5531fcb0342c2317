-- What reading a table answers, and what the lent slice then holds, in the terms of spelling: the frame's and the body's limits and the room included (01, "Refusal numbers"). Assumes nothing.
use Rattle.std.specs.Prelude.{◌≡◌, true, cond, ◌↔◌, ℕ, suc, ◌-◌, ◌≤◌, ℤ, pos, negsuc, length}
use Rattle.std.proofs.Math.Path.{refl}
use Rattle.std.proofs.Common.{arith}
use mathlib.Core.List.{List}
use Rattle.std.proofs.Math.Dec.{ltb}
use borrow.Author.Tests.{ltb-true}
use Rattle.terms.specs.Logic.{by_case, zero_one}
use Rattle.table_spec.specs.Frame.{longest_body, frame_legal, entry_for}
use Rattle.table_spec.specs.Reading.{refuse, stored}

-- frame and body are within their limits, and there is room for N ordinates: neither 1 nor 2 is given
pub record Allowed (f l : ℤ) (n : ℕ) (s : List ℕ) (space : ℕ) : Type 0 where
  pub frame : frame_legal f l n ≡ true
  pub body : length s ≤ longest_body
  pub room : n ≤ space

-- ---- the lent slice

-- the entry of a missing ordinate, "and nothing else", is -2,147,483,648
pub mark_missing : (u : ℕ) → (entry_for u ≡ negsuc 2147483647) ↔ (u ≡ 0)
mark_missing u = (
  by_case (λ t. ltb u 2147483648 ≡ t → cond t (negsuc (2147483648 - suc u)) (pos (u - 2147483648)) ≡ negsuc 2147483647 → u ≡ 0) (ltb u 2147483648)
      (λ _ h e. let z : 2147483648 - suc u ≡ 2147483647 = cc in omega (arith, ltb-true u 2147483648 h)) (λ _ h e. zero_one cc) refl,
  λ e. rw e refl,
)

-- a refusal alters no entry
pub refused_stored : (out : List ℤ) (c a : ℕ) → stored out (refuse c a) ≡ out
unfolding stored
refused_stored out c a = refl
