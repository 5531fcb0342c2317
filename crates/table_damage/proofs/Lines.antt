-- Lines before a text, and what they do to the state of reading; a check value that is right after one ordinate is wrong after every other. Assumes nothing.
use Rattle.std.specs.Prelude.{◌≡◌, false, ltb, leb}
use Rattle.std.proofs.Math.Path.{refl}
use Rattle.std.proofs.Common.{sym, ◌∙◌, eqb-true, ne_eqb}
use Rattle.std.proofs.Math.Bool.{true}
use mathlib.Core.List.{List, []}
use Prim.Native.Nat.{ℕ}
use Rattle.std.proofs.Math.Dec.{eqb}
use Rattle.terms.specs.Logic.{pick, by_case, no_way}
use Rattle.table_spec.specs.Frame.{Rules}
use Rattle.table_spec.specs.Values.{Value, own, gap, by, times, Form, Own, is_dif, first, after, ordinate, index}
use Rattle.table_spec.specs.Reading.{Tokens, over, fault, head, value, line, adds, refuses, says, refuse, accept, bare, took, checked, finish, judge}
use Rattle.table_spec.specs.ReadingLaws.{no_accept}
use Rattle.line_law.specs.WholeLine.{Closed, HeadsClosed, Starts}
use Rattle.table_damage.specs.Moved.{Alike, overs, faults, heads, values, lines}
use Rattle.table_damage.specs.Lines.{nowhere, value_at, first_value, Caught}

module _ (R : Rules) (j e d : ℕ) (differ : e ≡ d → ⊥) where
  -- the check value of an accepted line is the last ordinate, so no other ordinate passes
  check_fails : (a b : ℕ) (x : Value) (r s : Tokens) (zs : List ℕ) → judge R (value a x r) j e (first true) ≡ accept zs → judge R (value b x s) j d (first true) ≡ refuse 10 b
  unfolding judge says took
  check_fails a b (own m v) r s zs z₀ =
      by_case (λ t. took R (λ k q f. judge R r k q (after f)) a j e (pick t (pick (eqb (ordinate m v) e) (adds [] Own) (refuses 10)) (refuses 9)) ≡ accept zs
      → took R (λ k q f. judge R s k q (after f)) b j d (pick t (pick (eqb (ordinate m v) d) (adds [] Own) (refuses 10)) (refuses 9)) ≡ refuse 10 b) (leb v 2147483647)
      (λ _. by_case (λ t. eqb (ordinate m v) e ≡ t → took R (λ k q f. judge R r k q (after f)) a j e (pick t (adds [] Own) (refuses 10)) ≡ accept zs
      → took R (λ k q f. judge R s k q (after f)) b j d (pick (eqb (ordinate m v) d) (adds [] Own) (refuses 10)) ≡ refuse 10 b) (eqb (ordinate m v) e)
      (λ _ g _. rw (ne_eqb (ordinate m v) d (λ z. differ (sym (eqb-true (ordinate m v) e g) ∙ z))) refl) (λ _ g z. no_accept z) refl)
      (λ _ z. no_accept z) z₀
  check_fails a b gap r s zs z = no_accept z
  check_fails a b (by m v) r s zs z = no_accept z
  check_fails a b (times n) r s zs z = no_accept z

  line_fails : (x y : Tokens) (zs : List ℕ) → Alike x y → Closed x → bare x ≡ false → judge R x j e (first true) ≡ accept zs → Caught (value_at y) (judge R y j d (first true)) × (bare y ≡ false)
  unfolding judge
  line_fails (over k) (over l) zs overs o g z = absurd o
  line_fails (fault c k) (fault c' l) zs faults o g z = no_accept z
  line_fails (head k n v r) (head l n' v' s) zs (heads i) o g z = absurd o
  line_fails (value k x r) (value l x' s) zs (values i) o g z = ((l, refl, check_fails k l x r s zs z), refl)
  line_fails (line r) (line s) zs (lines i) o g z = no_way (sym g)
  line_fails (over k) (fault c' l) zs alike o g z = elim alike [ ]
  line_fails (over k) (head l n' v' s) zs alike o g z = elim alike [ ]
  line_fails (over k) (value l x' s) zs alike o g z = elim alike [ ]
  line_fails (over k) (line s) zs alike o g z = elim alike [ ]
  line_fails (fault c k) (over l) zs alike o g z = elim alike [ ]
  line_fails (fault c k) (head l n' v' s) zs alike o g z = elim alike [ ]
  line_fails (fault c k) (value l x' s) zs alike o g z = elim alike [ ]
  line_fails (fault c k) (line s) zs alike o g z = elim alike [ ]
  line_fails (head k n v r) (over l) zs alike o g z = elim alike [ ]
  line_fails (head k n v r) (fault c' l) zs alike o g z = elim alike [ ]
  line_fails (head k n v r) (value l x' s) zs alike o g z = elim alike [ ]
  line_fails (head k n v r) (line s) zs alike o g z = elim alike [ ]
  line_fails (value k x r) (over l) zs alike o g z = elim alike [ ]
  line_fails (value k x r) (fault c' l) zs alike o g z = elim alike [ ]
  line_fails (value k x r) (head l n' v' s) zs alike o g z = elim alike [ ]
  line_fails (value k x r) (line s) zs alike o g z = elim alike [ ]
  line_fails (line r) (over l) zs alike o g z = elim alike [ ]
  line_fails (line r) (fault c' l) zs alike o g z = elim alike [ ]
  line_fails (line r) (head l n' v' s) zs alike o g z = elim alike [ ]
  line_fails (line r) (value l x' s) zs alike o g z = elim alike [ ]

  -- what follows an accepted line in DIF form, moved, after a line in DIF form that ends on another ordinate
  pub next_fails : (x y : Tokens) (f g : Form) (zs : List ℕ) → Alike x y → Starts x → HeadsClosed x → is_dif f ≡ true → is_dif g ≡ true → judge R x j e (after f) ≡ accept zs
      → Caught (first_value y) (judge R y j d (after g))
  unfolding judge finish checked
  next_fails (over k) (over l) f g zs overs o n p q z =
      by_case (λ t. pick t (refuse 12 k) (pick (is_dif f) (refuse 13 k) (accept [])) ≡ accept zs → Caught nowhere (judge R (over l) j d (after g))) (ltb j R.points)
      (λ _ w. no_accept w) (λ _ w. no_accept (rw p at w)) z
  next_fails (fault c k) (fault c' l) f g zs faults o n p q z = no_accept z
  next_fails (head a h u r) (head b h' u' s) f g zs (heads i) o n p q z =
      by_case (λ t. R.passing h u (index true j) ≡ t → pick t (pick (bare r) (refuse 7 a) (judge R r j e (first true))) (refuse 6 a) ≡ accept zs
      → Caught (value_at s) (judge R (head b h u s) j d (after g))) (R.passing h u (index true j))
      (λ _ v w. by_case (λ t. bare r ≡ t → pick t (refuse 7 a) (judge R r j e (first true)) ≡ accept zs → Caught (value_at s) (judge R (head b h u s) j d (after g))) (bare r)
      (λ _ _ w. no_accept w)
      (λ _ k w. let y = line_fails r s zs i n.0 k w in (y.0.0, y.0.1, rw (q, v, y.1, y.0.2) refl)) refl w)
      (λ _ v w. no_accept w) refl (rw p at z)
  next_fails (value a x r) (value b x' s) f g zs (values i) o n p q z = absurd o
  next_fails (line r) (line s) f g zs (lines i) o n p q z = absurd o
  next_fails (over k) (fault c' l) f g zs alike o n p q z = elim alike [ ]
  next_fails (over k) (head b h' u' s) f g zs alike o n p q z = elim alike [ ]
  next_fails (over k) (value b x' s) f g zs alike o n p q z = elim alike [ ]
  next_fails (over k) (line s) f g zs alike o n p q z = elim alike [ ]
  next_fails (fault c k) (over l) f g zs alike o n p q z = elim alike [ ]
  next_fails (fault c k) (head b h' u' s) f g zs alike o n p q z = elim alike [ ]
  next_fails (fault c k) (value b x' s) f g zs alike o n p q z = elim alike [ ]
  next_fails (fault c k) (line s) f g zs alike o n p q z = elim alike [ ]
  next_fails (head a h u r) (over l) f g zs alike o n p q z = elim alike [ ]
  next_fails (head a h u r) (fault c' l) f g zs alike o n p q z = elim alike [ ]
  next_fails (head a h u r) (value b x' s) f g zs alike o n p q z = elim alike [ ]
  next_fails (head a h u r) (line s) f g zs alike o n p q z = elim alike [ ]
  next_fails (value a x r) (over l) f g zs alike o n p q z = elim alike [ ]
  next_fails (value a x r) (fault c' l) f g zs alike o n p q z = elim alike [ ]
  next_fails (value a x r) (head b h' u' s) f g zs alike o n p q z = elim alike [ ]
  next_fails (value a x r) (line s) f g zs alike o n p q z = elim alike [ ]
  next_fails (line r) (over l) f g zs alike o n p q z = elim alike [ ]
  next_fails (line r) (fault c' l) f g zs alike o n p q z = elim alike [ ]
  next_fails (line r) (head b h' u' s) f g zs alike o n p q z = elim alike [ ]
  next_fails (line r) (value b x' s) f g zs alike o n p q z = elim alike [ ]
