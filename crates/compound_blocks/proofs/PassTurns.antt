-- The turns of the pass over a file's data blocks: no place of the code is named here.
use Rattle.label_spec.specs.declared.Label.{Label}
use mathlib.Core.Path.{◌≡◌, refl, sym, ◌∙◌}
use mathlib.Core.Bool.{Bool, true, false, not}
use mathlib.Core.List.{List, [], ◌∷◌}
use Prim.Native.Nat.{ℕ, suc, min, ◌+◌, ◌-◌, ◌*◌, ◌<◌, ◌≤◌}
use native.Mathlib.Numerals.{add-one}
use native.Mathlib.Omega.{arith}
use lib.Dec.{eqb, ltb}
use lib.ListN.{length, get_or, take, drop, drop_of_length-le}
use Rattle.std.specs.List.{prefix_len}
use Rattle.text.proofs.Passing.{differs, equals, rest, passed as counted}
use lib.Seq.{sets, sets-eq, drop-cons, length-sets}
use borrow.Rule.Slice.PartMut.{put_mid}
use Rattle.std.proofs.Common.{append_assoc}
use Rattle.std.proofs.lemmas.Slice.{put_mid-paste}
use Rattle.std.proofs.lemmas.List.Edits.{paste_all}
use borrow.Author.Tests.{ne_eqb, ltb-true, ltb-false}
use Rattle.terms.specs.Logic.{pick, by_case}
use Rattle.label_spec.specs.Names.{name_in, sames, TITLE, END}
use Rattle.label_spec.specs.Labels.{from}
use Rattle.label_spec.specs.LabelLaws.{resume}
use Rattle.label_lines.specs.Post.{Marked, Met}
use Rattle.label_judged.proofs.JudgeTurns.{mark_is}
use Rattle.compound_spec.specs.Blocks.{says}
use Rattle.compound_spec.specs.Cut.{rest_of_line, end_of}
use Rattle.compound_spec.specs.Answers.{entries}
use Rattle.compound_law.specs.Flat.{Last, plain, none, passed, flat}
use Rattle.compound_law.proofs.Flat.{zeroth}
use Rattle.compound_blocks.specs.declared.Seen.{Seen}
use Rattle.compound_blocks.specs.Post.{Sees, Puts}

-- `after_line`
abbrev pub Line : List ℕ → ℕ → ℕ → Type 0
Line s at i = (i ≤ length s) × (at + rest_of_line (drop at s) ≡ i + rest_of_line (drop i s))

module _ (s : List ℕ) (at i : ℕ) (c : Line s at i) where
  line_over : length s ≤ i → i ≡ at + rest_of_line (drop at s)
  unfolding rest_of_line
  line_over h = sym (c.1 ∙ rw (drop_of_length-le s h) (omega arith))

  module _ (h : i < length s) where
    line_here : get_or s i 0 ≡ 10 → i + 1 ≡ at + rest_of_line (drop at s)
    unfolding rest_of_line
    line_here e = sym (c.1 ∙ rw (drop-cons s i 0 h, e) refl)

    line_on : (get_or s i 0 ≡ 10 → ⊥) → Line s at (i + 1)
    unfolding rest_of_line
    line_on n = (omega arith, c.1 ∙ rw (drop-cons s i 0 h, ne_eqb (get_or s i 0) 10 n, add-one i) (omega arith))

pub line_passed : (s : List ℕ) (at : ℕ) → at ≤ length s → (n : ℕ) → n ≡ length (take (prefix_len (λ b. not (eqb b 10)) (rest s at)) (rest s at))
    → (r : ℕ) → r ≡ min (length s) (at + n + 1) → r ≡ at + rest_of_line (drop at s)
line_passed s at h n z r e =
    let p = counted s at (length s) h (omega arith) (Line s at) (λ b. not (eqb b 10)) (h, refl) (λ i _ m t x. line_on s at i x m (differs (get_or s i 0) 10 t)) n z in
    by_case (λ t. ltb (at + n) (length s) ≡ t → r ≡ at + rest_of_line (drop at s)) (ltb (at + n) (length s))
    (λ _ q. let l = ltb-true (at + n) (length s) q in
    let m : r ≡ at + n + 1 = omega arith in m ∙ line_here s at (at + n) p.kept l (equals (get_or s (at + n) 0) 10 (p.stops l)))
    (λ _ q. let l = ltb-false (at + n) (length s) q in
    let m : r ≡ at + n = omega (arith, p.high) in m ∙ line_over s at (at + n) p.kept l) refl

-- `next_seen`
module _ (s : List ℕ) (at : ℕ) where
  pub seen_none : Met s at false Label.None → Sees s at Seen.Over
  unfolding resume flat
  seen_none x = record { says = λ n t. rw x.law refl }

  pub seen_bad : (m : ℕ) → Met s at false (Label.Bad m) → Sees s at Seen.Over
  unfolding resume flat
  seen_bad m x = record { says = λ n t. rw x.law refl }

  module _ (m n e : ℕ) (x : Met s at false (Label.At m n e)) where
    pub seen_end : sames (name_in s n e) END ≡ true → Sees s at (Seen.End m e)
    unfolding resume flat passed
    seen_end g = record { says = (x.good.0, omega (arith, x.good), x.good.3, λ k t. rw (x.law, g) refl) }

    module _ (g : sames (name_in s n e) END ≡ false) where
      pub seen_title : sames (name_in s n e) TITLE ≡ true → Sees s at (Seen.Title m e)
      unfolding resume flat passed
      seen_title h = record { says = (x.good.0, omega (arith, x.good), x.good.3, λ k t. rw (x.law, g, h) refl) }

      module _ (h : sames (name_in s n e) TITLE ≡ false) (b : ℕ) (z : Marked s (e + 1) b) where
        pub seen_link : says s (name_in s n e) (e + 1) b ≡ true → Sees s at (Seen.Link e)
        unfolding resume flat passed
        seen_link k = let y = rw (mark_is s (e + 1) b z) at k in record { says = (omega (arith, x.good), x.good.3, λ a t. rw (x.law, g, h, y) refl) }

        pub seen_other : says s (name_in s n e) (e + 1) b ≡ false → Sees s at (Seen.Other e)
        unfolding resume flat passed
        seen_other k = let y = rw (mark_is s (e + 1) b z) at k in record { says = (omega (arith, x.good), x.good.3, λ a t. rw (x.law, g, h, y) refl) }

-- `store_blocks`: what is left to be stored, from the entry i on, makes the slice what it is to be.
abbrev pub last_is : Bool → ℕ → ℕ → Last
last_is unlinked m e = pick unlinked (plain m e) none

pub record Pass (s aim out : List ℕ) (at m start : ℕ) (unlinked : Bool) (i left : ℕ) : Type 0 where
  pub eq : ℕ
  pub next : start ≡ suc eq
  pub law : aim ≡ sets out i (entries s (flat s (from s at false) left (last_is unlinked m eq)))
  pub high : at ≤ length s
  pub room : i + left * 4 ≤ length out

pub pass_begin : (s out : List ℕ) (m e n : ℕ) → e < length s → n * 4 ≤ length out
    → Pass s (sets out 0 (entries s (flat s (from s (e + 1) false) n (plain m e)))) out (e + 1) m (e + 1) true 0 n
pass_begin s out m e n h g = record { eq = e; next = add-one e; law = refl; high = omega arith; room = omega arith }

module _ (s aim out : List ℕ) (at m start : ℕ) (unlinked : Bool) (i left : ℕ) (c : Pass s aim out at m start unlinked i left) where
  pub pass_done : left ≡ 0 → out ≡ aim
  unfolding entries
  pass_done h = sym (c.law ∙ rw (h, zeroth s (from s at false) (last_is unlinked m c.eq)) refl)

  module _ (k : ℕ) (h : left ≡ suc k) where
    here : aim ≡ sets out i (entries s (flat s (from s at false) (suc k) (last_is unlinked m c.eq)))
    here = rw h at c.law

    pub pass_over : Sees s at Seen.Over → out ≡ aim
    unfolding entries
    pass_over x = sym (here ∙ rw (x.says k (last_is unlinked m c.eq)) refl)

    pub pass_other : (q : ℕ) → Sees s at (Seen.Other q) → Pass s aim out (q + 1) m start unlinked i left
    pass_other q x = record { eq = c.eq; next = c.next; law = here ∙ rw (x.says.2 k (last_is unlinked m c.eq), h) refl; high = omega (arith, x.says.1); room = c.room }

    pub pass_link : (q : ℕ) → Sees s at (Seen.Link q) → Pass s aim out (q + 1) m start false i left
    pass_link q x = record { eq = c.eq; next = c.next; law = here ∙ rw (x.says.2 k (last_is unlinked m c.eq), h) refl; high = omega (arith, x.says.1); room = c.room }

    pub pass_title : (a q : ℕ) → Sees s at (Seen.Title a q) → Pass s aim out (q + 1) a (q + 1) true i left
    pass_title a q x = record { eq = q; next = add-one q; law = here ∙ rw (x.says.3 k (last_is unlinked m c.eq), h) refl; high = omega (arith, x.says.2); room = c.room }

    module _ (a q : ℕ) (x : Sees s at (Seen.End a q)) where
      pub pass_shut : unlinked ≡ false → Pass s aim out (q + 1) m start unlinked i left
      pass_shut d =
          record { eq = c.eq; next = c.next; law = here ∙ rw (d, x.says.3 k none, h) refl; high = omega (arith, x.says.2); room = c.room }

      pub pass_block : unlinked ≡ true → (to : ℕ) → to ≡ q + rest_of_line (drop q s) → (out' : List ℕ) → Puts out i m to start a out'
          → Pass s aim out' (q + 1) m start false (i + 4) (left - 1)
      unfolding entries end_of
      pass_block d to e out' f =
          let z : left - 1 ≡ k = omega arith in
          let y : i + 4 ≡ suc (suc (suc (suc i))) = omega arith in
          let l = length-sets out i (m ∷ to ∷ start ∷ a ∷ []) in
          record {
            eq = c.eq;
            next = c.next;
            law = here ∙ rw (d, x.says.3 k (plain m c.eq), f.is, e, c.next, z, y) refl;
            high = omega (arith, x.says.2);
            room = rw (f.is, l, z) (omega (arith, c.room));
          }

-- `put_block`
pub four : (l : List ℕ) (i a b c d : ℕ) → i + 4 ≤ length l → (ys : List ℕ) → ys ≡ a ∷ b ∷ c ∷ d ∷ [] → Puts l i a b c d (put_mid i (i + 4 - i) l ys)
four l i a b c d h ys e =
    let vs : List ℕ = a ∷ b ∷ c ∷ d ∷ [] in
    let m : i + 4 - i ≡ 4 = omega arith in
    record { is = put_mid-paste i (i + 4 - i) l ys vs 4 e (sym m) refl ∙ paste_all l i vs 4 refl ∙ sym (rw append_assoc at (sets-eq vs l i h)) }

pub put_length : (out : List ℕ) (i a b c d : ℕ) (out' : List ℕ) → Puts out i a b c d out' → (n : ℕ) → length out ≡ n → length out' ≡ n
put_length out i a b c d out' e n h = rw e.is (length-sets out i (a ∷ b ∷ c ∷ d ∷ []) ∙ h)
