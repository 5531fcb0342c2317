-- What reading a table answers, and what the lent slice then holds, in the terms of spelling: the frame's and the body's limits and the room included (01, "Refusal numbers"). Assumes nothing.
use Rattle.std.specs.Prelude.{◌≡◌, false, ◌↔◌, ℕ, ◌+◌, ◌-◌, ◌≤◌, ◌<◌, ℤ, length, take, get_or}
use Rattle.std.proofs.Math.Path.{refl, ap}
use Rattle.std.proofs.Common.{sym, ◌∙◌, arith, zero-add, take_at, drop_at, get_or-drop, get_or-take}
use mathlib.Core.List.{List, ◌++◌, map}
use Rattle.std.proofs.Math.Dec.{ltb, leb}
use Rattle.std.proofs.lemmas.List.{length-map}
use Rattle.std.proofs.Math.ListN.{drop, get_or-map}
use Rattle.std.proofs.Math.Seq.{sets-eq, length-sets}
use borrow.Author.Tests.{ltb-false, leb-true, le-leb, le-ltb}
use Rattle.terms.specs.Logic.{pick, by_case}
use Rattle.table_spec.specs.Frame.{Rules, rules, longest_body, frame_legal, abscissa, entry_for}
use Rattle.table_spec.specs.Reading.{Answer, refuse, accept, read, read_table, stored}
use Rattle.table_spec.specs.ReadingLaws.{no_accept}
use Rattle.table_law.specs.Spelling.{Spells}
use Rattle.table_law.specs.Small.{Small}
use Rattle.table_law.proofs.Small.{spells_small}
use Rattle.table_law.proofs.Complete.{complete, spells_count}
use Rattle.table_law.proofs.Sound.{read_sound}
use Rattle.table_law.specs.Outcome.{Allowed}

module _ (f l : ℤ) (n : ℕ) (s : List ℕ) (space : ℕ) where
  -- the rules that F, L and N make
  abbrev R : Rules
  R = rules (abscissa f) (abscissa l) n

  pub allowed_read : Allowed f l n s space → read_table f l n s space ≡ read R s
  unfolding read_table
  allowed_read h = rw (h.frame, le-leb (length s) longest_body h.body, le-ltb space n h.room) refl

  -- what holds of 1 at 0, of 2 at 0, and of what the body says where it is read, holds of the answer
  answers : (P : Answer → Type 0) → P (refuse 1 0) → P (refuse 2 0) → (Allowed f l n s space → P (read R s)) → P (read_table f l n s space)
  unfolding read_table
  answers P a b c =
      by_case (λ t. frame_legal f l n ≡ t → P (pick (pick t (leb (length s) longest_body) false) (pick (ltb space n) (refuse 2 0) (read R s)) (refuse 1 0))) (frame_legal f l n)
      (λ _ x. by_case (λ t. leb (length s) longest_body ≡ t → P (pick t (pick (ltb space n) (refuse 2 0) (read R s)) (refuse 1 0))) (leb (length s) longest_body)
      (λ _ y. by_case (λ t. ltb space n ≡ t → P (pick t (refuse 2 0) (read R s))) (ltb space n)
      (λ _ z. b) (λ _ z. c (record { frame = x; body = leb-true (length s) longest_body y; room = ltb-false space n z })) refl) (λ _ y. a) refl) (λ _ x. a) refl

  -- ---- accepted exactly when spelled

  pub accepted_allowed : (ys : List ℕ) → read_table f l n s space ≡ accept ys → Allowed f l n s space
  accepted_allowed ys = answers (λ x. x ≡ accept ys → Allowed f l n s space) no_accept no_accept (λ h e. h)

  pub accepted_spells : (ys : List ℕ) → read_table f l n s space ≡ accept ys → Spells R ys s
  accepted_spells ys = answers (λ x. x ≡ accept ys → Spells R ys s) no_accept no_accept (λ h. read_sound R s ys)

  pub spells_accepted : (ys : List ℕ) → Allowed f l n s space → Spells R ys s → read_table f l n s space ≡ accept ys
  spells_accepted ys h r = allowed_read h ∙ complete R ys s r

  pub accepted_iff : (ys : List ℕ) → Allowed f l n s space → (read_table f l n s space ≡ accept ys) ↔ Spells R ys s
  accepted_iff ys h = (accepted_spells ys, spells_accepted ys h)

  -- ---- refused exactly when nothing is spelled

  pub refused_none : (c a : ℕ) → Allowed f l n s space → read_table f l n s space ≡ refuse c a → (ys : List ℕ) → Spells R ys s → ⊥
  refused_none c a h e ys r = no_accept (sym e ∙ spells_accepted ys h r)

  -- 3 to 13 are given where frame, body and room are allowed only
  pub refused_allowed : (c a : ℕ) → (c ≡ 1 → ⊥) → (c ≡ 2 → ⊥) → read_table f l n s space ≡ refuse c a → Allowed f l n s space
  refused_allowed c a x y =
      answers (λ z. z ≡ refuse c a → Allowed f l n s space) (λ e. absurd (x (sym (ap number e)))) (λ e. absurd (y (sym (ap number e)))) (λ h e. h)
    where
      number : Answer → ℕ
      number (refuse k b) = k
      number (accept ys) = 0

  -- the same by the number alone
  pub numbered_none : (c a : ℕ) → (c ≡ 1 → ⊥) → (c ≡ 2 → ⊥) → read_table f l n s space ≡ refuse c a → (ys : List ℕ) → Spells R ys s → ⊥
  numbered_none c a x y e = refused_none c a (refused_allowed c a x y e) e

  -- some refusal is given where nothing is spelled
  pub none_refused : Allowed f l n s space → ((ys : List ℕ) → Spells R ys s → ⊥) → (c : ℕ) × (a : ℕ) × (read_table f l n s space ≡ refuse c a)
  none_refused h g = by_answer (read_table f l n s space) refl
    where
      by_answer : (x : Answer) → read_table f l n s space ≡ x → (c : ℕ) × (a : ℕ) × (read_table f l n s space ≡ refuse c a)
      by_answer (refuse c a) e = (c, a, e)
      by_answer (accept ys) e = absurd (g ys (accepted_spells ys e))

  -- N ordinates, each of them below 2^32
  pub accepted_count : (ys : List ℕ) → read_table f l n s space ≡ accept ys → length ys ≡ n
  accepted_count ys e = spells_count R (accepted_spells ys e)

  pub accepted_small : (ys : List ℕ) → read_table f l n s space ≡ accept ys → Small ys
  accepted_small ys e = spells_small (accepted_spells ys e)

module _ (f l : ℤ) (n : ℕ) (s : List ℕ) (out : List ℤ) (ys : List ℕ) (e : read_table f l n s (length out) ≡ accept ys) where
  entries : length (map entry_for ys) ≡ n
  entries = length-map ys entry_for ∙ accepted_count f l n s (length out) ys e

  -- the ordinates, then the entries past N as they were
  pub accepted_stored : stored out (accept ys) ≡ map entry_for ys ++ drop n out
  unfolding stored
  accepted_stored =
      let h = (accepted_allowed f l n s (length out) ys e).room in
      let k = entries in
      sets-eq (map entry_for ys) out 0 (omega (arith, h, k)) ∙ ap (λ j. map entry_for ys ++ drop j out) (zero-add (length (map entry_for ys)) ∙ k)

  pub stored_first : take n (stored out (accept ys)) ≡ map entry_for ys
  stored_first = ap (take n) accepted_stored ∙ take_at (map entry_for ys) (drop n out) n entries

  pub stored_past : drop n (stored out (accept ys)) ≡ drop n out
  stored_past = ap (drop n) accepted_stored ∙ drop_at (map entry_for ys) (drop n out) n entries

  pub stored_length : length (stored out (accept ys)) ≡ length out
  unfolding stored
  stored_length = length-sets out 0 (map entry_for ys)

  -- entry by entry
  pub stored_entry : (i : ℕ) → i < n → get_or (stored out (accept ys)) i (entry_for 0) ≡ entry_for (get_or ys i 0)
  stored_entry i h =
      sym (get_or-take n (stored out (accept ys)) i (entry_for 0) h) ∙ ap (λ x. get_or x i (entry_for 0)) stored_first ∙ get_or-map entry_for ys i 0

  pub stored_unaltered : (i : ℕ) (z : ℤ) → n ≤ i → get_or (stored out (accept ys)) i z ≡ get_or out i z
  stored_unaltered i z h =
      let k : i ≡ n + (i - n) = omega arith in
      rw k (sym (get_or-drop n (stored out (accept ys)) (i - n) z) ∙ ap (λ x. get_or x (i - n) z) stored_past ∙ get_or-drop n out (i - n) z)
