-- From the pass over a body to the answer for a frame, a body and a slice. No place of the code is named here. Assumes nothing.
use mathlib.Core.Path.{◌≡◌, refl, sym, ap, ◌∙◌, subst}
use mathlib.Core.Bool.{Bool, true, false}
use mathlib.Core.List.{List, [], ◌∷◌, map}
use Prim.Native.Nat.{ℕ, suc, ◌≤◌, ◌<◌}
use native.Mathlib.Omega.{arith}
use lib.Dec.{ltb, leb}
use lib.IntN.{ℤ, pos}
use lib.ListN.{length, get_or, set}
use lib.Seq.{sets}
use borrow.Author.Tests.{le-leb, lt-leb, lt-ltb, le-ltb, leb-true, leb-false, ltb-true, ltb-false}
use Rattle.terms.specs.Refusals.{fault_at, refusal_in}
use Rattle.terms.specs.declared.Fault.{Fault}
use Rattle.terms.specs.declared.Refusal.{Refusal}
use Rattle.terms.specs.Logic.{pick, both, by_case, zero_one, err_same}
use Rattle.table_spec.specs.Frame.{Rules, frame_legal, longest_body, entry_for}
use Rattle.table_spec.specs.Reading.{Answer, refuse, accept, read_lines, LongLine, all_short, long_at, long_line, sooner, read, read_table, stored}
use Rattle.frame.specs.declared.Frame.{Frame}
use Rattle.frame.specs.FrameLaws.{Framing}
use Rattle.table_pass.specs.Rows.{frame_rules, passed_of, PassSays}
use Rattle.table_read.specs.Answers.{told, told_first, sooner_of, Accepts, TableSays}
use Rattle.table_lengths.specs.Lengths.{shown_long}
use Rattle.std.specs.Prelude.{Result, Ok, Err, ⊤}

-- ---- what a pass answered

pub pass_refused : (x : Answer) {c a : ℕ} → Err (fault_at c a) ≡ passed_of x → x ≡ refuse c a
pass_refused (refuse d b) e = let z = err_same e in rw (ap (λ f. f.number) z, ap (λ f. f.place) z) refl
pass_refused (accept ys) e = zero_one cc

pub pass_all : (x : Answer) → Ok tt ≡ passed_of x → (ys : List ℕ) × (x ≡ accept ys)
pass_all (refuse c a) e = zero_one cc
pass_all (accept ys) e = (ys, refl)

pub check_refused : {R : Rules} {s : List ℕ} (out out' : List ℤ) {c a : ℕ} → PassSays R s out out' (Err (fault_at c a)) → Err (fault_at c a) ≡ told_first (read_lines R s)
check_refused {R} {s} out out' g = sym (ap told_first (pass_refused (read_lines R s) g.says))

-- one entry: the first ordinate is what stands in it
one_entry : (vs : List ℤ) (l : List ℤ) (i : ℕ) → get_or (sets l (suc i) vs) 0 (pos 0) ≡ get_or l 0 (pos 0)
one_entry [] l i = refl
one_entry (v ∷ vs) [] i = one_entry vs [] (suc i)
one_entry (v ∷ vs) (x ∷ l) i = one_entry vs (x ∷ set l i v) (suc i)

first_entry : (ys : List ℕ) (x : ℤ) → 0 < length ys → get_or (sets (x ∷ []) 0 (map entry_for ys)) 0 (pos 0) ≡ entry_for (get_or ys 0 0)
first_entry [] x l = absurd (omega arith)
first_entry (y ∷ ys) x l = one_entry (map entry_for ys) (entry_for y ∷ []) 0

pub check_first : {R : Rules} {s : List ℕ} {x : ℤ} {out' : List ℤ} → 1 ≤ R.points → PassSays R s (x ∷ []) out' (Ok tt) → Ok (get_or out' 0 (pos 0)) ≡ told_first (read_lines R s)
check_first {R} {s} {x} {out'} l g =
    let z = pass_all (read_lines R s) g.says in let n = g.count z.0 z.1 in
    rw z.1 (ap Ok (ap (λ (o : List ℤ). get_or o 0 (pos 0)) (g.stores z.0 z.1) ∙ first_entry z.0 x (omega arith)))

-- ---- the length of lines

-- 16 where a long line begins at what was found otherwise, or before it
pub sooner_told : (x : LongLine) (y : Answer) → sooner_of (shown_long x) (told_first y) ≡ told_first (sooner x y)
unfolding sooner
sooner_told all_short y = refl
sooner_told (long_at a) (refuse c b) =
    by_case (λ t. pick t (Err (fault_at c b)) (Err (fault_at 16 a)) ≡ told_first (pick t (refuse c b) (refuse 16 a))) (ltb b a) (λ _. refl) (λ _. refl)
sooner_told (long_at a) (accept ys) = refl

-- an accepted body has no long line
pub accepts_lines : (R : Rules) (s : List ℕ) → Accepts (read R s) → read R s ≡ read_lines R s
unfolding read sooner
accepts_lines R s a = go (long_line true 0 s) (read_lines R s) a
  where
    go : (x : LongLine) (y : Answer) → Accepts (sooner x y) → sooner x y ≡ y
    go all_short y h = refl
    go (long_at b) (refuse c d) h = by_case (λ t. Accepts (pick t (refuse c d) (refuse 16 b)) → pick t (refuse c d) (refuse 16 b) ≡ refuse c d) (ltb d b) (λ _ h. refl) (λ _ h. absurd h) h
    go (long_at b) (accept ys) h = absurd h

pub stored_all : {R : Rules} {s : List ℕ} {out out' : List ℤ} {r : Result ⊤ Fault} → Accepts (read R s) → PassSays R s out out' r → out' ≡ stored out (read R s)
unfolding stored
stored_all {R} {s} {out} {out'} a g = let e = accepts_lines R s a in rw e (go (read_lines R s) refl (rw e at a))
  where
    go : (x : Answer) → read_lines R s ≡ x → Accepts x → out' ≡ stored out (read_lines R s)
    go (refuse c b) e h = absurd h
    go (accept ys) e h = g.stores ys e ∙ sym (rw e refl)

-- ---- the frame, the body's length and the room

both_false : (a : Bool) → both a false ≡ false
both_false true = refl
both_false false = refl

module _ (f l : ℤ) (n : ℕ) (s : List ℕ) (space : ℕ) where
  pub body_long : longest_body < length s → read_table f l n s space ≡ refuse 1 0
  unfolding read_table
  body_long h = rw (lt-leb (length s) longest_body h, both_false (frame_legal f l n)) refl

  pub frame_outside : frame_legal f l n ≡ false → read_table f l n s space ≡ refuse 1 0
  unfolding read_table
  frame_outside h = rw h refl

  module _ (b : length s ≤ longest_body) {fr : Frame} (g : Framing f l n fr) where
    pub no_room : space < n → read_table f l n s space ≡ refuse 2 0
    unfolding read_table
    no_room h = rw (g.legal, le-leb (length s) longest_body b, lt-ltb space n h) refl

    pub body_read : n ≤ space → read_table f l n s space ≡ read (frame_rules fr) s
    unfolding read_table
    body_read h = rw (g.legal, le-leb (length s) longest_body b, le-ltb space n h, g.is) refl

-- ---- the public answers

pub read_refused : {f l : ℤ} {n : ℕ} {s : List ℕ} {out : List ℤ} {r : Fault} {q : Refusal} → Err r ≡ told_first (read_table f l n s (length out))
    → q ≡ refusal_in s r.number r.place → TableSays f l n s out out (Err q)
unfolding stored
read_refused {f} {l} {n} {s} {out} {r} {q} e p = go (read_table f l n s (length out)) e refl
  where
    go : (x : Answer) → Err r ≡ told_first x → read_table f l n s (length out) ≡ x → TableSays f l n s out out (Err q)
    go (refuse c a) e h = let z : r ≡ fault_at c a = cc in record { answers = rw (h, p, z) refl; leaves = rw h refl }
    go (accept ys) e h = zero_one cc

pub first_accepts : (x : Answer) {y : ℤ} → Ok y ≡ told_first x → Accepts x
first_accepts (refuse c a) e = zero_one cc
first_accepts (accept ys) e = tt

pub read_accepted : {f l : ℤ} {n : ℕ} {s : List ℕ} {out out' : List ℤ} → Accepts (read_table f l n s (length out)) → out' ≡ stored out (read_table f l n s (length out))
    → TableSays f l n s out out' (Ok n)
read_accepted {f} {l} {n} {s} {out} {out'} a o = record { answers = go (read_table f l n s (length out)) a; leaves = o }
  where
    go : (x : Answer) → Accepts x → Ok n ≡ told n s x
    go (refuse c b) h = absurd h
    go (accept ys) h = refl

-- ---- an answer that accepts comes from a legal frame, a body within its limit, and room

module _ (f l : ℤ) (n : ℕ) (s : List ℕ) (space : ℕ) where
  pub accepts_not_outside : {A : Type 0} → frame_legal f l n ≡ false → Accepts (read_table f l n s space) → A
  accepts_not_outside e a = absurd (subst Accepts (frame_outside f l n s space e) a)

  pub accepts_body : {fr : Frame} → Framing f l n fr → Accepts (read_table f l n s space) → (read_table f l n s space ≡ read (frame_rules fr) s) × Accepts (read (frame_rules fr) s)
  accepts_body {fr} g a =
      by_case (λ t. leb (length s) longest_body ≡ t → (read_table f l n s space ≡ read (frame_rules fr) s) × Accepts (read (frame_rules fr) s)) (leb (length s) longest_body)
      (λ _ e. by_case (λ t. ltb space n ≡ t → (read_table f l n s space ≡ read (frame_rules fr) s) × Accepts (read (frame_rules fr) s)) (ltb space n)
      (λ _ h. absurd (subst Accepts (no_room f l n s space (leb-true (length s) longest_body e) g (ltb-true space n h)) a))
      (λ _ h. let z = body_read f l n s space (leb-true (length s) longest_body e) g (ltb-false space n h) in (z, subst Accepts z a)) refl)
      (λ _ e. absurd (subst Accepts (body_long f l n s space (leb-false (length s) longest_body e)) a)) refl
