-- A stage of checking a file, and the one that checks the body. No place of the code is named here. Assumes nothing.
use mathlib.Core.Path.{◌≡◌, refl, ap, ◌∙◌, subst}
use mathlib.Core.Bool.{Bool, true, false}
use mathlib.Core.List.{List}
use Prim.Native.Nat.{ℕ, ◌-◌, ◌≤◌}
use native.Mathlib.Omega.{arith}
use lib.IntN.{ℤ}
use lib.ListN.{length, get_or, take, drop, length-take}
use Rattle.terms.specs.Logic.{zero_one}
use Rattle.terms.specs.Refusals.{fault_at}
use Rattle.terms.specs.declared.Fault.{Fault}
use Rattle.signed.specs.Scale.{lift_lower}
use Rattle.table_spec.specs.Frame.{entry_for, ordinate_of, zero_ordinate}
use Rattle.table_spec.specs.Reading.{Answer, refuse, accept, read_table, stored}
use Rattle.line_law.specs.Places.{LowAnswer, table_place}
use Rattle.table_read.specs.Answers.{told_first}
use Rattle.label_spec.specs.declared.Span.{Span}
use Rattle.file_spec.specs.declared.Needed.{Needed}
use Rattle.file_spec.specs.declared.Numbers.{Numbers}
use Rattle.file_spec.specs.declared.Exactness.{Exactness}
use Rattle.file_spec.specs.Texts.{text_in, mark_of}
use Rattle.file_spec.specs.Figures.{ratio, agrees, exactness_of}
use Rattle.file_spec.specs.File.{FileAnswer, refuse_file, in_file, by_first}
use Rattle.file_marks.specs.Spans.{Within}
use Rattle.file_body.specs.Checks.{StageChecks}
use Rattle.std.specs.Prelude.{Result, Ok, Err}
use Rattle.file_tabled.specs.declared.TablePlace.{TablePlace}

module _ {s : List ℕ} {room : ℕ} where
  -- a stage that refuses
  pub stage_refused : {b : Span} {x : FileAnswer} {r : Result TablePlace Fault} {c a : ℕ} → r ≡ Err (fault_at c a) → x ≡ refuse_file c a → StageChecks s room b x r
  stage_refused {b} {x} {r} {c} {a} e h = rw (h, e) (record { answers = refl; laid = tt; leaves = λ out. refl })

  -- a stage that is what a later one is, with the body where the later one has it
  pub stage_same : {b d : Span} {x y : FileAnswer} {r : Result TablePlace Fault} → b ≡ d → x ≡ y → StageChecks s room d y r → StageChecks s room b x r
  stage_same {b} {d} {x} {y} {r} h e g = rw (h, e) g

-- ---- the body

pub place_bound : (f l : ℤ) (n : ℕ) (s : List ℕ) (space : ℕ) {r : Fault} → Err r ≡ told_first (read_table f l n s space) → r.place ≤ length s
place_bound f l n s space {r} = go (read_table f l n s space) (table_place f l n s space)
  where
    go : (x : Answer) → LowAnswer (length s) x → Err r ≡ told_first x → r.place ≤ length s
    go (refuse c a) h e = let z : r ≡ fault_at c a = cc in rw z h
    go (accept ys) h e = zero_one cc

pub body_small : (s : List ℕ) (a b : ℕ) → length (take (b - a) (drop a s)) ≤ b - a
body_small s a b = let x = length-take (b - a) (drop a s) in omega arith

-- the first ordinate of a table that is accepted
first_is : (ys : List ℕ) {y : ℤ} → Ok y ≡ told_first (accept ys) → ordinate_of y ≡ get_or ys 0 0
first_is ys {y} e = let z : y ≡ entry_for (get_or ys 0 0) = cc in ap ordinate_of z ∙ lift_lower zero_ordinate (get_or ys 0 0)

module _ (s : List ℕ) (space : ℕ) (t : Needed) (n : Numbers) (f l : ℤ) (start : ℕ) where
  -- does an ordinate agree with FIRSTY?
  abbrev fits : ℕ → Bool
  fits u = agrees u (ratio 0 n.firsty n.yfactor).rounded

  pub body_refused : (x : Answer) {r : Fault} → Err r ≡ told_first x → by_first s space t n f l start x ≡ refuse_file r.number (in_file start r.number r.place)
  unfolding by_first
  body_refused (refuse c a) {r} e = let z : r ≡ fault_at c a = cc in rw z refl
  body_refused (accept ys) e = zero_one cc

  pub body_unequal : (x : Answer) {y : ℤ} → Ok y ≡ told_first x → fits (ordinate_of y) ≡ false → by_first s space t n f l start x ≡ refuse_file 29 (mark_of s t.firsty)
  unfolding by_first
  body_unequal (refuse c a) e h = zero_one cc
  body_unequal (accept ys) e h = rw (subst (λ (u : ℕ). fits u ≡ false) (first_is ys e) h) refl

  pub body_equal : (x : Answer) {y : ℤ} → Ok y ≡ told_first x → fits (ordinate_of y) ≡ true → {q : Exactness} → q ≡ exactness_of n (ordinate_of y)
      → {b : Span} → Within (length s) b → read_table f l n.npoints (text_in s b) space ≡ x
      → StageChecks s space b (by_first s space t n f l start x) (Ok (record { table = record { points = n.npoints; first = f; last = l; exact = q }; body = b }))
  unfolding by_first stored
  body_equal (refuse c a) e h k i g = zero_one cc
  body_equal (accept ys) e h k i g =
      let q = subst (λ (u : ℕ). fits u ≡ true) (first_is ys e) h in
      record { answers = rw (q, k, first_is ys e) refl; laid = record { inside = i; accepts = rw g tt }; leaves = λ out. rw (q, g) refl }
