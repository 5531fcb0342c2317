-- All before the place of a refusal can stay, in the terms of the public reader's outcome, for every legal frame (01, "Refusal numbers" and "The frame of a table"). Assumes nothing.
use Rattle.std.specs.Prelude.{◌≡◌, refl, true, List, ℕ, ◌≤◌, ℤ, length, take, Err}
use Rattle.std.proofs.Common.{sym, ◌∙◌, arith}
use Rattle.terms.specs.declared.Refusal.{Refusal}
use Rattle.table_spec.specs.Frame.{abscissa, frame_legal, nearest}
use Rattle.table_spec.specs.Numerals.{head_text}
use Rattle.table_spec.specs.Reading.{refuse, read, read_table}
use Rattle.table_law.proofs.Outcome.{allowed_read, refused_allowed}
use Rattle.table_write_law.proofs.Written.{written_head_passes}
use Rattle.table_write_law.proofs.Lengths.{head_most}
use Rattle.table_write_law.proofs.ReadBack.{legal_takes}
use Rattle.table_read.specs.Answers.{TableSays}
use Rattle.place_on.proofs.On.{Ruled, refuses_so}
use Rattle.place_before.specs.Before.{Writable, Elsewhere, is_4, is_6, is_7, is_12, is_13, is_16, CanStay, Before}
use Rattle.place_before.proofs.AllStays.{before_place, all_stays}

-- each of them is 3 or more
from_3_on : {c : ℕ} → Elsewhere c → 3 ≤ c
from_3_on is_4 = omega arith
from_3_on is_6 = omega arith
from_3_on is_7 = omega arith
from_3_on is_12 = omega arith
from_3_on is_13 = omega arith
from_3_on is_16 = omega arith

module _ (f l : ℤ) (n : ℕ) where
  -- 02, T-03: in a legal frame the writer's head of every point passes
  pub legal_writable : frame_legal f l n ≡ true → Writable (Ruled f l n)
  legal_writable e =
      let t = legal_takes f l n e in
      let near = nearest (abscissa f) (abscissa l) n in
      record {
        some_point = t.some;
        head_for = λ j k. record {
          place = near j;
          text = head_text (near j);
          fits = let z = head_most (abscissa f) (abscissa l) n t j k in omega arith;
          passing = λ s. written_head_passes (abscissa f) (abscissa l) n t j s k;
        };
      }

  -- 1 and 2 aside, the frame is legal, and it is the body that is refused
  refused_body : (body : List ℕ) (out out' : List ℤ) (r : Refusal) → TableSays f l n body out out' (Err r) → 3 ≤ r.number
      → Writable (Ruled f l n) × (read (Ruled f l n) body ≡ refuse r.number r.place)
  refused_body body out out' r says from-3 =
      let e = refuses_so f l n body (length out) r (read_table f l n body (length out)) refl says.answers in
      let a = refused_allowed f l n body (length out) r.number r.place (λ z. omega arith) (λ z. omega arith) e in
      (legal_writable a.frame, sym (allowed_read f l n body (length out) a) ∙ e)

  -- THE THEOREM. A body is refused with a number from 3 on. Then some table under the same frame begins with all its bytes before the place; or they are one of the two exceptions,
  -- and no table begins with them
  pub before_can_stay : (body : List ℕ) (out out' : List ℤ) (r : Refusal) → TableSays f l n body out out' (Err r) → 3 ≤ r.number
      → Before (Ruled f l n) r.number (take r.place body)
  before_can_stay body out out' r says from-3 = let z = refused_body body out out' r says from-3 in before_place (Ruled f l n) z.0 body r.number r.place z.1

  -- with 4, 6, 7, 12, 13 and 16 there is no exception
  pub all_can_stay : (body : List ℕ) (out out' : List ℤ) (r : Refusal) → TableSays f l n body out out' (Err r) → Elsewhere r.number → CanStay (Ruled f l n) (take r.place body)
  all_can_stay body out out' r says m = let z = refused_body body out out' r says (from_3_on m) in all_stays (Ruled f l n) z.0 body r.number r.place z.1 m
