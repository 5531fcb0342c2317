-- What `table_read::read_table` promises, in terms of spellings alone: the theorems. Assumes nothing.
use Rattle.std.specs.Prelude.{◌≡◌, refl, List, ◌↔◌, ℕ, ℤ, length, Result, Ok}
use Rattle.std.proofs.Common.{sym, ap, ◌∙◌}
use Rattle.std.proofs.Math.Path.{subst}
use Rattle.table_spec.specs.Reading.{Answer, refuse, accept, read_table, stored}
use Rattle.table_law.proofs.Sound.{spells_unique}
use Rattle.table_law.proofs.Outcome.{accepted_allowed, accepted_count, accepted_spells, spells_accepted, accepted_stored, refused_none}
use Rattle.table_read.specs.Answers.{told, TableSays}
use Rattle.table_promise.specs.Promise.{R, Spelled, Fits, Holds, Promised}
use Rattle.terms.specs.declared.Refusal.{Refusal}

module _ (f l : ℤ) (n : ℕ) (body : List ℕ) (out out' : List ℤ) where
  held : (ys : List ℕ) → read_table f l n body (length out) ≡ accept ys → out' ≡ stored out (accept ys) → (Holds f l n body out out') n
  held ys e o =
      let s = accepted_spells f l n body (length out) ys e in
      record {
        count = refl;
        fits = accepted_allowed f l n body (length out) ys e;
        list = ys;
        spelled = s;
        long = accepted_count f l n body (length out) ys e;
        only = λ zs z. spells_unique (R f l n body out out') body zs ys z s;
        slice = o ∙ accepted_stored f l n body out ys e;
      }

  promised_by : (x : Answer) → read_table f l n body (length out) ≡ x → (r : Result ℕ Refusal) → r ≡ told n body x → out' ≡ stored out x → (Promised f l n body out out') r
  unfolding stored
  promised_by (refuse c a) e r h o = subst (Promised f l n body out out') (sym h) (record { unaltered = o; none = λ a. refused_none f l n body (length out) c _ a e })
  promised_by (accept ys) e r h o = subst (Promised f l n body out out') (sym h) (held ys e o)

  -- the contract of the public function, restated
  pub promise : {r : Result ℕ Refusal} → TableSays f l n body out out' r → (Promised f l n body out out') r
  promise {r} g = promised_by (read_table f l n body (length out)) refl r g.answers g.leaves

  -- demand 3: a table is accepted exactly when some list of as many ordinates as the frame names, spelled by the published forms under the frame's checks, gives precisely these bytes
  pub accepted_exactly : {r : Result ℕ Refusal} → TableSays f l n body out out' r → (Fits f l n body out out') → (r ≡ Ok n) ↔ ((ys : List ℕ) × (length ys ≡ n) × (Spelled f l n body out out') ys)
  accepted_exactly {r} g a = (λ e. shown (subst (Promised f l n body out out') e (promise g)), λ s. g.answers ∙ ap (told n body) (spells_accepted f l n body (length out) s.0 a s.2))
    where
      shown : (Holds f l n body out out') n → (ys : List ℕ) × (length ys ≡ n) × (Spelled f l n body out out') ys
      shown h = (h.list, h.long, h.spelled)
