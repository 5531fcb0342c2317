-- What the inner functions of the walk ensure (01, The file). Assumes nothing.
use Rattle.std.specs.Prelude.{◌≡◌, Bool, true, false, List, ℕ, ◌+◌, ◌<◌, ◌≤◌, eqb, length, Some, Err}
use Rattle.terms.specs.Logic.{pick}
use Rattle.label_spec.specs.Names.{name_in, sames}
use Rattle.label_spec.specs.Labels.{Walk, over, bad, label, from}
use Rattle.label_spec.specs.LabelLaws.{eq_at}
use Rattle.terms.specs.Refusals.{fault_at}
use Rattle.label_spec.specs.Scans.{known, judge}
use Rattle.label_judged.specs.declared.Judged.{Judged}
use Rattle.label_judged.specs.Answers.{WalkedIn}

-- If a label's name starts at a, r says whether it is w.
pub record Alike (s : List ℕ) (a : ℕ) (w : List ℕ) (r : Bool) : Type 0 where
  pub says : (e : ℕ) → eq_at s a ≡ Some e → r ≡ sames (name_in s a e) w

-- Does a walk come to a label with its `##` at m before it is over?
unfoldable pub leads : ℕ → Walk → Bool
leads m over = false
leads m (bad x rest) = false
leads m (label x n e v rest) = pick (eqb x m) true (leads m rest)

-- What the next label after `at` says by itself.
abbrev pub ToldBy : List ℕ → ℕ → Judged → Type 0
ToldBy s at (Judged.Done w) = WalkedIn at (length s) w × ((all : Walk) → judge (length s) all (from s at false) ≡ w)
ToldBy s at (Judged.Empty e) =
    (at ≤ e) × (e < length s)
    × ((all : Walk) → judge (length s) all (from s at false) ≡ judge (length s) all (from s (e + 1) false))
    × ((m : ℕ) → leads m (from s (e + 1) false) ≡ true → leads m (from s at false) ≡ true)
ToldBy s at (Judged.Named m n e) =
    (at ≤ m) × (m < n) × (n < e) × (e < length s)
    × (from s at false ≡ label m n e (name_in s n e) (from s (e + 1) false))
    × ((all : Walk) → judge (length s) all (from s at false)
    ≡ pick (known m (name_in s n e) all) (Err (fault_at 23 m)) (judge (length s) all (from s (e + 1) false)))

pub record Told (s : List ℕ) (at : ℕ) (r : Judged) : Type 0 where
  pub says : ToldBy s at r
