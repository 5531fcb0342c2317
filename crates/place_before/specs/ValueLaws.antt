-- Which number a line's first value gets that is refused, and that the last ordinate is not missing where a check is due (01, "Meaning", "Checks" and "Refusal numbers"). Assumes nothing.
use Rattle.std.specs.Prelude.{◌≡◌, refl, Bool, true, List, ℕ}
use Rattle.terms.specs.Logic.{no_way}
use Rattle.table_spec.specs.Values.{Value, Form, is_dif, Spot, first, after}
use Rattle.table_spec.specs.Reading.{Says, adds, refuses, dif_before}
use Rattle.table_law.specs.Spelling.{Ordinate, Steps, no_step, one_step, Stands, check, own_first, own_after, gap_first, gap_after, dif_after, dup_own, dup_gap, dup_dif}
use Rattle.place_before.specs.Before.{AfterHead}

-- ---- the number of a line's first value, where it is refused

-- the number n at a spot; after a value any will do
abbrev pub NumberAt : Spot → ℕ → Type 0
NumberAt (first due) n = AfterHead due n
NumberAt (after r) n = Unit {0}

abbrev pub Numbered : Spot → Says → Type 0
Numbered w (adds us f) = Unit {0}
Numbered w (refuses n) = NumberAt w n

-- ---- the last ordinate, where a check is due

-- is the line at this spot a check line, or will the next one be?
abbrev pub owed : Spot → Bool
owed (first c) = c
owed (after r) = is_dif r

-- copies of a difference leave an ordinate that is not missing
steps_end : {m : Bool} {d n p e : ℕ} {us : List ℕ} → Steps m d n p us e → Ordinate p → Ordinate e
steps_end no_step o = o
steps_end (one_step s h r) o = steps_end r h

-- a value in DIF form leaves an ordinate that is not missing
pub stands_owed : {w : Spot} {p e : ℕ} {x : Value} {us : List ℕ} {f : Form} → Stands w p x us f e → (owed w ≡ true → Ordinate p) → is_dif f ≡ true → Ordinate e
stands_owed (check h) o e = no_way e
stands_owed (own_first h) o e = no_way e
stands_owed (own_after h) o e = no_way e
stands_owed gap_first o e = no_way e
stands_owed gap_after o e = no_way e
stands_owed (dif_after l s h) o e = h
stands_owed (dup_own h) o e = no_way e
stands_owed (dup_gap h) o e = no_way e
stands_owed (dup_dif h r) o e = steps_end r (o refl)

-- at a line's start
pub dif_owed : (w : Spot) → dif_before w ≡ true → owed w ≡ true
dif_owed (first c) e = no_way e
dif_owed (after r) e = e
