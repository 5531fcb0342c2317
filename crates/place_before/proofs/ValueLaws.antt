-- Which number a line's first value gets that is refused, and that the last ordinate is not missing where a check is due (01, "Meaning", "Checks" and "Refusal numbers"). Assumes nothing.
use Rattle.std.specs.Prelude.{Bool, true, false, List, [], ◌∷◌, ℕ, ◌+◌, ◌≤◌, ◌<◌, leb, eqb, length}
use Rattle.std.proofs.Common.{arith}
use Rattle.terms.specs.Logic.{pick}
use Rattle.table_spec.specs.Values.{Value, own, gap, by, times, Form, Own, Spot, first, after, ordinate}
use Rattle.table_spec.specs.Reading.{Says, adds, refuses, says}
use Rattle.table_law.specs.Spelling.{Stands, check, own_first, own_after, gap_first, gap_after, dif_after, dup_own, dup_gap, dup_dif}
use Rattle.place_before.specs.Before.{is_3, is_5, is_8, is_9, is_10, is_11}
use Rattle.place_before.specs.ValueLaws.{NumberAt, Numbered}

-- whichever of the two it says; after a value; any value
either : (w : Spot) (t : Bool) (x y : Says) → Numbered w x → Numbered w y → Numbered w (pick t x y)
either w true x y h k = h
either w false x y h k = k

later : (r : Form) (y : Says) → Numbered (after r) y
later r (adds us f) = tt
later r (refuses n) = tt

pub numbered : (w : Spot) (p : ℕ) (x : Value) → Numbered w (says w p x)
unfolding says
numbered (first true) p (own m v) =
    either (first true) (leb v 2147483647) _ (refuses 9) (either (first true) (eqb (ordinate m v) p) (adds [] Own) (refuses 10) tt is_10) is_9
numbered (first false) p (own m v) = either (first false) (leb v 2147483647) (adds (ordinate m v ∷ []) Own) (refuses 9) tt is_9
numbered (first true) p gap = is_10
numbered (first false) p gap = tt
numbered (first c) p (by m d) = is_8
numbered (first c) p (times n) = is_8
numbered (after r) p x = later r (says (after r) p x)

-- 3, 5, and 11, which a check value does not get: it adds no point
pub three : (w : Spot) → NumberAt w 3
three (first c) = is_3
three (after r) = tt

pub five : (w : Spot) → NumberAt w 5
five (first c) = is_5
five (after r) = tt

pub eleven : {w : Spot} {p e : ℕ} {x : Value} {us : List ℕ} {f : Form} (n i : ℕ) → Stands w p x us f e → i ≤ n → n < i + length us → NumberAt w 11
eleven n i (check h) l k = absurd (omega arith)
eleven n i (own_first h) l k = is_11
eleven n i gap_first l k = is_11
eleven n i (own_after h) l k = tt
eleven n i gap_after l k = tt
eleven n i (dif_after a s h) l k = tt
eleven n i (dup_own h) l k = tt
eleven n i (dup_gap h) l k = tt
eleven n i (dup_dif h r) l k = tt
