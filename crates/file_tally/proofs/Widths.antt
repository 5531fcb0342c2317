-- Which widths hold the numbers of a file's report: at most 65,536 points, each below 2^31 in magnitude, make a sum of at most 2^47. Assumes nothing.
use mathlib.Core.Path.{◌≡◌, refl}
use mathlib.Core.Bool.{Bool, true, false}
use mathlib.Core.List.{List, [], ◌∷◌}
use Prim.Native.Nat.{ℕ, suc, ◌+◌, ◌*◌, ◌≤◌}
use native.Mathlib.Omega.{arith}
use lib.Dec.{ltb}
use lib.IntN.{sub_ℕ, nat_abs}
use lib.ListN.{length}
use borrow.Author.Tests.{ltb-true, ltb-false}
use Rattle.table_law.specs.Small.{Small}
use Rattle.file_spec.specs.File.{FileAnswer, refuse_file, accept_file, read_file}
use Rattle.file_law.specs.Accepted.{Good, good_file}
use Rattle.night_spec.specs.Report.{given, missing, sum_of, account_of, report_of}
use Rattle.night_spec.specs.Night.{report_as}
use Rattle.ordinate_tally.specs.Tally.{tally_of, Bounded}
use Rattle.ordinate_account.specs.Bounds.{ReportIn}
use Rattle.ordinate_tally.proofs.TallyLaws.{bounded_more}
use Rattle.ordinate_account.proofs.MeanLaws.{means, missing_given}

tally_bounded : (ys : List ℕ) → Small ys → Bounded (length ys) (tally_of ys)
unfolding tally_of
tally_bounded [] h = record { given = omega arith; raised = omega arith; low = omega arith; high = omega arith; faint = omega arith }
tally_bounded (u ∷ ys) h = let z : length ys + 1 ≡ suc (length ys) = omega arith in rw z at (bounded_more {u = u} (tally_bounded ys h.1) h.0)

-- a sum of g ordinates
width_case : (a g : ℕ) (q : Bool) → ltb a (g * 2147483648) ≡ q → a ≤ g * 4294967295 → nat_abs (sub_ℕ a (g * 2147483648)) ≤ g * 2147483648
width_case a g true e h = rw e (omega (arith, ltb-true a (g * 2147483648) e))
width_case a g false e h = rw e (omega (arith, ltb-false a (g * 2147483648) e))

width : (a g : ℕ) → a ≤ g * 4294967295 → nat_abs (sub_ℕ a (g * 2147483648)) ≤ g * 2147483648
width a g h = width_case a g (ltb a (g * 2147483648)) refl h

sum_width : (ys : List ℕ) → Small ys → nat_abs (sum_of (given ys)) ≤ length ys * 2147483648
sum_width ys h =
    let b = tally_bounded ys h in let w = width (tally_of ys).raised (tally_of ys).given b.raised in
    let s : nat_abs (sum_of (given ys)) ≤ (tally_of ys).given * 2147483648 = rw (means ys).sum at w in
    omega (arith, s, b.given)

answer_in : (f : List ℕ) (space : ℕ) (x : FileAnswer) → Good space x → ReportIn (report_of f x)
unfolding report_of account_of
answer_in f space (refuse_file c a) g = tt
answer_in f space (accept_file t ys) g =
    let z = missing_given ys in let w = sum_width ys g.small in
    record { points = omega (arith, g.count, g.most); missing = omega (arith, z); sum = omega (arith, w, g.count, g.most) }

-- the theorem: the report of every file is within them, so 64 bits hold its numbers
pub report_in : (space : ℕ) (f : List ℕ) → ReportIn (report_as space f)
report_in space f = answer_in f space (read_file f space) (good_file f space)
