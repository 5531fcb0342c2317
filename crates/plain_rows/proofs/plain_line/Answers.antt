-- `plain_rows::plain_line` meets its contract: 4 without a head; 7 or the fault of the first value; or what its row does.
-- where the head is read
use mathlib.Core.Path.{◌≡◌}
use mathlib.Core.List.{[]}
use Prim.Native.Nat.{ℕ, ◌-◌}
use native.Mathlib.Omega.{arith}
use Rattle.terms.specs.Logic.{no_way}
use Rattle.frame.specs.declared.Frame.{Frame}
use Rattle.table_spec.specs.Frame.{passes}
use Rattle.table_spec.specs.Values.{index}
use Rattle.table_lines.specs.Heads.{Topped}
use Rattle.table_values.specs.declared.Row.{Row}
use Rattle.table_pass.proofs.LineLaws.{line_four, index_small}
use Rattle.plain_rows.proofs.RowLaws.{bare_line, bad_line}
use Rattle.plain_rows.proofs.plain_line.Goals as goal

pub passes-passes-requires : goal.passes-passes-requires
passes-passes-requires c =
    let abscissa : ℕ = c.in-Some.top.abscissa in
    let unit : ℕ = c.in-Some.top.unit in
    let topped : Topped c.args.s.now c.args.at abscissa unit c.in-Some.top.at = rw c.in-Some.is at c.head.ensures in
    let row : Row = c.args.r in
    let t = topped in let r = row in let p = c.requires in
    (p.0, t.small, t.coarsest, rw c.index_of.ensures (index_small r.dif r.k p.0.few p.1.few))

pub next_value-requires : goal.next_value-requires
next_value-requires c =
    let abscissa : ℕ = c.in-Some.top.abscissa in
    let unit : ℕ = c.in-Some.top.unit in
    let topped : Topped c.args.s.now c.args.at abscissa unit c.in-Some.top.at = rw c.in-Some.is at c.head.ensures in
    let t = topped in let l = t.low in (omega arith, t.high, omega arith, λ x. no_way x)

pub check_row-requires : goal.check_row-requires
check_row-requires c =
    let abscissa : ℕ = c.in-Some.top.abscissa in
    let unit : ℕ = c.in-Some.top.unit in
    let topped : Topped c.args.s.now c.args.at abscissa unit c.in-Some.top.at = rw c.in-Some.is at c.head.ensures in
    let frame : Frame = c.args.fr in
    let row : Row = c.args.r in
    let passing : let f = frame in let r = row in c.passes-passes.result ≡ passes f.first f.last f.points abscissa unit (index r.dif r.k) = rw c.index_of.ensures at c.passes-passes.ensures in
    let p = c.requires in
    (p.0, p.1, record { abscissa = _; unit = _; values = _; head = topped; passing = passing; first = rw (c.in-Ok-Gives.is, c.in-Ok-Gives.field-0-is) at c.next_value.ensures }, c.if-dif.true)

pub new_row-requires : goal.new_row-requires
new_row-requires c =
    let abscissa : ℕ = c.in-Some.top.abscissa in
    let unit : ℕ = c.in-Some.top.unit in
    let topped : Topped c.args.s.now c.args.at abscissa unit c.in-Some.top.at = rw c.in-Some.is at c.head.ensures in
    let frame : Frame = c.args.fr in
    let row : Row = c.args.r in
    let passing : let f = frame in let r = row in c.passes-passes.result ≡ passes f.first f.last f.points abscissa unit (index r.dif r.k) = rw c.index_of.ensures at c.passes-passes.ensures in
    let p = c.requires in
    (p.0, p.1, record { abscissa = _; unit = _; values = _; head = topped; passing = passing; first = rw (c.in-Ok-Gives.is, c.in-Ok-Gives.field-0-is) at c.next_value.ensures }, c.if-dif.false)

pub returns-in-None : goal.returns-in-None
returns-in-None c =
    let frame : Frame = c.args.fr in
    let row : Row = c.args.r in
    rw c.of.ensures (line_four frame _ row _ (rw c.in-None.is at c.head.ensures) [] [])

pub returns-in-Ok-End : goal.returns-in-Ok-End
returns-in-Ok-End c =
    let frame : Frame = c.args.fr in
    let row : Row = c.args.r in
    let abscissa : ℕ = c.in-Some.top.abscissa in
    let unit : ℕ = c.in-Some.top.unit in
    let topped : Topped c.args.s.now c.args.at abscissa unit c.in-Some.top.at = rw c.in-Some.is at c.head.ensures in
    let passing : let f = frame in let r = row in c.passes-passes.result ≡ passes f.first f.last f.points abscissa unit (index r.dif r.k) = rw c.index_of.ensures at c.passes-passes.ensures in
    rw (c.refused.ensures, c.of-in-Ok-End.ensures) (bare_line frame _ row _ topped c.requires.1.few (rw (c.in-Ok-End.is, c.in-Ok-End.field-0-is) at c.next_value.ensures) _ passing _ _)

pub returns-in-Err : goal.returns-in-Err
returns-in-Err c =
    let frame : Frame = c.args.fr in
    let row : Row = c.args.r in
    let abscissa : ℕ = c.in-Some.top.abscissa in
    let unit : ℕ = c.in-Some.top.unit in
    let topped : Topped c.args.s.now c.args.at abscissa unit c.in-Some.top.at = rw c.in-Some.is at c.head.ensures in
    let passing : let f = frame in let r = row in c.passes-passes.result ≡ passes f.first f.last f.points abscissa unit (index r.dif r.k) = rw c.index_of.ensures at c.passes-passes.ensures in
    rw c.refused-in-Err.ensures (bad_line frame _ row _ topped c.requires.1.few (rw c.in-Err.is at c.next_value.ensures) _ passing _ _)
