-- `table_pass::read_line` meets its contract: 4 without a head, 6, 7, and then what the values say.
-- where the head is read
use mathlib.Core.Bool.{true}
use mathlib.Core.List.{[]}
use mathlib.Core.Path.{◌≡◌, sym, ◌∙◌}
use Prim.Native.Nat.{ℕ}
use native.Mathlib.Omega.{arith}
use Rattle.frame.specs.declared.Frame.{Frame}
use Rattle.table_spec.specs.Frame.{passes}
use Rattle.table_spec.specs.Values.{index}
use Rattle.table_lines.specs.Heads.{Topped}
use Rattle.table_values.specs.declared.Row.{Row}
use Rattle.table_pass.proofs.LineLaws.{line_four, line_six, line_seven, line_read, index_small}
use Rattle.table_pass.proofs.read_line.Goals as goal

pub passes-requires : goal.passes-requires
passes-requires c =
    let row : Row = c.args.r in
    let abscissa : ℕ = c.in-Some.top.abscissa in
    let unit : ℕ = c.in-Some.top.unit in
    let topped : Topped c.args.s.now c.args.at abscissa unit c.in-Some.top.at = rw c.in-Some.is at c.head.ensures in
    let p = c.requires in let r = row in
    (p.0, topped.small, topped.coarsest, rw c.index_of.ensures (index_small r.dif r.k p.0.few p.1.few))

pub returns-then-not-passes : goal.returns-then-not-passes
returns-then-not-passes c =
    let frame : Frame = c.args.fr in
    let row : Row = c.args.r in
    let abscissa : ℕ = c.in-Some.top.abscissa in
    let unit : ℕ = c.in-Some.top.unit in
    let topped : Topped c.args.s.now c.args.at abscissa unit c.in-Some.top.at = rw c.in-Some.is at c.head.ensures in
    let fails = sym (rw c.index_of.ensures at c.passes.ensures) ∙ c.if-not-passes.true in
    rw c.of-then-not-passes.ensures (line_six frame _ row _ topped fails [] [])

pub bare_line-requires : goal.bare_line-requires
bare_line-requires c =
    let abscissa : ℕ = c.in-Some.top.abscissa in
    let unit : ℕ = c.in-Some.top.unit in
    let topped : Topped c.args.s.now c.args.at abscissa unit c.in-Some.top.at = rw c.in-Some.is at c.head.ensures in
    topped.high

pub returns-then-bare_line : goal.returns-then-bare_line
returns-then-bare_line c =
    let frame : Frame = c.args.fr in
    let row : Row = c.args.r in
    let abscissa : ℕ = c.in-Some.top.abscissa in
    let unit : ℕ = c.in-Some.top.unit in
    let topped : Topped c.args.s.now c.args.at abscissa unit c.in-Some.top.at = rw c.in-Some.is at c.head.ensures in
    let passed : let f = frame in let r = row in passes f.first f.last f.points abscissa unit (index r.dif r.k) ≡ true = sym (rw c.index_of.ensures at c.passes.ensures) ∙ c.if-not-passes.false in
    let bare = sym c.bare_line.ensures ∙ c.if-bare_line.true in
    rw c.of-then-bare_line.ensures (line_seven frame _ row _ topped passed bare [] [])

pub values-requires : goal.values-requires
values-requires c =
    let abscissa : ℕ = c.in-Some.top.abscissa in
    let unit : ℕ = c.in-Some.top.unit in
    let topped : Topped c.args.s.now c.args.at abscissa unit c.in-Some.top.at = rw c.in-Some.is at c.head.ensures in
    let p = c.requires in let t = topped in
    let low = t.low in
    record { most = p.0.few; some = omega arith; high = t.high; few = p.1.few }

pub returns-in-None : goal.returns-in-None
returns-in-None c =
    let frame : Frame = c.args.fr in
    let row : Row = c.args.r in
    rw c.of.ensures (line_four frame _ row _ (rw c.in-None.is at c.head.ensures) [] [])

pub returns-else-bare_line : goal.returns-else-bare_line
returns-else-bare_line c =
    let frame : Frame = c.args.fr in
    let row : Row = c.args.r in
    let abscissa : ℕ = c.in-Some.top.abscissa in
    let unit : ℕ = c.in-Some.top.unit in
    let topped : Topped c.args.s.now c.args.at abscissa unit c.in-Some.top.at = rw c.in-Some.is at c.head.ensures in
    let passed : let f = frame in let r = row in passes f.first f.last f.points abscissa unit (index r.dif r.k) ≡ true = sym (rw c.index_of.ensures at c.passes.ensures) ∙ c.if-not-passes.false in
    let filled = sym c.bare_line.ensures ∙ c.if-bare_line.false in
    line_read frame _ row _ topped passed filled c.wanted-want.ensures _ _ c.values.result c.values.ensures
