-- `table_lines::row_start` meets its contract: the start of the next line that is not passed over.
use mathlib.Core.Path.{sym, ◌∙◌}
use native.Mathlib.Omega.{arith}
use Rattle.alphabet_spec.proofs.EntryLaws.{entry_in}
use Rattle.table_lines.proofs.LineEnds.{start_end}
use Rattle.table_lines.proofs.row_start.Goals as goal

pub returns-then-e-lt-POINT : goal.returns-then-e-lt-POINT
returns-then-e-lt-POINT c =
    let l = c.loop-from.invariant in
    let b = c.blanks-at.ensures in
    let e = c.entry_there-e.ensures in
    let x = c.if-e-lt-POINT.true in
    let y = b.low in
    let i = entry_in c.args.s.now c.blanks-at.result (λ z. omega (arith, e)) in
    (omega arith, record { inside = i; stands = e; before_point = x; no_blank = λ z. b.stops (sym e ∙ z) }, l.2 ∙ b.before)

pub returns-then-e-eq-END : goal.returns-then-e-eq-END
returns-then-e-eq-END c =
    let l = c.loop-from.invariant in
    let b = c.blanks-at.ensures in
    l.2 ∙ b.before ∙ start_end _ _ b.high (sym c.entry_there-e.ensures ∙ c.if-e-eq-END.true)

pub line_end-requires : goal.line_end-requires
line_end-requires c = (c.blanks-at.ensures.high, c.entry_there-e.ensures, c.if-e-lt-POINT.false)

pub loop-from-smaller : goal.loop-from-smaller
loop-from-smaller c =
    let b = c.blanks-at.ensures in
    let x = rw c.in-Some.is at c.line_end.ensures in
    let y = b.low in
    let n = entry_in c.args.s.now c.blanks-at.result
    (λ e. c.if-e-eq-END.false (c.entry_there-e.ensures ∙ e)) in
    let z = x.moves n in
    omega (arith, x.high)

pub loop-from-preserved : goal.loop-from-preserved
loop-from-preserved c =
    let l = c.loop-from.invariant in
    let b = c.blanks-at.ensures in
    let x = rw c.in-Some.is at c.line_end.ensures in
    let y = b.low in
    (omega (arith, x.low), x.high, l.2 ∙ b.before ∙ x.before)

pub returns-in-None : goal.returns-in-None
returns-in-None c =
    let l = c.loop-from.invariant in
    let b = c.blanks-at.ensures in
    let x = rw c.in-None.is at c.line_end.ensures in
    l.2 ∙ b.before ∙ x.0
