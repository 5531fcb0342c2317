-- `table_lines::bare_line` meets its contract: only blanks or a comment between a head and its line's end?
use Rattle.table_lines.proofs.Bare.{bare_value, bare_end, bare_bad}
use Rattle.table_lines.proofs.bare_line.Goals as goal

pub returns-then-e-lt-POINT : goal.returns-then-e-lt-POINT
returns-then-e-lt-POINT c = let e = c.entry_at-e.ensures in bare_value _ _ _ c.blanks-b.ensures (rw e at c.if-e-lt-POINT.true)

pub line_end-requires : goal.line_end-requires
line_end-requires c = (c.blanks-b.ensures.high, c.entry_at-e.ensures, c.if-e-lt-POINT.false)

pub returns-in-Some : goal.returns-in-Some
returns-in-Some c = bare_end _ _ _ _ c.blanks-b.ensures (rw c.in-Some.is at c.line_end.ensures)

pub returns-in-None : goal.returns-in-None
returns-in-None c = bare_bad _ _ _ c.blanks-b.ensures (rw c.in-None.is at c.line_end.ensures)
