-- `text_lines::turn` meets its contract: one group more, on this line if it fits whole, else on a new one.
use native.Mathlib.Omega.{arith}
use lib.ListN.{length-map}
use Rattle.table_spec.specs.Frame.{ordinate_of}
use Rattle.table_text.specs.Pieces.{head_of, ordinates}
use Rattle.text_openings.proofs.LineSteps.{turn_fits}
use Rattle.text_lines.proofs.turn.Goals as goal

pub returns-then-all-le-LONGEST_LINE : goal.returns-then-all-le-LONGEST_LINE
returns-then-all-le-LONGEST_LINE c = let a = c.args in let p = c.requires in
    turn_fits (head_of a.fr) (ordinates a.ys.now) a.s _ (omega (arith, p.0.some, length-map a.ys.now ordinate_of))
    c.find-g.ensures c.if-all-le-LONGEST_LINE.true c.fill.ensures.0
