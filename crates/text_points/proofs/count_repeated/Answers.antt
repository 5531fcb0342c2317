-- `text_points::count_repeated` meets its contract: nothing is done where the next difference stands alone.
use Rattle.text_points.proofs.PointSteps.{counted_here}
use Rattle.text_points.proofs.count_repeated.Goals as goal

pub returns-then-next-ys : goal.returns-then-next-ys
returns-then-next-ys c = counted_here _ _ _ c.requires.0 c.requires.1

pub returns-then-y-eq0 : goal.returns-then-y-eq0
returns-then-y-eq0 c = counted_here _ _ _ c.requires.0 c.requires.1

pub returns-then-wide-gt-LONGEST_LINE : goal.returns-then-wide-gt-LONGEST_LINE
returns-then-wide-gt-LONGEST_LINE c = counted_here _ _ _ c.requires.0 c.requires.1
