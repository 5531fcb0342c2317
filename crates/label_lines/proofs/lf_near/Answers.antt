-- `label_lines::lf_near` meets its contract: one byte after the other is looked at, eight in all.
use Rattle.label_lines.proofs.LineTurns.{within_eight}
use Rattle.label_lines.proofs.lf_near.Goals as goal

pub returns : goal.returns
returns c = within_eight _ _ c.requires
