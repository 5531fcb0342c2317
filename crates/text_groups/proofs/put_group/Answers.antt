-- `text_groups::put_group` meets its contract: the bytes of a group; where the first is past the end there is nothing to do.
use mathlib.Core.List.{◌++◌}
use Rattle.table_spec.specs.Groups.{dup_text}
use Rattle.table_text.specs.Pieces.{number}
use mathlib.Core.Path.{sym}
use Rattle.table_text.specs.Pieces.{sets_past, put_then}
use Rattle.text_groups.proofs.put_group.Goals as goal

pub returns-then-out-at : goal.returns-then-out-at
returns-then-out-at c = let g = c.args.g in sym (sets_past _ _ (number g.base g.size ++ dup_text g.more) c.if-out-at.true)

pub returns : goal.returns
returns c = (put_then c.put_number-a.ensures.0 c.put_dup.ensures.0).stored
