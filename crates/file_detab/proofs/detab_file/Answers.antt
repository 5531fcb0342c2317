-- `file_detab::detab_file` meets its contract: the body converted, where there is one, and the rest of the file kept.
-- the body that is found lies within the file
use mathlib.Core.Path.{sym, ◌∙◌}
use native.Mathlib.Omega.{arith}
use lib.ListN.{length}
use Rattle.file_marks.specs.Spans.{Within}
use Rattle.file_detab.proofs.Bodies.{left_as_it_is, body_converted}
use Rattle.file_detab.proofs.detab_file.Goals as goal

pub slice_bounds-detab-count : goal.slice_bounds-detab-count
slice_bounds-detab-count c =
    let within : Within (length c.args.file.now) c.in-Some.b = rw c.in-Some.is at c.find_body.ensures.1 in
    let w = within in omega (arith, w.low, w.high)

pub returns-in-None : goal.returns-in-None
returns-in-None c = left_as_it_is _ (sym c.find_body.ensures.0 ∙ c.in-None.is)

pub returns-in-Some : goal.returns-in-Some
returns-in-Some c =
    body_converted _ c.in-Some.b _ (sym c.find_body.ensures.0 ∙ c.in-Some.is) c.detab.ensures
