-- `text_lines::fill` meets its contract: the group g after a state is put on the line.
use mathlib.Core.Path.{refl}
use native.Mathlib.Omega.{arith}
use lib.ListN.{length-map}
use Rattle.table_spec.specs.Frame.{ordinate_of}
use Rattle.table_text.specs.Pieces.{head_of, ordinates}
use Rattle.text_openings.proofs.LineSteps.{filled}
use Rattle.text_lines.proofs.fill.Goals as goal

pub put_group-requires : goal.put_group-requires
put_group-requires c = let a = c.args in let p = c.requires in let h = p.0 in let inside = h.inside in let size = h.size in
    (h.base, omega arith, h.digits, omega (arith, p.1, length-map a.ys.now ordinate_of), omega (arith, p.2))

pub returns : goal.returns
returns c =
    let a = c.args in
    let p = c.requires in
    let e = c.after_group.ensures in
    rw e.0 (filled (head_of a.fr) (ordinates a.ys.now) a.s.given a.s.last a.s.at a.s.column _ a.g _ _ p.0 c.put_group.ensures refl (rw e.0 at e.1) p.3)
