-- `file_write::write_file` meets its contract: the refusal of the tests before it, or what laying the plan answers.
-- where the file is planned, and the start from there
use Rattle.std.specs.Prelude.{Err}
use mathlib.Core.Path.{ap, ◌∙◌}
use Rattle.std.proofs.lemmas.Result.{err_from_is_err_and}
use mir.Syntax.{w64}
use mir.Facts.{to_z-of_z}
use borrow.Author.Rules.{sfits_of}
use Rattle.file_write_spec.specs.File.{file_exact, write_file}
use Rattle.file_plan.specs.Stages.{Planning}
use Rattle.file_write.proofs.PlanSteps.{tells_refused, tells_laid}
use Rattle.file_write.proofs.write_file.Goals as goal

pub lay-requires : goal.lay-requires
lay-requires c =
    let plan_at : let a = c.args in Planning (write_file a.title.now a.points a.scales a.ordinates.now) (file_exact a.scales a.points a.ordinates.now) a.title.now a.ordinates.now c.in_ok-p.p = c.in_ok-p.ensures in
    let p = c.in_ok-p.p in let g = plan_at in
    (g.titled, g.writable, rw (to_z-of_z {z = p.first} (sfits_of {w = w64} c.struct_told-1.given.1.0.1), to_z-of_z {z = p.last} (sfits_of {w = w64} c.struct_told-2-1.given.1.1.0.1)) g.framed)

pub returns-in_err-p : goal.returns-in_err-p
returns-in_err-p c =
    let p = err_from_is_err_and c.from_residual.result c.from_residual.ensures.1 in
    tells_refused (c.in_err-p.ensures _) (p.1 ∙ ap Err p.2)

pub returns : goal.returns
returns c =
    let plan_at : let a = c.args in Planning (write_file a.title.now a.points a.scales a.ordinates.now) (file_exact a.scales a.points a.ordinates.now) a.title.now a.ordinates.now c.in_ok-p.p = c.in_ok-p.ensures in
    let a = c.args in let p = c.in_ok-p.p in
    tells_laid a.title.now a.points a.scales a.ordinates.now plan_at
    (rw (to_z-of_z {z = p.first} (sfits_of {w = w64} c.struct_told-1.given.1.0.1), to_z-of_z {z = p.last} (sfits_of {w = w64} c.struct_told-2-1.given.1.1.0.1)) at c.lay.ensures)
