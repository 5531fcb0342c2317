-- `file_plan::plan_file` meets its contract: 37 and 26, then what the numbers say.
-- where the title is looked at, and the start from there
use mathlib.Core.Path.{◌≡◌, sym, ◌∙◌, subst}
use mathlib.Core.Bool.{true}
use Rattle.file_write_spec.specs.File.{title_legal, scales_legal, numbers}
use Rattle.file_write_law.specs.Lengths.{title_fits}
use Rattle.file_plan.specs.Stages.{Scaled}
use Rattle.file_plan.proofs.Joined.{figures_wrong, figures_all, all_scaled, title_declined, scales_declined, numbers_next}
use Rattle.file_plan.proofs.StageSteps.{plans_same}
use Rattle.file_plan.proofs.plan_file.Goals as goal

pub returns-then-not-title_fair : goal.returns-then-not-title_fair
returns-then-not-title_fair c =
    let a = c.args in
    λ space. title_declined a.title.now a.points a.scales a.ordinates.now space (sym c.title_fair.ensures ∙ c.if-not-title_fair.true)

pub plan_numbers-requires : goal.plan_numbers-requires
plan_numbers-requires c =
    let numbers_are : (scales_legal c.args.scales ≡ true) × (c.in-Ok.n ≡ numbers c.args.scales c.args.points) = let a = c.args in
    figures_all a.scales a.points (sym c.in-Ok.is ∙ c.figures_of.ensures) in
    let a = c.args in let k = numbers_are in
    subst Scaled (sym k.1) (all_scaled a.scales a.points k.0)

pub returns-in-Err : goal.returns-in-Err
returns-in-Err c =
    let title_is : title_legal c.args.title.now ≡ true = sym c.title_fair.ensures ∙ c.if-not-title_fair.false in
    let a = c.args in
    let wrong = figures_wrong a.scales a.points (sym c.in-Err.is ∙ c.figures_of.ensures) in
    λ space. scales_declined a.title.now a.points a.scales a.ordinates.now space title_is wrong

pub returns-in-Ok : goal.returns-in-Ok
returns-in-Ok c =
    let numbers_are : (scales_legal c.args.scales ≡ true) × (c.in-Ok.n ≡ numbers c.args.scales c.args.points) = let a = c.args in
    figures_all a.scales a.points (sym c.in-Ok.is ∙ c.figures_of.ensures) in
    let title_is : title_legal c.args.title.now ≡ true = sym c.title_fair.ensures ∙ c.if-not-title_fair.false in
    let a = c.args in let k = numbers_are in
    plans_same _ _ _ a.title.now a.ordinates.now c.plan_numbers.result
    (λ space. numbers_next a.title.now a.points a.scales a.ordinates.now space title_is k.0)
    ((rw k.1 at c.plan_numbers.ensures) a.title.now (title_fits a.title.now title_is).short)
