-- `file_given::figures_of` meets its contract: XFACTOR and YFACTOR, then the rest, or that one is outside its rule.
use mathlib.Core.Path.{sym, ◌∙◌}
use Rattle.file_given.proofs.GivenSteps.{xfactor_wrong, yfactor_wrong, factors_right}
use Rattle.file_given.proofs.figures_of.Goals as goal

pub returns-in_default : goal.returns-in_default
returns-in_default c =
    let a = c.args in xfactor_wrong a.c a.points (sym c.factor_of.ensures.0 ∙ c.in_default.is)

pub returns-in_default-factor_of : goal.returns-in_default-factor_of
returns-in_default-factor_of c =
    let a = c.args in
    let one = sym c.factor_of.ensures.0 ∙ c.in-Some.is in
    yfactor_wrong a.c a.points one (sym c.factor_of-2.ensures.0 ∙ c.in_default-factor_of.is)

pub returns : goal.returns
returns c =
    let a = c.args in
    let one = sym c.factor_of.ensures.0 ∙ c.in-Some.is in
    let two = sym c.factor_of-2.ensures.0 ∙ c.in-Some-factor_of.is in
    c.figures_from_firstx.ensures ∙ factors_right a.c a.points one two
