-- `compound_names::met_here` meets its contract: by the first byte, and by the label and its name.
use mathlib.Core.Path.{sym, ◌∙◌}
use native.Mathlib.Omega.{arith}
use Rattle.label_spec.specs.LabelLaws.{hash_in}
use Rattle.compound_names.proofs.NameScan.{passes_none, passes_bad, passes_met, passes_other}
use Rattle.compound_names.proofs.met_here.Goals as goal

pub overflow_add-start : goal.overflow_add-start
overflow_add-start c = omega (arith, hash_in _ _ c.requires.0)

pub returns-then-is_other : goal.returns-then-is_other
returns-then-is_other c =
    let p = c.requires in
    passes_other _ _ p.0 _ _ _ _ _ p.2 c.first_of.ensures p.4 (sym c.is_other.ensures ∙ c.if-is_other.true)

pub met-requires : goal.met-requires
met-requires c =
    let x = rw c.in-At.is at c.label_here.ensures in
    let p = c.requires in
    (omega (arith, x.good), omega (arith, x.good), omega (arith, p.2), p.3, p.1)

pub returns-in-None : goal.returns-in-None
returns-in-None c = passes_none _ _ c.requires.0 _ _ (rw c.in-None.is at c.label_here.ensures)

pub returns-in-Bad : goal.returns-in-Bad
returns-in-Bad c = passes_bad _ _ c.requires.0 _ _ _ (rw c.in-Bad.is at c.label_here.ensures)

pub returns-in-At : goal.returns-in-At
returns-in-At c =
    passes_met _ _ c.requires.0 _ _ _ _ _ _ (rw c.in-At.is at c.label_here.ensures) c.met.ensures
