-- `label::eq_here` meets its contract: by the first bytes, and by the label and its name.
use mathlib.Core.Path.{sym, ◌∙◌}
use native.Mathlib.Omega.{arith}
use Rattle.label_spec.specs.LabelLaws.{hash_in}
use Rattle.label_names.proofs.NameTurns.{apart_word, told_apart}
use Rattle.label.proofs.RecordTurns.{named_apart, named_none, named_bad, named_here, named_other}
use Rattle.label.proofs.eq_here.Goals as goal

pub overflow_add-start : goal.overflow_add-start
overflow_add-start c = omega (arith, hash_in _ _ c.requires.0)

pub returns-then-differ : goal.returns-then-differ
returns-then-differ c =
    let p = c.requires in
    let d = told_apart _ _ _ c.first_of.ensures _ _ _ p.1 _ c.differ.ensures c.if-differ.true in
    named_apart _ _ p.0 _ (apart_word _ _ _ d)

pub is_word-requires : goal.is_word-requires
is_word-requires c = let x = rw c.in-At.is at c.label_here.ensures in omega (arith, x.good)

pub returns-then-is_word : goal.returns-then-is_word
returns-then-is_word c =
    named_here _ _ c.requires.0 _ _ _ _ (rw c.in-At.is at c.label_here.ensures)
    (sym c.is_word.ensures ∙ c.if-is_word.true)

pub returns-in-None : goal.returns-in-None
returns-in-None c =
    named_none _ _ c.requires.0 _ (rw c.in-None.is at c.label_here.ensures)

pub returns-in-Bad : goal.returns-in-Bad
returns-in-Bad c =
    named_bad _ _ c.requires.0 _ _ (rw c.in-Bad.is at c.label_here.ensures)

pub returns-else-is_word : goal.returns-else-is_word
returns-else-is_word c =
    named_other _ _ c.requires.0 _ _ _ _ (rw c.in-At.is at c.label_here.ensures)
    (sym c.is_word.ensures ∙ c.if-is_word.false)
