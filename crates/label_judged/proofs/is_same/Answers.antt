-- `label_judged::is_same` meets its contract: by the first bytes, and by the whole names.
use Rattle.label_names.proofs.NameTurns.{apart, told_apart}
use Rattle.label_judged.proofs.MarkTurns.{alike_not, alike_is}
use Rattle.label_judged.proofs.is_same.Goals as goal

pub returns-then-differ : goal.returns-then-differ
returns-then-differ c =
    let p = c.requires in
    let d = told_apart _ _ _ c.first_of.ensures _ _ _ p.3 _ c.differ.ensures c.if-differ.true in
    alike_not _ _ _ (λ e. apart _ _ _ _ d e _ p.1)

pub returns : goal.returns
returns c = alike_is _ _ _ _ c.name_end-end.ensures _ c.same_name.ensures
