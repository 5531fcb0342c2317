-- `label_judged::next_judged` meets its contract: by the label and its name.
use mathlib.Core.Path.{sym, ◌∙◌}
use native.Mathlib.Omega.{arith}
use Rattle.label_judged.proofs.JudgeTurns.{told_none, told_bad, told_end, told_title, told_empty, told_named}
use Rattle.label_judged.proofs.next_judged.Goals as goal

pub is_end-requires : goal.is_end-requires
is_end-requires c = let x = rw c.in-At.is at c.next_label.ensures in omega (arith, x.good)

pub returns-then-is_end : goal.returns-then-is_end
returns-then-is_end c =
    told_end _ _ _ _ _ (rw c.in-At.is at c.next_label.ensures) (sym c.is_end.ensures ∙ c.if-is_end.true)

pub is_title-requires : goal.is_title-requires
is_title-requires c = let x = rw c.in-At.is at c.next_label.ensures in omega (arith, x.good)

pub returns-then-is_title : goal.returns-then-is_title
returns-then-is_title c =
    let x = rw c.in-At.is at c.next_label.ensures in
    rw c.of-then-is_title.ensures (told_title _ _ _ _ _ x (sym c.is_end.ensures ∙ c.if-is_end.false) (sym c.is_title.ensures ∙ c.if-is_title.true))

pub is_empty-requires : goal.is_empty-requires
is_empty-requires c =
    let x = rw c.in-At.is at c.next_label.ensures in
    omega (arith, x.good)

pub returns-then-is_empty : goal.returns-then-is_empty
returns-then-is_empty c =
    let x = rw c.in-At.is at c.next_label.ensures in
    told_empty _ _ _ _ _ x (sym c.is_end.ensures ∙ c.if-is_end.false) (sym c.is_title.ensures ∙ c.if-is_title.false)
    (sym c.is_empty.ensures ∙ c.if-is_empty.true)

pub returns-in-None : goal.returns-in-None
returns-in-None c = rw c.of.ensures (told_none _ _ (rw c.in-None.is at c.next_label.ensures))

pub returns-in-Bad : goal.returns-in-Bad
returns-in-Bad c = rw c.of-in-Bad.ensures (told_bad _ _ _ (rw c.in-Bad.is at c.next_label.ensures))

pub returns-else-is_empty : goal.returns-else-is_empty
returns-else-is_empty c =
    let x = rw c.in-At.is at c.next_label.ensures in
    told_named _ _ _ _ _ x (sym c.is_end.ensures ∙ c.if-is_end.false) (sym c.is_title.ensures ∙ c.if-is_title.false)
    (sym c.is_empty.ensures ∙ c.if-is_empty.false)
