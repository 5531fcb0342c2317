-- `label_title::title_here` meets its contract: by the label there and its name.
use mathlib.Core.Path.{sym, ◌∙◌}
use native.Mathlib.Omega.{arith}
use Rattle.label_title.proofs.OpenTurns.{open_bad, open_over, open_title, open_other}
use Rattle.label_title.proofs.title_here.Goals as goal

pub is_title-requires : goal.is_title-requires
is_title-requires c = let x = rw c.in-At.is at c.label_here.ensures in omega (arith, x.good)

pub returns-in-None : goal.returns-in-None
returns-in-None c = rw c.of.ensures (open_over _ _ c.requires (rw c.in-None.is at c.label_here.ensures))

pub returns-in-Bad : goal.returns-in-Bad
returns-in-Bad c = rw c.of-in-Bad.ensures (open_bad _ _ c.requires _ (rw c.in-Bad.is at c.label_here.ensures))

pub returns-then-is_title : goal.returns-then-is_title
returns-then-is_title c =
    let x = rw c.in-At.is at c.label_here.ensures in
    open_title _ _ c.requires _ _ _ x (sym c.is_title.ensures ∙ c.if-is_title.true)

pub returns-else-is_title : goal.returns-else-is_title
returns-else-is_title c =
    let x = rw c.in-At.is at c.label_here.ensures in
    rw c.of-else-is_title.ensures (open_other _ _ c.requires _ _ _ x (sym c.is_title.ensures ∙ c.if-is_title.false))
