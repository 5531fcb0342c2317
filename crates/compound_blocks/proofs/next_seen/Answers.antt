-- `compound_blocks::next_seen` meets its contract: END, TITLE, a DATA TYPE that is LINK, or another.
use mathlib.Core.Path.{sym, ◌∙◌}
use native.Mathlib.Omega.{arith}
use Rattle.compound_blocks.proofs.PassTurns.{seen_none, seen_bad, seen_end, seen_title, seen_link, seen_other}
use Rattle.compound_blocks.proofs.next_seen.Goals as goal

pub is_end-requires : goal.is_end-requires
is_end-requires c = let x = rw c.in-At.is at c.next_label.ensures in (omega (arith, x.good), omega (arith, x.good))

pub returns-then-is_end : goal.returns-then-is_end
returns-then-is_end c = seen_end _ _ _ _ _ (rw c.in-At.is at c.next_label.ensures) (sym c.is_end.ensures ∙ c.if-is_end.true)

pub is_title-requires : goal.is_title-requires
is_title-requires c = let x = rw c.in-At.is at c.next_label.ensures in (omega (arith, x.good), omega (arith, x.good))

pub returns-then-is_title : goal.returns-then-is_title
returns-then-is_title c =
    seen_title _ _ _ _ _ (rw c.in-At.is at c.next_label.ensures) (sym c.is_end.ensures ∙ c.if-is_end.false) (sym c.is_title.ensures ∙ c.if-is_title.true)

pub overflow_add-next : goal.overflow_add-next
overflow_add-next c = let x = rw c.in-At.is at c.next_label.ensures in omega (arith, x.good)

pub next_mark-to-requires : goal.next_mark-to-requires
next_mark-to-requires c =
    let x = rw c.in-At.is at c.next_label.ensures in
    omega (arith, x.good)

pub says_link-requires : goal.says_link-requires
says_link-requires c =
    let x = rw c.in-At.is at c.next_label.ensures in
    (omega (arith, x.good), omega (arith, x.good), c.next_mark-to.ensures.low, c.next_mark-to.ensures.high)

pub returns-then-says_link : goal.returns-then-says_link
returns-then-says_link c =
    seen_link _ _ _ _ _ (rw c.in-At.is at c.next_label.ensures) (sym c.is_end.ensures ∙ c.if-is_end.false) (sym c.is_title.ensures ∙ c.if-is_title.false) _ c.next_mark-to.ensures (sym c.says_link.ensures ∙ c.if-says_link.true)

pub returns-in-None : goal.returns-in-None
returns-in-None c = seen_none _ _ (rw c.in-None.is at c.next_label.ensures)

pub returns-in-Bad : goal.returns-in-Bad
returns-in-Bad c = seen_bad _ _ _ (rw c.in-Bad.is at c.next_label.ensures)

pub returns-else-says_link : goal.returns-else-says_link
returns-else-says_link c =
    seen_other _ _ _ _ _ (rw c.in-At.is at c.next_label.ensures) (sym c.is_end.ensures ∙ c.if-is_end.false) (sym c.is_title.ensures ∙ c.if-is_title.false) _ c.next_mark-to.ensures (sym c.says_link.ensures ∙ c.if-says_link.false)
