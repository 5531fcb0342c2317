-- `label_page::find_from_mark` meets its contract: the record here, or one after it.
use mathlib.Core.Path.{sym, ◌∙◌}
use native.Mathlib.Omega.{arith}
use Rattle.label_spec.specs.LabelLaws.{hash_in}
use Rattle.label.proofs.RecordTurns.{named_none, named_bad, named_here, named_other}
use Rattle.label_page.proofs.PageTurns.{from_on, from_here}
use Rattle.label_page.proofs.find_from_mark.Goals as goal

pub overflow_add-after : goal.overflow_add-after
overflow_add-after c = omega (arith, hash_in _ _ c.requires.0)

pub find_record-requires : goal.find_record-requires
find_record-requires c = omega (arith, hash_in _ _ c.requires.0)

pub find_record-requires-in-Bad : goal.find_record-requires-in-Bad
find_record-requires-in-Bad c = omega (arith, hash_in _ _ c.requires.0)

pub is_word-requires : goal.is_word-requires
is_word-requires c = let x = rw c.in-At.is at c.label_here.ensures in (omega (arith, x.good), omega (arith, x.good))

pub overflow_add-next : goal.overflow_add-next
overflow_add-next c = let x = rw c.in-At.is at c.label_here.ensures in omega (arith, x.good)

pub next_mark-to-requires : goal.next_mark-to-requires
next_mark-to-requires c = let x = rw c.in-At.is at c.label_here.ensures in omega (arith, x.good)

pub returns-then-is_word : goal.returns-then-is_word
returns-then-is_word c =
    let p = c.requires in
    let x = rw c.in-At.is at c.label_here.ensures in
    from_here _ _ _ p.1 _ _ _ (named_here _ _ p.0 _ _ _ _ x (sym c.is_word.ensures ∙ c.if-is_word.true)) c.next_mark-to.ensures

pub find_record-requires-in-At : goal.find_record-requires-in-At
find_record-requires-in-At c = omega (arith, hash_in _ _ c.requires.0)

pub returns-in-None : goal.returns-in-None
returns-in-None c =
    let p = c.requires in
    from_on _ _ _ p.1 _ (named_none _ _ p.0 _ (rw c.in-None.is at c.label_here.ensures)) _ c.find_record.ensures

pub returns-in-Bad : goal.returns-in-Bad
returns-in-Bad c =
    let p = c.requires in
    from_on _ _ _ p.1 _ (named_bad _ _ p.0 _ _ (rw c.in-Bad.is at c.label_here.ensures)) _ c.find_record-in-Bad.ensures

pub returns-else-is_word : goal.returns-else-is_word
returns-else-is_word c =
    let p = c.requires in
    let x = rw c.in-At.is at c.label_here.ensures in
    from_on _ _ _ p.1 _ (named_other _ _ p.0 _ _ _ _ x (sym c.is_word.ensures ∙ c.if-is_word.false)) _ c.find_record-in-At.ensures
