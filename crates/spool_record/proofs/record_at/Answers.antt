-- `spool_record::record_at` meets its contract: what stands at a place, tested in the order of the definition.
use Rattle.std.specs.Prelude.{Err}
use mathlib.Core.Path.{sym, ◌∙◌, ap}
use Prim.Native.Nat.{◌-◌}
use Rattle.spool_record.proofs.RecordLaws.{record_over, record_full, record_short, record_first, record_second, record_long, record_file}
use Rattle.spool_record.proofs.record_at.Goals as goal
use Rattle.spool_record.proofs.record_at.Goals.{then-s-at-ne-FIRST_MARK-via-then-s-at-ne-FIRST_MARK, then-s-at-ne-FIRST_MARK-via-else-s-at-ne-FIRST_MARK+then-s-at-ne-SECOND_MARK}

pub returns-then-len-at : goal.returns-then-len-at
returns-then-len-at c = sym (record_over _ _ _ c.if-len-at.true)

pub returns-then-left-eq0 : goal.returns-then-left-eq0
returns-then-left-eq0 c = (ap Err c.of.ensures) ∙ sym (record_full _ _ _ c.if-len-at.false c.if-left-eq0.true)

pub returns-then-rest-lt5 : goal.returns-then-rest-lt5
returns-then-rest-lt5 c = (ap Err c.of-then-rest-lt5.ensures) ∙ sym (record_short _ _ _ c.if-len-at.false c.if-left-eq0.false c.if-rest-lt5.true)

pub returns-then-s-at-ne-FIRST_MARK : goal.returns-then-s-at-ne-FIRST_MARK
returns-then-s-at-ne-FIRST_MARK c =
    (ap Err c.of-then-s-at-ne-FIRST_MARK.ensures)
    ∙ sym
    (elim c.then-s-at-ne-FIRST_MARK.branch [
      | then-s-at-ne-FIRST_MARK-via-then-s-at-ne-FIRST_MARK w ↦ record_first _ _ _ c.if-len-at.false c.if-left-eq0.false c.if-rest-lt5.false w.if-s-at-ne-FIRST_MARK.true
      | then-s-at-ne-FIRST_MARK-via-else-s-at-ne-FIRST_MARK+then-s-at-ne-SECOND_MARK w ↦
          record_second _ _ _ c.if-len-at.false c.if-left-eq0.false c.if-rest-lt5.false w.if-s-at-ne-FIRST_MARK.false w.if-s-at-ne-SECOND_MARK.true
    ])

pub returns-then-size-rest : goal.returns-then-size-rest
returns-then-size-rest c =
    (ap Err c.of-then-size-rest.ensures) ∙ sym (record_long _ _ _ c.if-len-at.false c.if-left-eq0.false c.if-rest-lt5.false c.if-s-at-ne-FIRST_MARK.false c.if-s-at-ne-SECOND_MARK.false
    (rw c.length_at-size.ensures.0 at c.if-size-rest.true))

pub returns : goal.returns
returns c =
    rw c.length_at-size.ensures.0
    (sym (record_file _ _ _ c.if-len-at.false c.if-left-eq0.false c.if-rest-lt5.false c.if-s-at-ne-FIRST_MARK.false c.if-s-at-ne-SECOND_MARK.false
    (rw c.length_at-size.ensures.0 at c.if-size-rest.false)))
