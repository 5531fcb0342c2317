-- `label_space::past_space` meets its contract: what is passed is blank, line end or comment.
use mathlib.Core.Path.{◌≡◌, sym, ◌∙◌}
use lib.ListN.{length}
use native.Mathlib.Omega.{arith}
use Rattle.label_space.proofs.SpaceTurns.{gone_end, gone_in, gone_space, gone_opens, gone_stop}
use Rattle.label_space.proofs.past_space.Goals as goal
use Rattle.label_space.proofs.past_space.Goals.{then-inside, else-inside+then-not-is_space+else-not-is_opening, else-inside+else-not-is_space}

pub returns-then-not-is_opening : goal.returns-then-not-is_opening
returns-then-not-is_opening c =
    gone_stop _ _ _ c.loop-i-test.true (sym c.is_space.ensures ∙ c.if-not-is_space.true) _
    c.if-inside.false (sym c.is_opening.ensures ∙ c.if-not-is_opening.true)
    c.loop-i.invariant

pub loop-i-preserved : goal.loop-i-preserved
loop-i-preserved c =
    let on = c.loop-i.invariant in
    let in_text = c.loop-i-test.true in
    elim c.if-inside.branch [
      | then-inside w ↦ rw w.inside-is (gone_in _ _ _ in_text _ w.if-inside.true on)
      | else-inside+then-not-is_space+else-not-is_opening w ↦
          rw w.inside-is (gone_opens _ _ _ in_text (sym w.is_space.ensures ∙ w.if-not-is_space.true) _ w.if-inside.false (sym w.is_opening.ensures ∙ w.if-not-is_opening.false) on)
      | else-inside+else-not-is_space w ↦ rw w.inside-is (gone_space _ _ _ in_text _ w.if-inside.false (sym w.is_space.ensures ∙ w.if-not-is_space.false) on)
    ]

pub returns : goal.returns
returns c =
    let e : c.loop-i.i ≡ length c.args.s.now = omega arith in
    rw e at (gone_end _ _ _ _ c.loop-i.invariant c.loop-i-test.false)
