-- `label_lines::past_blanks` meets its contract: only blanks were passed.
use mathlib.Core.Path.{refl, sym, ◌∙◌}
use native.Mathlib.Omega.{arith}
use Rattle.label_lines.proofs.LineTurns.{blanks_end, blanks_stop, blanks_on}
use Rattle.label_lines.proofs.past_blanks.Goals as goal

pub loop-i-init : goal.loop-i-init
loop-i-init c = (omega arith, omega (arith, c.requires), refl)

pub returns-then-not-is_blank : goal.returns-then-not-is_blank
returns-then-not-is_blank c = blanks_stop _ _ _ c.loop-i.invariant (sym c.is_blank.ensures ∙ c.if-not-is_blank.true)

pub loop-i-preserved : goal.loop-i-preserved
loop-i-preserved c = blanks_on _ _ _ c.loop-i.invariant c.loop-i-test.true (sym c.is_blank.ensures ∙ c.if-not-is_blank.false)

pub returns : goal.returns
returns c = blanks_end _ _ _ c.loop-i.invariant c.loop-i-test.false
