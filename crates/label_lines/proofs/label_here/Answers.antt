-- `label_lines::label_here` meets its contract: by the tests of the name's end and of its length.
use mathlib.Core.Path.{sym, ◌∙◌}
use native.Mathlib.Omega.{arith}
use Rattle.label_spec.specs.LabelLaws.{hash_in}
use Rattle.label_lines.proofs.LineTurns.{here_none, here_long, here_at}
use Rattle.label_lines.proofs.label_here.Goals as goal

pub overflow_add-start : goal.overflow_add-start
overflow_add-start c = omega (arith, hash_in _ _ c.requires)

pub name_end-eq-requires : goal.name_end-eq-requires
name_end-eq-requires c = omega (arith, hash_in _ _ c.requires)

pub returns-then-byte_at-ne61 : goal.returns-then-byte_at-ne61
returns-then-byte_at-ne61 c = here_none _ _ c.requires _ c.name_end-eq.ensures (λ e. c.if-byte_at-ne61.true (c.byte_at.ensures ∙ e))

pub returns-then-name_length-gt-LONGEST_NAME : goal.returns-then-name_length-gt-LONGEST_NAME
returns-then-name_length-gt-LONGEST_NAME c =
    here_long _ _ c.requires _ c.name_end-eq.ensures
    (sym c.byte_at.ensures ∙ c.if-byte_at-ne61.false) _ c.name_length.ensures c.if-name_length-gt-LONGEST_NAME.true

pub returns : goal.returns
returns c =
    here_at _ _ c.requires _ c.name_end-eq.ensures
    (sym c.byte_at.ensures ∙ c.if-byte_at-ne61.false) _ c.name_length.ensures c.if-name_length-gt-LONGEST_NAME.false
