-- `compound_words::blocks_of` meets its contract: by the name.
use mathlib.Core.Path.{refl, sym, ◌∙◌}
use Rattle.compound_words.proofs.blocks_of.Goals as goal

pub returns-then-is_blocks : goal.returns-then-is_blocks
returns-then-is_blocks c = rw (sym c.is_blocks.ensures ∙ c.if-is_blocks.true) refl

pub returns : goal.returns
returns c = rw (sym c.is_blocks.ensures ∙ c.if-is_blocks.false) refl
