-- `alphabet::standing_in` meets its contract: the byte at a place within the text.
use mathlib.Core.Path.{sym, ◌∙◌}
use Rattle.alphabet.specs.Standing.{stands_in}
use Rattle.alphabet.proofs.standing_in.Goals as goal

pub returns : goal.returns
returns c = c.wide.ensures ∙ sym (stands_in _ _ c.requires)
