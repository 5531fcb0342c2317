-- `alphabet::entry_at` meets its contract: the entry of the byte at a place, 256 at the end of the text.
use mathlib.Core.Path.{sym, ◌∙◌}
use Rattle.alphabet_spec.proofs.EntryLaws.{at_entry, past_end}
use Rattle.alphabet.proofs.entry_at.Goals as goal

pub returns-then-i-s : goal.returns-then-i-s
returns-then-i-s c = c.entry_of.ensures ∙ sym (at_entry _ _ c.if-i-s.true)

pub returns-else-i-s : goal.returns-else-i-s
returns-else-i-s c = sym (past_end _ _ c.if-i-s.false)
