-- `profile_judged::fault_of` meets its contract: 30 at END's `##`, 31 at its word.
use mathlib.Core.Path.{refl}
use Rattle.profile_judged.proofs.fault_of.Goals as goal

pub returns-in-Lacking : goal.returns-in-Lacking
returns-in-Lacking c = rw (c.in-Lacking.is, c.of.ensures) refl

pub returns-in-Unlisted : goal.returns-in-Unlisted
returns-in-Unlisted c = rw (c.in-Unlisted.is, c.of-in-Unlisted.ensures) refl
