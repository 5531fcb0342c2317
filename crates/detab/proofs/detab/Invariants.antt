-- `detab::detab` meets its contract: every byte of the body is as the converter leaves it.
use mathlib.Core.Path.{◌≡◌}
use mathlib.Core.Bool.{false}
use Rattle.table_spec.specs.Tabs.{spaced}
use Rattle.detab.proofs.Turns.{from_there}
use Rattle.detab.proofs.detab.Given as goal

abbrev pub invariant-loop-i : goal.invariant-loop-i
invariant-loop-i l = (from_there l.inside l.i l.body ≡ spaced false l.initial.body)
