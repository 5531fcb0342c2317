-- `text_value_lines::store_end` meets its contract: CR and LF, one after the other.
use mathlib.Core.Path.{refl}
use native.Mathlib.Numerals.{add-one}
use lib.ListN.{length-set}
use borrow.Author.Rules.{rules}
use Rattle.text_value_lines.proofs.store_end.Goals as goal

pub bounds-out-next : goal.bounds-out-next
bounds-out-next c = simp length-set (search rules)

pub returns : goal.returns
returns c = record { next = refl; stored = rw (add-one c.args.at) refl }
