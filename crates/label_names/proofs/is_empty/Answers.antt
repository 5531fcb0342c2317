-- `label_names::is_empty` meets its contract: every byte is left out.
use mathlib.Core.Path.{◌∙◌}
use borrow.Author.Tests.{tests}
use Rattle.std.proofs.Common.{rules}
use Rattle.std.proofs.lemmas.Iterator.{YieldsList-from_slice}
use Rattle.std.proofs.lemmas.Iterator.Search.{all_from_yields_List}
use Rattle.label_spec.specs.Names.{ignored}
use Rattle.label_names.proofs.NameTurns.{empty_all}
use Rattle.label_names.proofs.is_empty.Goals as goal

pub returns : goal.returns
returns c =
    let left_out =
    all_from_yields_List ignored _ _ _ c.all.ensures.ran (YieldsList-from_slice _ c.iter.ensures.rest) (λ x b q k. search (rules, tests)) ∙ empty_all c.args.s.now c.args.i c.args.e in
    search (rules, tests)
