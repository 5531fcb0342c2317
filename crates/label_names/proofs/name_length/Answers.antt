-- `label_names::name_length` meets its contract: the bytes that count are those that are not ignored.
use mathlib.Core.Path.{◌∙◌}
use borrow.Author.Tests.{tests}
use Rattle.std.proofs.Common.{rules}
use Rattle.std.proofs.lemmas.Iterator.{YieldsList-from_slice}
use Rattle.std.proofs.lemmas.Iterator.Consumers.{YieldsList-at, count_from_yields_List, YieldsList-from_filter}
use Rattle.label_names.proofs.NameTurns.{counts, length_counts}
use Rattle.label_names.proofs.name_length.Goals as goal

pub returns : goal.returns
returns c =
    let road = YieldsList-at c.filter.ensures.source (YieldsList-from_slice _ c.iter.ensures.rest) in
    count_from_yields_List _ _ c.count.ensures.ran (YieldsList-from_filter _ counts road c.filter.ensures.closure (λ x b q k. search (rules, tests)))
    ∙ length_counts _ _ _
