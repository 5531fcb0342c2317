-- `table_lines::comment` meets its contract: no LF was passed.
use borrow.Author.Tests.{tests}
use Rattle.std.proofs.Common.{rules}
use Rattle.std.proofs.lemmas.Iterator.{YieldsList-from_slice}
use Rattle.std.proofs.lemmas.Iterator.Consumers.{YieldsList-at, count_from_yields_List}
use Rattle.std.proofs.lemmas.Iterator.Search.{YieldsList-from_take_while}
use Rattle.table_lines.proofs.LineEnds.{comment_passed}
use Rattle.table_lines.proofs.comment.Goals as goal

pub returns : goal.returns
returns c =
    let road = YieldsList-at c.take_while.ensures.source (YieldsList-from_slice _ c.iter.ensures.rest) in
    comment_passed _ _ c.requires _
    (count_from_yields_List _ _ c.count.ensures.ran (YieldsList-from_take_while _ _ road c.take_while.ensures.closure c.take_while.ensures.done (λ x b q k. search (rules, tests))))
    _ c.min.ensures
