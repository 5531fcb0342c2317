-- `text_groups::copies_of` meets its contract: how many ordinates from a place on have the token again, after p.
use Rattle.table_text.specs.Pieces.{ordinates}
use Rattle.text_tokens.proofs.TokenSteps.{Copies}
use Rattle.text_groups.proofs.copies_of.Given as goal

abbrev pub invariant-loop-k : goal.invariant-loop-k
invariant-loop-k l = Copies (ordinates l.ys) l.start l.t l.p l.q l.k
