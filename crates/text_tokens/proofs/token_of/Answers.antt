-- `text_tokens::token_of` meets its contract: the token of the ordinate y after p; 0.
use Rattle.text_tokens.proofs.TokenSteps.{gap_token}
use Rattle.text_tokens.proofs.token_of.Goals as goal

pub returns-then-y-eq0 : goal.returns-then-y-eq0
returns-then-y-eq0 c = gap_token _ _ c.if-y-eq0.true

pub returns-then-p-eq0 : goal.returns-then-p-eq0
returns-then-p-eq0 c = rw c.if-p-eq0.true c.own_token.ensures

pub returns : goal.returns
returns c = c.dif_token.ensures
