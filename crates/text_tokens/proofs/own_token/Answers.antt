-- `text_tokens::own_token` meets its contract: the SQZ token of an ordinate.
use Rattle.text_tokens.proofs.TokenSteps.{own_up, own_down}
use Rattle.text_tokens.proofs.own_token.Goals as goal

pub returns-then-y-ge-ZERO_ORDINATE : goal.returns-then-y-ge-ZERO_ORDINATE
returns-then-y-ge-ZERO_ORDINATE c = own_up _ c.requires.0 c.requires.1 c.if-y-ge-ZERO_ORDINATE.true

pub returns : goal.returns
returns c = own_down _ c.requires.0 c.requires.1 c.if-y-ge-ZERO_ORDINATE.false
