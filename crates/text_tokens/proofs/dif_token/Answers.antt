-- `text_tokens::dif_token` meets its contract: the DIF token of the ordinate y after p.
use native.Mathlib.Omega.{arith}
use Rattle.text_tokens.proofs.TokenSteps.{dif_either}
use Rattle.text_tokens.proofs.dif_token.Goals as goal

pub overflow_add-result : goal.overflow_add-result
overflow_add-result c = omega (arith, c.saturating_sub-up.ensures, c.saturating_sub-down.ensures, c.requires.1, c.requires.3)

pub returns : goal.returns
returns c =
    let p = c.requires in
    rw (c.base_of.ensures.0, c.saturating_sub-up.ensures, c.saturating_sub-down.ensures) (dif_either _ _ p.0 p.1 p.2 p.3)
