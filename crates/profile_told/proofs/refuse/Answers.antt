-- `profile_told::refuse` meets its contract: on the page, or in the file.
use Rattle.profile_told.proofs.ToldTurns.{refuse_is}
use Rattle.profile_told.proofs.refuse.Goals as goal

pub returns-then-on_page : goal.returns-then-on_page
returns-then-on_page c = refuse_is _ _ _ _ _ _ c.if-on_page.true _ c.refusal_in-refusal.ensures

pub returns : goal.returns
returns c = refuse_is _ _ _ _ _ _ c.if-on_page.false _ c.refusal_in-refusal-2.ensures
