-- `compound_find::store_fitting` meets its contract: all, or as many as fit.
use Rattle.compound_find.proofs.FindTurns.{stores_all, stores_some}
use Rattle.compound_find.proofs.store_fitting.Goals as goal

pub returns-then-count-room : goal.returns-then-count-room
returns-then-count-room c = stores_all _ _ _ _ _ _ c.if-count-room.true c.store_blocks.ensures

pub returns-else-count-room : goal.returns-else-count-room
returns-else-count-room c = stores_some _ _ _ _ _ _ c.if-count-room.false c.store_blocks-else-count-room.ensures
