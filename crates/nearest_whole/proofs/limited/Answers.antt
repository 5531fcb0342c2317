-- `limited` meets its contract: the answer that a nearest number gives, and exact where nothing is left. Assumes nothing.
use Rattle.nearest_whole.proofs.Rests.{over_limit, zero_by_rest, signed_by_rest}
use Rattle.nearest_whole.proofs.limited.Goals as goal

pub returns-then-q-limit : goal.returns-then-q-limit
returns-then-q-limit c = rw c.beyond.ensures (over_limit _ _ _ _ _ c.nearest-q.ensures c.if-q-limit.true)

pub returns-then-q-eq0 : goal.returns-then-q-eq0
returns-then-q-eq0 c =
    rw c.zero.ensures (zero_by_rest _ _ _ _ _ c.requires.0 c.nearest-q.ensures c.if-q-eq0.true)

pub returns : goal.returns
returns c = signed_by_rest _ _ _ _ _ c.requires.0 c.nearest-q.ensures c.if-q-eq0.false c.if-q-limit.false
