-- `profile_records::judge_in` meets its contract: a listed word, or the place of another.
use Rattle.profile_records.proofs.RecordTurns.{judged_listed, judged_unlisted}
use Rattle.profile_records.proofs.judge_in.Goals as goal

pub returns-then-is_listed : goal.returns-then-is_listed
returns-then-is_listed c = judged_listed c.args.s.now c.args.x _ _ c.is_listed.ensures c.if-is_listed.true

pub returns : goal.returns
returns c =
    judged_unlisted c.args.s.now c.args.x _ _ c.is_listed.ensures c.if-is_listed.false _ c.past_space.ensures.is
