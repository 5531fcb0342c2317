-- `profile_records::put` meets its contract: the three numbers stand where three entries stood.
use Rattle.profile_records.proofs.RecordTurns.{three}
use Rattle.profile_records.proofs.put.Goals as goal

pub returns : goal.returns
returns c = three _ _ c.args.x c.requires _ c.from.ensures _ c.copy_from_slice.ensures.after
