-- `profile_records::survey` meets its contract: one record after the other.
use Prim.Native.Nat.{◌*◌}
use Rattle.profile_records.proofs.RecordTurns.{Gone}
use Rattle.profile_records.proofs.survey.Given as goal

abbrev pub invariant-loop-k : goal.invariant-loop-k
invariant-loop-k l = Gone l.file l.start l.stop l.page l.said l.k (3 * l.k) l.places
