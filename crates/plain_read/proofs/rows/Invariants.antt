-- `plain_read::rows` meets its contract: line after line, what is left of the body gives the answer.
use Prim.Native.Nat.{◌-◌}
use lib.ListN.{length}
use Rattle.table_pass.specs.Rows.{frame_rules}
use Rattle.table_pass.proofs.PassLaws.{Reached}
use Rattle.plain_read.proofs.rows.Given as goal

abbrev pub invariant-loop-j : goal.invariant-loop-j
invariant-loop-j l = Reached (frame_rules l.fr) l.s l.initial.out l.out l.r

abbrev pub decreases-loop-j : goal.decreases-loop-j
decreases-loop-j l = length l.s - l.r.at
