-- `compound_read::read_block` meets its contract: the places, then the block's records.
use native.Mathlib.Omega.{arith}
use Rattle.compound_read.proofs.BlockTurns.{read_long, read_crossed, read_outside, read_table, read_fault}
use Rattle.compound_read.proofs.read_block.Goals as goal

pub returns-then-file-gt-LONGEST_FILE : goal.returns-then-file-gt-LONGEST_FILE
returns-then-file-gt-LONGEST_FILE c = read_long _ _ _ _ c.if-file-gt-LONGEST_FILE.true _ (rw c.number.ensures at c.refusal_in.ensures)

pub returns-then-start-end : goal.returns-then-start-end
returns-then-start-end c = read_crossed _ _ _ _ (omega (arith, c.if-file-gt-LONGEST_FILE.false)) c.if-start-end.true

pub returns-then-end-file : goal.returns-then-end-file
returns-then-end-file c = read_outside _ _ _ _ (omega (arith, c.if-file-gt-LONGEST_FILE.false)) (omega (arith, c.if-start-end.false)) c.if-end-file.true

pub returns-in-Ok : goal.returns-in-Ok
returns-in-Ok c =
    read_table _ _ _ _ (omega (arith, c.if-file-gt-LONGEST_FILE.false)) (omega (arith, c.if-start-end.false)) (omega (arith, c.if-end-file.false)) _ _ (rw c.in-Ok.is at
    c.read_part.ensures)

pub returns-in-Err : goal.returns-in-Err
returns-in-Err c =
    read_fault _ _ _ _ (omega (arith, c.if-file-gt-LONGEST_FILE.false)) (omega (arith, c.if-start-end.false)) (omega (arith, c.if-end-file.false)) _ _ (rw c.in-Err.is at
    c.read_part.ensures) _ c.refusal_in-in-Err.ensures
