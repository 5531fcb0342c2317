-- `ordinate_account::lowered` meets its contract: a sum of raised ordinates as a sum with its sign, in 64 bits.
use Prim.Native.Nat.{◌*◌}
use native.Mathlib.Omega.{arith}
use mir.Syntax.{w64}
use mir.Facts.{to_z_pos, to_z-of_z}
use Rattle.ordinate_account.proofs.MeanLaws.{minus_is, sub_fits}
use Rattle.ordinate_account.proofs.lowered.Goals as goal

pub overflow_sub-result : goal.overflow_sub-result
overflow_sub-result c =
    let a = c.args.raised in let b = c.args.given * 2147483648 in let p = c.requires in
    rw (to_z_pos w64 {n = a} (omega arith), to_z_pos w64 {n = b} (omega arith), minus_is a b) (sub_fits a b (omega arith) (omega arith))

pub returns : goal.returns
returns c =
    let a = c.args.raised in let b = c.args.given * 2147483648 in let p = c.requires in
    rw (to_z_pos w64 {n = a} (omega arith), to_z_pos w64 {n = b} (omega arith), minus_is a b) (to_z-of_z (sub_fits a b (omega arith) (omega arith)))
