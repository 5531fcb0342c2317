-- `file_pieces::put_bytes` meets its contract: each byte in its place; what is left is stored from the next one on.
use mathlib.Core.Path.{◌≡◌, refl}
use Prim.Native.Nat.{◌+◌}
use native.Mathlib.Omega.{arith}
use lib.ListN.{length-set}
use Rattle.file_pieces.proofs.Steps.{bytes_again, bytes_end}
use Rattle.file_pieces.proofs.put_bytes.Goals as goal

pub loop-i-init : goal.loop-i-init
loop-i-init c = let e : c.args.at + 0 ≡ c.args.at = omega arith in (omega arith, refl, rw e refl)

pub loop-i-preserved : goal.loop-i-preserved
loop-i-preserved c =
    let l = c.loop-i in let a = c.args in let h = c.loop-i-test.true in
    (omega arith, rw c.put.ensures (simp length-set l.invariant.1), rw c.put.ensures (bytes_again l.out _ a.s.now a.at l.i h l.invariant.2))

pub returns : goal.returns
returns c =
    let l = c.loop-i in let a = c.args in let h = c.loop-i-test.false in let k = l.invariant.0 in
    record { next = omega arith; stored = bytes_end l.out _ a.s.now a.at l.i h l.invariant.2 }
