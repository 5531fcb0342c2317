-- `alphabet::digits` meets its contract: the digits from a place on, after the number v.
use mathlib.Core.Path.{◌≡◌, sym, ◌∙◌}
use Prim.Native.Nat.{◌<◌}
use native.Mathlib.Omega.{arith}
use lib.ListN.{length}
use Rattle.alphabet.specs.Ran.{start, Taken, taken, ended, run_out}
use Rattle.alphabet.proofs.digits.Goals as goal

pub run_end-end-requires : goal.run_end-end-requires
run_end-end-requires c = c.requires.0

pub loop-i-init : goal.loop-i-init
loop-i-init c = start _ _ _ _ c.requires.0

pub standing_in-b-requires : goal.standing_in-b-requires
standing_in-b-requires c =
    let inside : c.loop-i.i < length c.args.s.now = let l = c.loop-i-test.true in let h = c.run_end-end.ensures.high in omega arith in
    inside

pub returns-then-not-is_digit : goal.returns-then-not-is_digit
returns-then-not-is_digit c =
    let b = c.standing_in-b.ensures in (ended c.loop-i.invariant b (sym c.is_digit.ensures ∙ c.if-not-is_digit.true), b)

pub overflow_mul-w : goal.overflow_mul-w
overflow_mul-w c =
    let known : Taken c.args.s.now c.args.from c.args.v c.args.most c.loop-i.w c.loop-i.i c.standing_in-b.result =
    let i = c.loop-i.invariant in let k = c.loop-i-test.true in let x = i.low in let h = c.run_end-end.ensures.few in
    taken i c.standing_in-b.ensures (sym c.is_digit.ensures ∙ c.if-not-is_digit.false) (omega arith) c.requires.1 in
    let k = known.fits in omega arith

pub overflow_sub-w : goal.overflow_sub-w
overflow_sub-w c =
    let known : Taken c.args.s.now c.args.from c.args.v c.args.most c.loop-i.w c.loop-i.i c.standing_in-b.result =
    let i = c.loop-i.invariant in let k = c.loop-i-test.true in let x = i.low in let h = c.run_end-end.ensures.few in
    taken i c.standing_in-b.ensures (sym c.is_digit.ensures ∙ c.if-not-is_digit.false) (omega arith) c.requires.1 in
    known.digit

pub overflow_add-w : goal.overflow_add-w
overflow_add-w c =
    let known : Taken c.args.s.now c.args.from c.args.v c.args.most c.loop-i.w c.loop-i.i c.standing_in-b.result =
    let i = c.loop-i.invariant in let k = c.loop-i-test.true in let x = i.low in let h = c.run_end-end.ensures.few in
    taken i c.standing_in-b.ensures (sym c.is_digit.ensures ∙ c.if-not-is_digit.false) (omega arith) c.requires.1 in
    let k = known.fits in let d = known.small in omega arith

pub loop-i-preserved : goal.loop-i-preserved
loop-i-preserved c =
    let known : Taken c.args.s.now c.args.from c.args.v c.args.most c.loop-i.w c.loop-i.i c.standing_in-b.result =
    let i = c.loop-i.invariant in let k = c.loop-i-test.true in let x = i.low in let h = c.run_end-end.ensures.few in
    taken i c.standing_in-b.ensures (sym c.is_digit.ensures ∙ c.if-not-is_digit.false) (omega arith) c.requires.1 in
    known.on

pub returns : goal.returns
returns c =
    let low = c.run_end-end.ensures.low in let e : c.loop-i.i ≡ c.run_end-end.result = omega (arith, low, c.loop-i-test.false) in
    (rw e at (run_out c.loop-i.invariant (rw e c.run_end-end.ensures)), c.standing-b.ensures)
