-- `alphabet::digits_in` meets its contract: it stops at a byte that is no digit, or where as many were taken as may be.
use mathlib.Core.Path.{◌≡◌, refl, sym, ◌∙◌}
use Prim.Native.Nat.{◌+◌}
use native.Mathlib.Omega.{arith}
use Rattle.alphabet.specs.Ran.{start, stop, Taken, taken, ended}
use Rattle.alphabet.proofs.digits_in.Goals as goal

pub loop-i-init : goal.loop-i-init
loop-i-init c = let l = c.requires.0 in start _ _ _ _ (omega arith)

pub returns-then-not-is_digit : goal.returns-then-not-is_digit
returns-then-not-is_digit c =
    let b = c.standing_in-b.ensures in (ended c.loop-i.invariant b (sym c.is_digit.ensures ∙ c.if-not-is_digit.true), b)

pub overflow_mul-w : goal.overflow_mul-w
overflow_mul-w c =
    let known : Taken c.args.s.now c.args.from c.args.v c.args.most c.loop-i.w c.loop-i.i c.standing_in-b.result = let i = c.loop-i.invariant in let x = i.low in
    taken i c.standing_in-b.ensures (sym c.is_digit.ensures ∙ c.if-not-is_digit.false) (omega (arith, c.loop-i-test.true)) c.requires.1 in
    let k = known.fits in omega arith

pub overflow_sub-w : goal.overflow_sub-w
overflow_sub-w c =
    let known : Taken c.args.s.now c.args.from c.args.v c.args.most c.loop-i.w c.loop-i.i c.standing_in-b.result = let i = c.loop-i.invariant in let x = i.low in
    taken i c.standing_in-b.ensures (sym c.is_digit.ensures ∙ c.if-not-is_digit.false) (omega (arith, c.loop-i-test.true)) c.requires.1 in
    known.digit

pub overflow_add-w : goal.overflow_add-w
overflow_add-w c =
    let known : Taken c.args.s.now c.args.from c.args.v c.args.most c.loop-i.w c.loop-i.i c.standing_in-b.result = let i = c.loop-i.invariant in let x = i.low in
    taken i c.standing_in-b.ensures (sym c.is_digit.ensures ∙ c.if-not-is_digit.false) (omega (arith, c.loop-i-test.true)) c.requires.1 in
    let k = known.fits in let d = known.small in omega arith

pub loop-i-preserved : goal.loop-i-preserved
loop-i-preserved c =
    let known : Taken c.args.s.now c.args.from c.args.v c.args.most c.loop-i.w c.loop-i.i c.standing_in-b.result = let i = c.loop-i.invariant in let x = i.low in
    taken i c.standing_in-b.ensures (sym c.is_digit.ensures ∙ c.if-not-is_digit.false) (omega (arith, c.loop-i-test.true)) c.requires.1 in
    known.on

pub returns : goal.returns
returns c =
    let r = c.loop-i.invariant in let few = r.few in let low = r.low in
    let e : c.loop-i.i ≡ c.args.from + c.args.most = omega (arith, c.loop-i-test.false) in
    (rw e at (stop r refl (λ _. e)), c.standing_in-b-2.ensures)
