-- `text_groups::copies_of` meets its contract: how many ordinates from a place on have the token again, after p.
use Prim.Native.Nat.{◌-◌}
use native.Mathlib.Omega.{arith}
use mathlib.Core.Path.{◌≡◌, sym, ◌∙◌}
use lib.ListN.{length, length-map}
use Rattle.table_spec.specs.Frame.{ordinate_of}
use Rattle.table_text.specs.Pieces.{ordinates}
use Rattle.text_tokens.proofs.TokenSteps.{copies_start, copies_more, copies_stop, copies_out}
use Rattle.text_groups.proofs.copies_of.Goals as goal

pub loop-k-init : goal.loop-k-init
loop-k-init c = copies_start _ _ _ _ c.requires.1 (omega (arith, c.requires.2, length-map c.args.ys.now ordinate_of))

pub overflow_sub-result : goal.overflow_sub-result
overflow_sub-result c = omega (arith, c.loop-k.invariant.on)

pub returns-then-not-is_again : goal.returns-then-not-is_again
returns-then-not-is_again c = let a = c.args in let l = length-map a.ys.now ordinate_of in
    let z = copies_stop (ordinates a.ys.now) a.start a.t a.p c.loop-k.invariant _
    (omega (arith, c.loop-k-test.true)) c.ordinate_at-z.ensures.0
    (sym c.is_again.ensures ∙ c.if-not-is_again.true) in
    (z.0, omega (arith, z.1))

pub loop-k-preserved : goal.loop-k-preserved
loop-k-preserved c = let a = c.args in let l = length-map a.ys.now ordinate_of in
    copies_more (ordinates a.ys.now) a.start a.t a.p c.loop-k.invariant _
    (omega (arith, c.loop-k-test.true)) c.ordinate_at-z.ensures.0 c.ordinate_at-z.ensures.1
    (sym c.is_again.ensures ∙ c.if-not-is_again.false)

pub overflow_sub-result-2 : goal.overflow_sub-result-2
overflow_sub-result-2 c = omega (arith, c.loop-k.invariant.on)

pub returns : goal.returns
returns c = let a = c.args in let l = length-map a.ys.now ordinate_of in
    let z = copies_out (ordinates a.ys.now) a.start a.t a.p c.loop-k.invariant (omega (arith, c.loop-k-test.false)) in
    let e : c.loop-k.k ≡ length a.ys.now = omega (arith, c.requires.2, c.loop-k-test.false) in
    rw (← e) (z.0, omega (arith, z.1))
