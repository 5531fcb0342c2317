-- `text_digits::store_pairs` meets its contract: the further digits of v two at a time from the right, and what is left of v.
use mathlib.Core.Path.{refl}
use native.Mathlib.Omega.{arith}
use lib.ListN.{length-set}
use Rattle.table_text.specs.DigitLaws.{digits_start}
use Rattle.text_digits.proofs.DigitSteps.{pair_more, pairs_end}
use Rattle.text_digits.proofs.store_pairs.Goals as goal

pub loop-j-init : goal.loop-j-init
loop-j-init c = let p = c.requires in (digits_start _ _ _ _ (omega (arith, p.2)) p.1, omega arith, refl)

pub bounds-out-last : goal.bounds-out-last
bounds-out-last c =
    let few = c.loop-j.invariant.0.few in
    let same = c.loop-j.invariant.0.same in
    omega (arith, c.requires.3, c.loop-j-test.true)

pub bounds-out-before : goal.bounds-out-before
bounds-out-before c =
    let few = c.loop-j.invariant.0.few in
    let same = c.loop-j.invariant.0.same in
    simp length-set (omega (arith, c.requires.3, c.loop-j-test.true))

pub loop-j-preserved : goal.loop-j-preserved
loop-j-preserved c =
    let less = c.loop-j.invariant.1 in
    let even = c.loop-j.invariant.2 in
    let more = c.loop-j-test.true in
    (pair_more _ _ _ c.loop-j.invariant.0 more c.ones-b.ensures c.tens-a.ensures, omega arith, omega (arith, more, even))

pub returns : goal.returns
returns c = let i = c.loop-j.invariant in pairs_end _ _ _ i.0 c.loop-j-test.false i.2
