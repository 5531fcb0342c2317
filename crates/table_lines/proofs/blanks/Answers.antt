-- `table_lines::blanks` meets its contract: the first place from here on where no blank stands.
use mathlib.Core.Path.{refl, ◌∙◌}
use native.Mathlib.Omega.{arith}
use borrow.Author.Rules.{rules}
use Rattle.alphabet.specs.Standing.{blank_seen, blank_seen_not}
use Rattle.table_lines.proofs.LineEnds.{blank_in, blank_fresh, blank_within, place_more}
use Rattle.table_lines.proofs.blanks.Goals as goal

pub loop-i-init : goal.loop-i-init
loop-i-init c = (search rules, search rules, refl, refl, λ k a b. absurd (omega arith))

pub overflow_add-i : goal.overflow_add-i
overflow_add-i c = let e = blank_in _ _ (blank_seen _ _ c.standing.ensures c.is_blank.ensures c.loop-i-test.true) in omega arith

pub loop-i-smaller : goal.loop-i-smaller
loop-i-smaller c = let e = blank_in _ _ (blank_seen _ _ c.standing.ensures c.is_blank.ensures c.loop-i-test.true) in omega arith

pub loop-i-preserved : goal.loop-i-preserved
loop-i-preserved c =
    let l = c.loop-i.invariant in
    let e = blank_seen _ _ c.standing.ensures c.is_blank.ensures c.loop-i-test.true in
    let h = blank_in _ _ e in
    (omega arith, omega arith, l.2 ∙ blank_fresh _ _ e, l.3 ∙ blank_within _ _ _ e, place_more _ l.4 e)

pub returns : goal.returns
returns c =
    let l = c.loop-i.invariant in
    record { low = l.0; high = l.1; all = l.4; before = l.2; within = l.3; stops = blank_seen_not _ _ c.standing.ensures c.is_blank.ensures c.loop-i-test.false }
