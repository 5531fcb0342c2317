-- `text_shows::put_value` meets its contract: a value that is not negative, a missing one, one that is negative.
use mathlib.Core.Path.{ap, ◌∙◌}
use mathlib.Core.List.{List}
use Prim.Native.Nat.{ℕ, ◌+◌}
use native.Mathlib.Omega.{arith}
use lib.Dec.{lit≤, lit<}
use lib.ListN.{length}
use Rattle.text_marks.proofs.ShowSteps.{shown_missing, shown_up, shown_down}
use Rattle.text_shows.proofs.put_value.Goals as goal

pub put_spelled-requires : goal.put_spelled-requires
put_spelled-requires c =
    let p = c.requires in
    let a = c.args in
    let e = shown_up a.m a.u c.if-u-ge-ZERO_ORDINATE.true in
    (p.0, record { least = p.1.plus_least; most = omega (arith, p.1.plus); small = omega (arith, p.2); ends = p.3 ∙ ap (λ (l : List ℕ). a.at + length l) e; lent = p.4 })

pub returns-then-u-ge-ZERO_ORDINATE : goal.returns-then-u-ge-ZERO_ORDINATE
returns-then-u-ge-ZERO_ORDINATE c =
    let a = c.args in
    rw (shown_up a.m a.u c.if-u-ge-ZERO_ORDINATE.true) c.put_spelled.ensures

pub put_spelled-requires-then-u-eq0 : goal.put_spelled-requires-then-u-eq0
put_spelled-requires-then-u-eq0 c =
    let p = c.requires in
    let a = c.args in
    let e = shown_missing a.m a.u c.if-u-eq0.true in
    (p.0, record { least = lit≤ tt; most = lit≤ tt; small = lit< tt; ends = p.3 ∙ ap (λ (l : List ℕ). a.at + length l) e; lent = p.4 })

pub returns-then-u-eq0 : goal.returns-then-u-eq0
returns-then-u-eq0 c =
    let a = c.args in
    rw (shown_missing a.m a.u c.if-u-eq0.true) c.put_spelled-then-u-eq0.ensures

pub put_spelled-requires-2 : goal.put_spelled-requires-2
put_spelled-requires-2 c =
    let p = c.requires in
    let a = c.args in
    let e = shown_down a.m a.u c.if-u-eq0.false c.if-u-ge-ZERO_ORDINATE.false in
    (p.0, record { least = p.1.minus_least; most = omega (arith, p.1.minus); small = omega arith; ends = p.3 ∙ ap (λ (l : List ℕ). a.at + length l) e; lent = p.4 })

pub returns : goal.returns
returns c =
    let a = c.args in
    rw (shown_down a.m a.u c.if-u-eq0.false c.if-u-ge-ZERO_ORDINATE.false) c.put_spelled-2.ensures
