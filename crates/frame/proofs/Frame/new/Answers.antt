-- `frame::Frame::new` meets its contract: the frame of any F, L and N, or that they are outside their limits.
use mir.Facts.{to_z-of_z}
use mathlib.Core.Path.{sym, ◌∙◌}
use native.Mathlib.Omega.{arith}
use Rattle.frame.proofs.Limits.{lifted_some, first_outside, last_outside, no_point, too_many, ill_matched, legal_frame}
use Rattle.frame.proofs.Frame.new.Goals as goal

pub returns-then-first-eq0 : goal.returns-then-first-eq0
returns-then-first-eq0 c = first_outside _ _ _ (sym (rw (to_z-of_z c.ranges.f) at c.lift-first.ensures) ∙ c.if-first-eq0.true)

pub returns-then-last-eq0 : goal.returns-then-last-eq0
returns-then-last-eq0 c =
    let a = lifted_some _ _ (rw (to_z-of_z c.ranges.f) at c.lift-first.ensures) c.if-first-eq0.false in
    last_outside _ _ _ a (sym (rw (to_z-of_z c.ranges.l) at c.lift-last.ensures) ∙ c.if-last-eq0.true)

pub returns-then-n-lt1 : goal.returns-then-n-lt1
returns-then-n-lt1 c =
    let a = lifted_some _ _ (rw (to_z-of_z c.ranges.f) at c.lift-first.ensures) c.if-first-eq0.false in
    let b = lifted_some _ _ (rw (to_z-of_z c.ranges.l) at c.lift-last.ensures) c.if-last-eq0.false in
    no_point _ _ _ a b c.if-n-lt1.true

pub returns-then-n-gt-MOST_POINTS : goal.returns-then-n-gt-MOST_POINTS
returns-then-n-gt-MOST_POINTS c =
    let a = lifted_some _ _ (rw (to_z-of_z c.ranges.f) at
    c.lift-first.ensures) c.if-first-eq0.false in
    let b = lifted_some _ _ (rw (to_z-of_z c.ranges.l) at c.lift-last.ensures) c.if-last-eq0.false in
    too_many _ _ _ a b c.if-n-gt-MOST_POINTS.true

pub returns-then-n-first : goal.returns-then-n-first
returns-then-n-first c =
    let a = lifted_some _ _ (rw (to_z-of_z c.ranges.f) at
    c.lift-first.ensures) c.if-first-eq0.false in
    let b = lifted_some _ _ (rw (to_z-of_z c.ranges.l) at
    c.lift-last.ensures) c.if-last-eq0.false in
    ill_matched _ _ _ a b (omega arith) (omega arith) c.if-n-first.true

pub returns : goal.returns
returns c =
    let a = lifted_some _ _ (rw (to_z-of_z c.ranges.f) at
    c.lift-first.ensures) c.if-first-eq0.false in
    let b = lifted_some _ _ (rw (to_z-of_z c.ranges.l) at
    c.lift-last.ensures) c.if-last-eq0.false in
    legal_frame _ _ _ a b (omega arith) (omega arith) c.if-n-first.false
