-- `text_lines::break_line` meets its contract: the next group on a new line.
use mathlib.Core.Path.{ap}
use native.Mathlib.Omega.{arith}
use lib.ListN.{length-map}
use Rattle.table_spec.specs.Frame.{ordinate_of}
use Rattle.text_openings.specs.declared.State.{State}
use Rattle.table_text.specs.Pieces.{head_of, ordinates}
use Rattle.text_openings.proofs.LineSteps.{turn_breaks}
use Rattle.text_lines.proofs.break_line.Goals as goal

pub fill-requires : goal.fill-requires
fill-requires c =
    let p = c.requires in
    let few = p.0.sound.few in
    let v = c.new_line-t.ensures in
    let given = ap (λ (x : State). x.given) v.is in
    let last = ap (λ (x : State). x.last) v.is in
    (rw (given, last, c.if-s.true) p.1, omega (arith, p.0.all), omega (arith, v.most, p.0.near), v.column_most)

pub find-h-requires : goal.find-h-requires
find-h-requires c =
    let p = c.requires in
    let few = p.0.sound.few in
    let v = c.new_line-t.ensures in
    let given = ap (λ (x : State). x.given) v.is in
    (omega (arith, given, p.0.some), omega (arith, p.0.all), omega arith)

pub fill-requires-2 : goal.fill-requires-2
fill-requires-2 c =
    let p = c.requires in
    let few = p.0.sound.few in
    let v = c.new_line-t.ensures in
    let last = ap (λ (x : State). x.last) v.is in
    (rw (last, c.if-s.false) c.find-h.ensures, omega (arith, p.0.all), omega (arith, v.most, p.0.near), v.column_most)

pub returns-then-s : goal.returns-then-s
returns-then-s c =
    let a = c.args in
    let p = c.requires in
    let v = c.new_line-t.ensures in
    let f = c.fill.ensures in
    let given = ap (λ (x : State). x.given) v.is in
    turn_breaks (head_of a.fr) (ordinates a.ys.now) a.s a.g (omega (arith, p.0.some, length-map a.ys.now ordinate_of))
    p.1 _ p.2 (ap (λ (x : State). x.last) v.is) v (rw given at f.0) f.1

pub returns : goal.returns
returns c =
    let a = c.args in
    let p = c.requires in
    let v = c.new_line-t.ensures in
    let f = c.fill-2.ensures in
    let given = ap (λ (x : State). x.given) v.is in
    turn_breaks (head_of a.fr) (ordinates a.ys.now) a.s a.g (omega (arith, p.0.some, length-map a.ys.now ordinate_of))
    p.1 _ p.2 (ap (λ (x : State). x.last) v.is) v (rw given at f.0) f.1
