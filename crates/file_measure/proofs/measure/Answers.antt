-- `file_measure::measure` meets its contract: the heading's length, the table's and END's are the file's.
-- where the table is measured, and the start from there
use mathlib.Core.Path.{◌≡◌, sym, ◌∙◌}
use mathlib.Core.List.{[]}
use native.Mathlib.Omega.{arith}
use lib.ListN.{length}
use mir.Facts.{to_z-of_z}
use Rattle.terms.specs.Logic.{zero_one}
use Rattle.file_plan.specs.Stages.{body_of}
use Rattle.file_lay.proofs.LaySteps.{body_bound, table_measured, length_whole}
use Rattle.file_measure.proofs.measure.Goals as goal
use Rattle.std.specs.Prelude.{Ok}

pub overflow_add-result : goal.overflow_add-result
overflow_add-result c =
    let table_at : c.text_length.result ≡ Ok (length (body_of c.args.first c.args.last c.args.n.npoints c.args.ordinates.now)) = let a = c.args in
    table_measured a.first a.last a.n.npoints a.ordinates.now c.requires.2
    (rw (to_z-of_z c.ranges.first, to_z-of_z c.ranges.last) at c.text_length.ensures) in
    let length_at : let a = c.args in c.in_ok-body.body ≡ length (body_of a.first a.last a.n.npoints a.ordinates.now) = let e = sym c.in_ok-body.was ∙ table_at in cc in
    let a = c.args in
    let most = body_bound a.first a.last a.n.npoints a.ordinates.now c.requires.2 in
    omega (arith, c.heading_length-head.ensures.1, length_at)

pub overflow_add-result-2 : goal.overflow_add-result-2
overflow_add-result-2 c =
    let table_at : c.text_length.result ≡ Ok (length (body_of c.args.first c.args.last c.args.n.npoints c.args.ordinates.now)) = let a = c.args in
    table_measured a.first a.last a.n.npoints a.ordinates.now c.requires.2
    (rw (to_z-of_z c.ranges.first, to_z-of_z c.ranges.last) at c.text_length.ensures) in
    let length_at : let a = c.args in c.in_ok-body.body ≡ length (body_of a.first a.last a.n.npoints a.ordinates.now) = let e = sym c.in_ok-body.was ∙ table_at in cc in
    let a = c.args in
    let most = body_bound a.first a.last a.n.npoints a.ordinates.now c.requires.2 in
    omega (arith, c.heading_length-head.ensures.1, length_at)

pub returns-in_err-body : goal.returns-in_err-body
returns-in_err-body c =
    let table_at : c.text_length.result ≡ Ok (length (body_of c.args.first c.args.last c.args.n.npoints c.args.ordinates.now)) = let a = c.args in
    table_measured a.first a.last a.n.npoints a.ordinates.now c.requires.2
    (rw (to_z-of_z c.ranges.first, to_z-of_z c.ranges.last) at c.text_length.ensures) in
    let e = sym c.in_err-body.was ∙ table_at in zero_one cc

pub returns : goal.returns
returns c =
    let table_at : c.text_length.result ≡ Ok (length (body_of c.args.first c.args.last c.args.n.npoints c.args.ordinates.now)) = let a = c.args in
    table_measured a.first a.last a.n.npoints a.ordinates.now c.requires.2
    (rw (to_z-of_z c.ranges.first, to_z-of_z c.ranges.last) at c.text_length.ensures) in
    let length_at : let a = c.args in c.in_ok-body.body ≡ length (body_of a.first a.last a.n.npoints a.ordinates.now) = let e = sym c.in_ok-body.was ∙ table_at in cc in
    let a = c.args in
    length_whole a.title.now a.n (body_of a.first a.last a.n.npoints a.ordinates.now) [] _ _ c.heading_length-head.ensures.0 length_at
