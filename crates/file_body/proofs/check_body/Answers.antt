-- `file_body::check_body` meets its contract: 1 to 13 and 16 on the body, then 29.
-- where the body is checked, and what it says
use mathlib.Core.List.{List}
use mathlib.Core.Path.{◌≡◌, sym, ap, ◌∙◌}
use Prim.Native.Nat.{ℕ, ◌+◌, ◌-◌}
use native.Mathlib.Omega.{arith}
use lib.IntN.{ℤ}
use lib.ListN.{length, take, drop}
use mir.Facts.{to_z-of_z}
use Rattle.table_spec.specs.Frame.{ordinate_of}
use Rattle.table_spec.specs.Reading.{Answer, read_table}
use Rattle.table_read.specs.Answers.{told_first}
use Rattle.file_spec.specs.Texts.{text_in}
use Rattle.file_spec.specs.Figures.{ratio, agrees, exactness_of}
use Rattle.figure.specs.Carried.{carried_exact}
use Rattle.file_spec.specs.File.{table_by}
use Rattle.file_marks.specs.Spans.{Within}
use Rattle.file_spec.specs.Places.{body_from}
use Rattle.file_spec.specs.PlaceLaws.{body_is}
use Rattle.file_body.proofs.BodyLaws.{stage_refused, place_bound, body_small, body_refused, body_unequal, body_equal}
use Rattle.file_body.proofs.check_body.Goals as goal
use Rattle.std.specs.Prelude.{Ok, Err}

pub moved_in-requires : goal.moved_in-requires
moved_in-requires c =
    let place : ℕ = c.args.x.xydata.from + c.args.start in
    let file : List ℕ = c.args.file.now in
    let a = c.args in let p = c.requires in
    let low = place_bound _ _ _ (take (a.x.xydata.to - place) (drop place file)) _ (sym c.in-Err.is ∙ c.check_table.ensures) in
    let short = body_small file place a.x.xydata.to in
    let least = p.0.xydata.low in let high = p.0.xydata.high in omega (arith, p.2, p.3)

pub returns-then-not-agree : goal.returns-then-not-agree
unfolding table_by
returns-then-not-agree c =
    let ordinate : ℤ = c.in-Ok.y in
    let compared : c.agree.result ≡ agrees (ordinate_of ordinate) (ratio 0 c.args.n.firsty c.args.n.yfactor).rounded = let small = c.in-Ok.known_told-in-Ok-1-own.given.0.1 in
    rw (to_z-of_z (record { sfits = small }), c.ratio_of-q.ensures.0) at c.agree.ensures in
    let file : List ℕ = c.args.file.now in
    let room : ℕ = c.args.room in
    let place : ℕ = c.args.x.xydata.from + c.args.start in
    let body : List ℕ = drop c.args.start (text_in file c.args.x.xydata) in
    let answer : Answer = read_table c.args.first c.args.last c.args.n.npoints body room in
    let first_said : Ok ordinate ≡ told_first answer = let a = c.args in
    rw (to_z-of_z c.ranges.first, to_z-of_z c.ranges.last, body_is a.file.now a.x.xydata a.start) at (sym c.in-Ok.is ∙ c.check_table.ensures) in
    let a = c.args in
    let unequal = sym compared ∙ c.if-not-agree.true in
    stage_refused (ap Err c.of.ensures)
    (rw c.mark_in.ensures
    (body_unequal file room a.x a.n a.first a.last place answer first_said unequal))

pub returns-in-Err : goal.returns-in-Err
unfolding table_by
returns-in-Err c =
    let file : List ℕ = c.args.file.now in
    let room : ℕ = c.args.room in
    let place : ℕ = c.args.x.xydata.from + c.args.start in
    let body : List ℕ = drop c.args.start (text_in file c.args.x.xydata) in
    let answer : Answer = read_table c.args.first c.args.last c.args.n.npoints body room in
    let a = c.args in
    let said = rw (to_z-of_z c.ranges.first, to_z-of_z c.ranges.last, body_is a.file.now a.x.xydata a.start) at (sym c.in-Err.is ∙ c.check_table.ensures) in
    stage_refused (ap Err c.moved_in.ensures) (body_refused file room a.x a.n a.first a.last place answer said)

pub returns-else-not-agree : goal.returns-else-not-agree
unfolding table_by
returns-else-not-agree c =
    let ordinate : ℤ = c.in-Ok.y in
    let compared : c.agree.result ≡ agrees (ordinate_of ordinate) (ratio 0 c.args.n.firsty c.args.n.yfactor).rounded = let small = c.in-Ok.known_told-in-Ok-1-own.given.0.1 in
    rw (to_z-of_z (record { sfits = small }), c.ratio_of-q.ensures.0) at c.agree.ensures in
    let file : List ℕ = c.args.file.now in
    let room : ℕ = c.args.room in
    let place : ℕ = c.args.x.xydata.from + c.args.start in
    let body : List ℕ = drop c.args.start (text_in file c.args.x.xydata) in
    let answer : Answer = read_table c.args.first c.args.last c.args.n.npoints body room in
    let first_said : Ok ordinate ≡ told_first answer = let a = c.args in
    rw (to_z-of_z c.ranges.first, to_z-of_z c.ranges.last, body_is a.file.now a.x.xydata a.start) at (sym c.in-Ok.is ∙ c.check_table.ensures) in
    let exact_here : c.exact_with-exact.result ≡ exactness_of c.args.n (ordinate_of ordinate) = let small = c.in-Ok.known_told-in-Ok-1-own.given.0.1 in
    rw (to_z-of_z (record { sfits = small }), c.ratio_of-q.ensures.0) at c.exact_with-exact.ensures ∙ carried_exact (ordinate_of ordinate) c.requires.4 in
    let a = c.args in
    let equal = sym compared ∙ c.if-not-agree.false in
    let high = c.requires.0.xydata.high in let low = c.requires.0.xydata.low in
    let inside : Within (length file) (body_from a.x a.start) = record { low = omega (arith, c.requires.2); high = high } in
    let same = ap (λ (p : List ℕ). read_table a.first a.last a.n.npoints p room) (body_is file a.x.xydata a.start) in
    rw (to_z-of_z c.ranges.first, to_z-of_z c.ranges.last)
    (body_equal file room a.x a.n a.first a.last place answer first_said equal exact_here inside same)
