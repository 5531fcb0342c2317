-- `profile_words::is_listed` meets its contract: the words by the number of the record.
use mathlib.Core.Path.{refl}
use Rattle.profile_spec.specs.Wanted.{wanted}
use Rattle.profile_words.proofs.WordTurns.{no_words, one_of}
use Rattle.profile_words.proofs.is_listed.Goals as goal

pub returns-in-0 : goal.returns-in-0
unfolding wanted
returns-in-0 c = rw (c.in-0.is, c.is_keyword.ensures) (one_of _ _ _)

pub returns-in-1 : goal.returns-in-1
unfolding wanted
returns-in-1 c = rw (c.in-1.is, c.is_keyword-in-1.ensures) (one_of _ _ _)

pub returns-in-2 : goal.returns-in-2
unfolding wanted
returns-in-2 c = rw (c.in-2.is, c.is_keyword-in-2.ensures) (one_of _ _ _)

pub returns-in-9 : goal.returns-in-9
unfolding wanted
returns-in-9 c = rw (c.in-9.is, c.is_polarity.ensures) refl

pub returns-in-10 : goal.returns-in-10
unfolding wanted
returns-in-10 c = rw (c.in-10.is, c.is_mode.ensures) refl

pub returns-in-13 : goal.returns-in-13
unfolding wanted
returns-in-13 c = rw (c.in-13.is, c.is_x_unit.ensures) refl

pub returns-in-14 : goal.returns-in-14
unfolding wanted
returns-in-14 c = rw (c.in-14.is, c.is_y_unit.ensures) refl

pub returns-in_default : goal.returns-in_default
returns-in_default c =
    let m = c.in_default.in_default-own.rest in let r5 = m.0 in let r4 = r5.0 in let r3 = r4.0 in let r2 = r3.0 in let r1 = r2.0 in let r0 = r1.0 in
    rw (no_words _ r0.1 r1.1 r2.1 r3.1 r4.1 r5.1 m.1) refl
