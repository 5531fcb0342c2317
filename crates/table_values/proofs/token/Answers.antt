-- `table_values::token` meets its contract: whatever stands next on a line.
use mathlib.Core.Path.{refl, sym, ◌∙◌}
use mathlib.Core.Logic.{◌⊎◌}
use Prim.Native.Nat.{◌<◌, ◌≤◌}
use Rattle.alphabet.specs.Standing.{blank_seen, blank_seen_not}
use Rattle.table_numbers.proofs.NumberLaws.{kinds}
use Rattle.table_values.proofs.Turns.{fault_token, blank_moves}
use Rattle.table_values.proofs.Walks.{went_blanks}
use Rattle.table_values.proofs.token.Goals as goal

pub past_blanks-requires : goal.past_blanks-requires
past_blanks-requires c = c.requires.1.high

pub returns-then-is_blank : goal.returns-then-is_blank
returns-then-is_blank c =
    let b = c.past_blanks.ensures in (
      blank_moves _ _ _ _ refl (blank_seen _ _ c.standing.ensures c.is_blank.ensures c.if-is_blank.true) b.0,
      went_blanks _ _ c.requires.1 b.0 b.1,
    )

pub returns-in-Some : goal.returns-in-Some
returns-in-Some c =
    let x = rw c.in-Some.is at c.line_end.ensures in record { low = x.low; high = x.high; same = refl; ends = rw c.entry_there-e.ensures at c.if-e-ge-POINT.true; next = x.is; law = x.within _ }

pub returns-in-None : goal.returns-in-None
returns-in-None c = let x = rw c.in-None.is at c.line_end.ensures in (refl, λ y w h. fault_token _ _ _ _ y w 3 (x.1 _))

pub missing-requires : goal.missing-requires
missing-requires c = (c.requires.1, sym c.entry_there-e.ensures ∙ c.if-e-eq-MISSING.true)

pub number-requires : goal.number-requires
number-requires c =
    let begins : (c.entry_there-e.result < 96) ⊎ (128 ≤ c.entry_there-e.result) = kinds _ _ _ c.entry_there-e.ensures c.if-e-ge-POINT.false
    (λ x. blank_seen_not _ _ c.standing.ensures c.is_blank.ensures c.if-is_blank.false (sym c.entry_there-e.ensures ∙ x)) c.if-e-eq-MISSING.false in
    let p = c.requires in (c.entry_there-e.ensures, c.if-e-ge-POINT.false, p.1.some, begins)

pub value-requires : goal.value-requires
value-requires c =
    let begins : (c.entry_there-e.result < 96) ⊎ (128 ≤ c.entry_there-e.result) = kinds _ _ _ c.entry_there-e.ensures c.if-e-ge-POINT.false
    (λ x. blank_seen_not _ _ c.standing.ensures c.is_blank.ensures c.if-is_blank.false (sym c.entry_there-e.ensures ∙ x)) c.if-e-eq-MISSING.false in
    let p = c.requires in
    let x = rw c.in-Some-number.is at c.number.ensures in
    record { sits = p.1; most = p.0; before_point = c.if-e-ge-POINT.false; kind = begins; small = x.small; token = x.token }

pub returns-in-None-number : goal.returns-in-None-number
returns-in-None-number c = let x = rw c.in-None-number.is at c.number.ensures in (refl, λ y w h. fault_token _ _ _ _ y w 5 x)
