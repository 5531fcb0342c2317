-- `table_owns::first_digit` meets its contract: the first digit of the ordinate of its own at a place.
-- the letter is none past I
use mathlib.Core.Path.{sym, ◌∙◌}
use Prim.Native.Nat.{◌-◌, ◌*◌, ◌/◌, ◌%◌, ◌<◌}
use native.Mathlib.Omega.{arith}
use Rattle.table_leads.proofs.Leads.{letter_leads}
use Rattle.table_leads.proofs.first_digit.Goals as goal

pub digit_lead-requires : goal.digit_lead-requires
digit_lead-requires c = let p = c.requires in let h = p.1 in (p.0, omega arith, sym c.is_digit.ensures ∙ c.if-is_digit.true, p.2)

pub returns : goal.returns
returns c =
    let high : let b = c.args.b in b - b / 32 % 2 * 32 < 74 = omega arith in
    let p = c.requires in let h = p.1 in let u = high in λ l. letter_leads _ _ (omega arith) p.2 c.if-letter-lt65.false (omega arith)
