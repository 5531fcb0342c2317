-- `table_owns::digit_lead` meets its contract: a digit directly after a blank begins an ordinate of its own.
use native.Mathlib.Omega.{arith}
use Rattle.alphabet.specs.Standing.{within_in, blank_seen}
use Rattle.table_leads.proofs.Leads.{digit_leads}
use Rattle.table_leads.proofs.digit_lead.Goals as goal

pub overflow_sub-result : goal.overflow_sub-result
overflow_sub-result c = (within_in 48 10 _ c.requires.2).0

pub returns-then-is_blank : goal.returns-then-is_blank
returns-then-is_blank c =
    let p = c.requires in
    λ l. digit_leads _ _ p.1 p.3 p.2 p.0 (blank_seen _ _ c.standing_in.ensures c.is_blank.ensures c.if-is_blank.true)

pub returns : goal.returns
returns c = λ l. absurd (let y = rw c.no_lead.ensures at l in omega arith)
