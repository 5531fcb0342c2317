-- `table_owns::sign_lead` meets its contract: a sign and a digit after it begin an ordinate of its own.
-- where a digit was found: it is one
use mathlib.Core.Path.{◌≡◌, sym, ◌∙◌}
use mathlib.Core.Bool.{true}
use mathlib.Core.Logic.{◌⊎◌, inl, inr}
use native.Mathlib.Omega.{arith}
use Rattle.alphabet_spec.specs.Digits.{within}
use Rattle.alphabet.specs.Standing.{within_in}
use Rattle.table_leads.proofs.Leads.{sign_leads}
use Rattle.table_leads.proofs.sign_lead.Goals as goal
use Rattle.table_leads.proofs.sign_lead.Goals.{then-b-ne-PLUS+else-b-ne-MINUS, else-b-ne-PLUS}

pub returns-then-b-ne-MINUS : goal.returns-then-b-ne-MINUS
returns-then-b-ne-MINUS c = λ l. absurd (let y = rw c.no_lead.ensures at l in omega arith)

pub returns-then-not-is_digit : goal.returns-then-not-is_digit
returns-then-not-is_digit c = λ l. absurd (let y = rw c.no_lead-then-not-is_digit.ensures at l in omega arith)

pub overflow_sub-result : goal.overflow_sub-result
overflow_sub-result c =
    let found : within 48 10 c.standing_in-x.result ≡ true = sym c.is_digit.ensures ∙ c.if-not-is_digit.false in
    (within_in 48 10 _ found).0

pub returns : goal.returns
returns c =
    let signs : (c.args.b ≡ 43) ⊎ (c.args.b ≡ 45) = elim c.if-b-ne-PLUS.branch [ then-b-ne-PLUS+else-b-ne-MINUS w ↦ inr (w.if-b-ne-MINUS.false) | else-b-ne-PLUS w ↦ inl (w.if-b-ne-PLUS.false) ] in
    let found : within 48 10 c.standing_in-x.result ≡ true = sym c.is_digit.ensures ∙ c.if-not-is_digit.false in
    let p = c.requires in let h = p.0 in λ l. sign_leads _ _ (omega arith) p.1 signs h c.standing_in-x.ensures found
