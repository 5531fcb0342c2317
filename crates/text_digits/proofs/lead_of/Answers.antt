-- `text_digits::lead_of` meets its contract: the byte of a number's first digit, from what is left of it.
use mathlib.Core.Path.{◌≡◌, ap, ◌∙◌}
use mathlib.Core.List.{List}
use Prim.Native.Nat.{ℕ, ◌+◌, ◌-◌, ◌*◌, ◌/◌, ◌%◌}
use lib.Dec.{eqb}
use lib.ListN.{get_or}
use Rattle.terms.specs.Logic.{pick}
use Rattle.text_digits.proofs.DigitSteps.{is_lead, lead_small}
use Rattle.text_digits.proofs.lead_of.Goals as goal

pub returns : goal.returns
returns c =
    let a = c.args in
    let p = c.requires in
    let i = 2 * a.w + 1 - a.odd in
    let e : get_or a.t.now i 0 ≡ 48 + pick (eqb a.odd 0) (a.w % 10) (a.w / 10) = ap (λ (l : List ℕ). get_or l i 0) p.0 ∙ is_lead a.odd a.w p.1 p.2 in
    (e, rw e (lead_small a.odd a.w p.2))
