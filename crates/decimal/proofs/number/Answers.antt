-- `number` meets its contract: the sign, and the rest. Assumes nothing.
use mathlib.Core.Path.{sym, ◌∙◌}
use native.Mathlib.Omega.{arith}
use lib.Dec.{lit<}
use Rattle.decimal.proofs.Reading.{number_plus, number_minus, number_plain}
use Rattle.terms.specs.Places.{inside}
use Rattle.decimal.proofs.number.Goals as goal

pub unsigned-requires : goal.unsigned-requires
unsigned-requires c =
    let plus = sym c.byte_at-sign.ensures ∙ c.if-sign-eq43.true in
    omega (arith, inside c.args.s.now c.args.at 43 plus (lit< tt))

pub returns-then-sign-eq43 : goal.returns-then-sign-eq43
returns-then-sign-eq43 c = number_plus _ _ _ (sym c.byte_at-sign.ensures ∙ c.if-sign-eq43.true) c.unsigned.ensures

pub unsigned-requires-then-sign-eq45 : goal.unsigned-requires-then-sign-eq45
unsigned-requires-then-sign-eq45 c =
    let minus = sym c.byte_at-sign.ensures ∙ c.if-sign-eq45.true in
    omega (arith, inside c.args.s.now c.args.at 45 minus (lit< tt))

pub returns-then-sign-eq45 : goal.returns-then-sign-eq45
returns-then-sign-eq45 c =
    let sign = c.byte_at-sign.ensures in
    number_minus _ _ _ (λ e. c.if-sign-eq43.false (sign ∙ e)) (sym sign ∙ c.if-sign-eq45.true) c.unsigned-then-sign-eq45.ensures

pub returns : goal.returns
returns c =
    let sign = c.byte_at-sign.ensures in
    number_plain _ _ _ (λ e. c.if-sign-eq43.false (sign ∙ e)) (λ e. c.if-sign-eq45.false (sign ∙ e)) c.unsigned-2.ensures
