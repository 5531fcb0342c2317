-- `exponent` meets its contract: an exponent or none, by the byte and the sign. Assumes nothing.
use Prim.Native.Nat.{◌+◌}
use mathlib.Core.Path.{sym, ◌∙◌}
use native.Mathlib.Omega.{arith}
use lib.Dec.{lit<}
use Rattle.decimal_power.proofs.Reading.{no_exponent, exponent_plus, exponent_minus, no_sign}
use Rattle.terms.specs.Places.{inside}
use Rattle.decimal_power.proofs.exponent.Goals as goal

pub returns-then-byte_at-ne69 : goal.returns-then-byte_at-ne69
returns-then-byte_at-ne69 c = no_exponent _ _ (λ e. c.if-byte_at-ne69.true (c.byte_at.ensures ∙ e)) c.requires

pub power_digits-requires : goal.power_digits-requires
power_digits-requires c =
    let plus = sym c.byte_at-sign.ensures ∙ c.if-sign-eq43.true in
    omega (arith, inside c.args.s.now (c.args.at + 1) 43 plus (lit< tt))

pub returns-then-sign-eq43 : goal.returns-then-sign-eq43
returns-then-sign-eq43 c =
    let e = sym c.byte_at.ensures ∙ c.if-byte_at-ne69.false in
    let plus = sym c.byte_at-sign.ensures ∙ c.if-sign-eq43.true in
    exponent_plus _ _ e plus _ c.power_digits.ensures

pub power_digits-requires-then-sign-eq45 : goal.power_digits-requires-then-sign-eq45
power_digits-requires-then-sign-eq45 c =
    let minus = sym c.byte_at-sign.ensures ∙ c.if-sign-eq45.true in
    omega (arith, inside c.args.s.now (c.args.at + 1) 45 minus (lit< tt))

pub returns-then-sign-eq45 : goal.returns-then-sign-eq45
returns-then-sign-eq45 c =
    let e = sym c.byte_at.ensures ∙ c.if-byte_at-ne69.false in
    let sign = c.byte_at-sign.ensures in
    exponent_minus _ _ e (λ q. c.if-sign-eq43.false (sign ∙ q)) (sym sign ∙ c.if-sign-eq45.true) _ c.power_digits-then-sign-eq45.ensures

pub returns : goal.returns
returns c =
    let e = sym c.byte_at.ensures ∙ c.if-byte_at-ne69.false in
    let sign = c.byte_at-sign.ensures in
    no_sign _ _ e (λ q. c.if-sign-eq43.false (sign ∙ q)) (λ q. c.if-sign-eq45.false (sign ∙ q))
