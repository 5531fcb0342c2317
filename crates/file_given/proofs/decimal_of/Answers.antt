-- `file_given::decimal_of` meets its contract: a number x stands as x + 10^10 while its limits are looked at.
-- the start, from where both numbers are lifted, and what they are
use mathlib.Core.Path.{◌≡◌}
use native.Mathlib.Omega.{arith}
use mir.Syntax.{w64}
use mir.Facts.{to_z-of_z}
use borrow.Author.Rules.{sfits_of}
use Rattle.frame.specs.Legal.{lifted}
use Rattle.file_write_spec.specs.declared.GivenDecimal.{GivenDecimal}
use Rattle.file_given.proofs.GivenSteps.{small_not, large_not, no_mantissa, no_exponent, given_below, given_above}
use Rattle.file_given.proofs.decimal_of.Goals as goal

pub returns-then-u-le-BELOW_MANTISSAS : goal.returns-then-u-le-BELOW_MANTISSAS
returns-then-u-le-BELOW_MANTISSAS c =
    let given : GivenDecimal = c.args.d in
    let mantissa_is : c.lift-u.result ≡ lifted given.mantissa = rw (to_z-of_z (sfits_of {w = w64} c.struct_told-1.given.0.1)) at c.lift-u.ensures in
    let d = given in
    (no_mantissa d (small_not 1000000000 d.mantissa (omega arith) (rw mantissa_is at c.if-u-le-BELOW_MANTISSAS.true)), tt)

pub returns-then-u-ge-ABOVE_MANTISSAS : goal.returns-then-u-ge-ABOVE_MANTISSAS
returns-then-u-ge-ABOVE_MANTISSAS c =
    let given : GivenDecimal = c.args.d in
    let mantissa_is : c.lift-u.result ≡ lifted given.mantissa = rw (to_z-of_z (sfits_of {w = w64} c.struct_told-1.given.0.1)) at c.lift-u.ensures in
    let d = given in
    (no_mantissa d (large_not 1000000000 d.mantissa (rw mantissa_is at c.if-u-ge-ABOVE_MANTISSAS.true)), tt)

pub returns-then-v-le-BELOW_EXPONENTS : goal.returns-then-v-le-BELOW_EXPONENTS
returns-then-v-le-BELOW_EXPONENTS c =
    let given : GivenDecimal = c.args.d in
    let exponent_is : c.lift-v.result ≡ lifted given.exponent = rw (to_z-of_z (sfits_of {w = w64} c.struct_told-1.given.1.0.1)) at c.lift-v.ensures in
    let d = given in
    (no_exponent d (small_not 100 d.exponent (omega arith) (rw exponent_is at c.if-v-le-BELOW_EXPONENTS.true)), tt)

pub returns-then-v-ge-ABOVE_EXPONENTS : goal.returns-then-v-ge-ABOVE_EXPONENTS
returns-then-v-ge-ABOVE_EXPONENTS c =
    let given : GivenDecimal = c.args.d in
    let exponent_is : c.lift-v.result ≡ lifted given.exponent = rw (to_z-of_z (sfits_of {w = w64} c.struct_told-1.given.1.0.1)) at c.lift-v.ensures in
    let d = given in
    (no_exponent d (large_not 100 d.exponent (rw exponent_is at c.if-v-ge-ABOVE_EXPONENTS.true)), tt)

pub returns-then-u-lt-ZERO : goal.returns-then-u-lt-ZERO
returns-then-u-lt-ZERO c =
    let given : GivenDecimal = c.args.d in
    let mantissa_is : c.lift-u.result ≡ lifted given.mantissa = rw (to_z-of_z (sfits_of {w = w64} c.struct_told-1.given.0.1)) at c.lift-u.ensures in
    let exponent_is : c.lift-v.result ≡ lifted given.exponent = rw (to_z-of_z (sfits_of {w = w64} c.struct_told-1.given.1.0.1)) at c.lift-v.ensures in
    let x = given_below given mantissa_is exponent_is c.if-v-le-BELOW_EXPONENTS.false c.if-v-ge-ABOVE_EXPONENTS.false c.if-u-le-BELOW_MANTISSAS.false c.if-u-lt-ZERO.true in
    (x.0, record { mantissa = x.1; power = x.2 })

pub returns : goal.returns
returns c =
    let given : GivenDecimal = c.args.d in
    let mantissa_is : c.lift-u.result ≡ lifted given.mantissa = rw (to_z-of_z (sfits_of {w = w64} c.struct_told-1.given.0.1)) at c.lift-u.ensures in
    let exponent_is : c.lift-v.result ≡ lifted given.exponent = rw (to_z-of_z (sfits_of {w = w64} c.struct_told-1.given.1.0.1)) at c.lift-v.ensures in
    let x = given_above given mantissa_is exponent_is c.if-v-le-BELOW_EXPONENTS.false c.if-v-ge-ABOVE_EXPONENTS.false c.if-u-lt-ZERO.false c.if-u-ge-ABOVE_MANTISSAS.false in
    (x.0, record { mantissa = x.1; power = x.2 })
