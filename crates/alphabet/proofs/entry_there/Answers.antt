-- `alphabet::entry_there` meets its contract: the entry of what stands at a place.
use mathlib.Core.Path.{◌≡◌, sym, ◌∙◌}
use mathlib.Core.Bool.{true}
use Rattle.alphabet_spec.specs.Digits.{within}
use Rattle.alphabet.specs.Standing.{within_in, digit_stands}
use Rattle.alphabet.proofs.entry_there.Goals as goal

pub overflow_sub-result : goal.overflow_sub-result
overflow_sub-result c =
    let digit : within 48 10 c.standing-b.result ≡ true = sym c.is_digit.ensures ∙ c.if-is_digit.true in
    (within_in 48 10 _ digit).0

pub returns-then-is_digit : goal.returns-then-is_digit
returns-then-is_digit c =
    let digit : within 48 10 c.standing-b.result ≡ true = sym c.is_digit.ensures ∙ c.if-is_digit.true in
    let e = c.standing-b.ensures in rw e (sym (digit_stands _ _ (rw e at digit)).1)
