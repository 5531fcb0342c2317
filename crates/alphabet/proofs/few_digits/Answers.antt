-- `alphabet::few_digits` meets its contract: at most three digits from a place on, without a loop.
-- the run before its first digit
use mathlib.Core.Path.{refl, sym, ◌∙◌}
use Prim.Native.Nat.{◌+◌, ◌-◌, ◌*◌}
use native.Mathlib.Omega.{arith}
use Rattle.alphabet.specs.Ran.{Running, start, stop, Taken, taken, ended}
use Rattle.alphabet.proofs.few_digits.Goals as goal

pub returns-then-not-is_digit : goal.returns-then-not-is_digit
returns-then-not-is_digit c =
    let opened : Running c.args.s.now c.args.from c.args.v 3 c.args.v c.args.from = let l = c.requires.0 in start _ _ _ _ (omega arith) in
    let e = c.standing_in-x.ensures in
    record { run = ended opened e (sym c.is_digit.ensures ∙ c.if-not-is_digit.true); stands = e; grows = omega arith }

pub overflow_sub-one : goal.overflow_sub-one
overflow_sub-one c =
    let opened : Running c.args.s.now c.args.from c.args.v 3 c.args.v c.args.from = let l = c.requires.0 in start _ _ _ _ (omega arith) in
    let one : Taken c.args.s.now c.args.from c.args.v 3 c.args.v c.args.from c.standing_in-x.result = let v = c.requires.1 in
    taken opened c.standing_in-x.ensures (sym c.is_digit.ensures ∙ c.if-not-is_digit.false) (omega arith) (omega arith) in
    one.digit

pub overflow_add-one : goal.overflow_add-one
overflow_add-one c =
    let opened : Running c.args.s.now c.args.from c.args.v 3 c.args.v c.args.from = let l = c.requires.0 in start _ _ _ _ (omega arith) in
    let one : Taken c.args.s.now c.args.from c.args.v 3 c.args.v c.args.from c.standing_in-x.result = let v = c.requires.1 in
    taken opened c.standing_in-x.ensures (sym c.is_digit.ensures ∙ c.if-not-is_digit.false) (omega arith) (omega arith) in
    let f = one.fits in let d = one.small in omega arith

pub returns-then-not-is_digit-2 : goal.returns-then-not-is_digit-2
returns-then-not-is_digit-2 c =
    let opened : Running c.args.s.now c.args.from c.args.v 3 c.args.v c.args.from = let l = c.requires.0 in start _ _ _ _ (omega arith) in
    let one : Taken c.args.s.now c.args.from c.args.v 3 c.args.v c.args.from c.standing_in-x.result = let v = c.requires.1 in
    taken opened c.standing_in-x.ensures (sym c.is_digit.ensures ∙ c.if-not-is_digit.false) (omega arith) (omega arith) in
    let e = c.standing_in-y.ensures in
    record { run = ended one.on e (sym c.is_digit-2.ensures ∙ c.if-not-is_digit-2.true); stands = e; grows = omega arith }

pub overflow_mul-two : goal.overflow_mul-two
overflow_mul-two c =
    let opened : Running c.args.s.now c.args.from c.args.v 3 c.args.v c.args.from = let l = c.requires.0 in start _ _ _ _ (omega arith) in
    let one : Taken c.args.s.now c.args.from c.args.v 3 c.args.v c.args.from c.standing_in-x.result = let v = c.requires.1 in
    taken opened c.standing_in-x.ensures (sym c.is_digit.ensures ∙ c.if-not-is_digit.false) (omega arith) (omega arith) in
    let two : Taken c.args.s.now c.args.from c.args.v 3 (c.args.v * 10 + (c.standing_in-x.result - 48)) (c.args.from + 1) c.standing_in-y.result = let v = c.requires.1 in
    taken one.on c.standing_in-y.ensures (sym c.is_digit-2.ensures ∙ c.if-not-is_digit-2.false) (omega arith) (omega arith) in
    let f = two.fits in omega arith

pub overflow_sub-two : goal.overflow_sub-two
overflow_sub-two c =
    let opened : Running c.args.s.now c.args.from c.args.v 3 c.args.v c.args.from = let l = c.requires.0 in start _ _ _ _ (omega arith) in
    let one : Taken c.args.s.now c.args.from c.args.v 3 c.args.v c.args.from c.standing_in-x.result = let v = c.requires.1 in
    taken opened c.standing_in-x.ensures (sym c.is_digit.ensures ∙ c.if-not-is_digit.false) (omega arith) (omega arith) in
    let two : Taken c.args.s.now c.args.from c.args.v 3 (c.args.v * 10 + (c.standing_in-x.result - 48)) (c.args.from + 1) c.standing_in-y.result = let v = c.requires.1 in
    taken one.on c.standing_in-y.ensures (sym c.is_digit-2.ensures ∙ c.if-not-is_digit-2.false) (omega arith) (omega arith) in
    two.digit

pub overflow_add-two : goal.overflow_add-two
overflow_add-two c =
    let opened : Running c.args.s.now c.args.from c.args.v 3 c.args.v c.args.from = let l = c.requires.0 in start _ _ _ _ (omega arith) in
    let one : Taken c.args.s.now c.args.from c.args.v 3 c.args.v c.args.from c.standing_in-x.result = let v = c.requires.1 in
    taken opened c.standing_in-x.ensures (sym c.is_digit.ensures ∙ c.if-not-is_digit.false) (omega arith) (omega arith) in
    let two : Taken c.args.s.now c.args.from c.args.v 3 (c.args.v * 10 + (c.standing_in-x.result - 48)) (c.args.from + 1) c.standing_in-y.result = let v = c.requires.1 in
    taken one.on c.standing_in-y.ensures (sym c.is_digit-2.ensures ∙ c.if-not-is_digit-2.false) (omega arith) (omega arith) in
    let f = two.fits in let d = two.small in omega arith

pub returns-then-not-is_digit-3 : goal.returns-then-not-is_digit-3
returns-then-not-is_digit-3 c =
    let opened : Running c.args.s.now c.args.from c.args.v 3 c.args.v c.args.from = let l = c.requires.0 in start _ _ _ _ (omega arith) in
    let one : Taken c.args.s.now c.args.from c.args.v 3 c.args.v c.args.from c.standing_in-x.result = let v = c.requires.1 in
    taken opened c.standing_in-x.ensures (sym c.is_digit.ensures ∙ c.if-not-is_digit.false) (omega arith) (omega arith) in
    let two : Taken c.args.s.now c.args.from c.args.v 3 (c.args.v * 10 + (c.standing_in-x.result - 48)) (c.args.from + 1) c.standing_in-y.result = let v = c.requires.1 in
    taken one.on c.standing_in-y.ensures (sym c.is_digit-2.ensures ∙ c.if-not-is_digit-2.false) (omega arith) (omega arith) in
    let e = c.standing_in-z.ensures in
    record { run = ended two.on e (sym c.is_digit-3.ensures ∙ c.if-not-is_digit-3.true); stands = e; grows = omega arith }

pub overflow_mul-three : goal.overflow_mul-three
overflow_mul-three c =
    let opened : Running c.args.s.now c.args.from c.args.v 3 c.args.v c.args.from = let l = c.requires.0 in start _ _ _ _ (omega arith) in
    let one : Taken c.args.s.now c.args.from c.args.v 3 c.args.v c.args.from c.standing_in-x.result = let v = c.requires.1 in
    taken opened c.standing_in-x.ensures (sym c.is_digit.ensures ∙ c.if-not-is_digit.false) (omega arith) (omega arith) in
    let two : Taken c.args.s.now c.args.from c.args.v 3 (c.args.v * 10 + (c.standing_in-x.result - 48)) (c.args.from + 1) c.standing_in-y.result = let v = c.requires.1 in
    taken one.on c.standing_in-y.ensures (sym c.is_digit-2.ensures ∙ c.if-not-is_digit-2.false) (omega arith) (omega arith) in
    let three : let a = c.args in Taken a.s.now a.from a.v 3 ((a.v * 10 + (c.standing_in-x.result - 48)) * 10 + (c.standing_in-y.result - 48)) (a.from + 1 + 1) c.standing_in-z.result = let v = c.requires.1 in
    taken two.on c.standing_in-z.ensures (sym c.is_digit-3.ensures ∙ c.if-not-is_digit-3.false) (omega arith) (omega arith) in
    let f = three.fits in omega arith

pub overflow_sub-three : goal.overflow_sub-three
overflow_sub-three c =
    let opened : Running c.args.s.now c.args.from c.args.v 3 c.args.v c.args.from = let l = c.requires.0 in start _ _ _ _ (omega arith) in
    let one : Taken c.args.s.now c.args.from c.args.v 3 c.args.v c.args.from c.standing_in-x.result = let v = c.requires.1 in
    taken opened c.standing_in-x.ensures (sym c.is_digit.ensures ∙ c.if-not-is_digit.false) (omega arith) (omega arith) in
    let two : Taken c.args.s.now c.args.from c.args.v 3 (c.args.v * 10 + (c.standing_in-x.result - 48)) (c.args.from + 1) c.standing_in-y.result = let v = c.requires.1 in
    taken one.on c.standing_in-y.ensures (sym c.is_digit-2.ensures ∙ c.if-not-is_digit-2.false) (omega arith) (omega arith) in
    let three : let a = c.args in Taken a.s.now a.from a.v 3 ((a.v * 10 + (c.standing_in-x.result - 48)) * 10 + (c.standing_in-y.result - 48)) (a.from + 1 + 1) c.standing_in-z.result = let v = c.requires.1 in
    taken two.on c.standing_in-z.ensures (sym c.is_digit-3.ensures ∙ c.if-not-is_digit-3.false) (omega arith) (omega arith) in
    three.digit

pub overflow_add-three : goal.overflow_add-three
overflow_add-three c =
    let opened : Running c.args.s.now c.args.from c.args.v 3 c.args.v c.args.from = let l = c.requires.0 in start _ _ _ _ (omega arith) in
    let one : Taken c.args.s.now c.args.from c.args.v 3 c.args.v c.args.from c.standing_in-x.result = let v = c.requires.1 in
    taken opened c.standing_in-x.ensures (sym c.is_digit.ensures ∙ c.if-not-is_digit.false) (omega arith) (omega arith) in
    let two : Taken c.args.s.now c.args.from c.args.v 3 (c.args.v * 10 + (c.standing_in-x.result - 48)) (c.args.from + 1) c.standing_in-y.result = let v = c.requires.1 in
    taken one.on c.standing_in-y.ensures (sym c.is_digit-2.ensures ∙ c.if-not-is_digit-2.false) (omega arith) (omega arith) in
    let three : let a = c.args in Taken a.s.now a.from a.v 3 ((a.v * 10 + (c.standing_in-x.result - 48)) * 10 + (c.standing_in-y.result - 48)) (a.from + 1 + 1) c.standing_in-z.result = let v = c.requires.1 in
    taken two.on c.standing_in-z.ensures (sym c.is_digit-3.ensures ∙ c.if-not-is_digit-3.false) (omega arith) (omega arith) in
    let f = three.fits in let d = three.small in omega arith

pub returns : goal.returns
returns c =
    let opened : Running c.args.s.now c.args.from c.args.v 3 c.args.v c.args.from = let l = c.requires.0 in start _ _ _ _ (omega arith) in
    let one : Taken c.args.s.now c.args.from c.args.v 3 c.args.v c.args.from c.standing_in-x.result = let v = c.requires.1 in
    taken opened c.standing_in-x.ensures (sym c.is_digit.ensures ∙ c.if-not-is_digit.false) (omega arith) (omega arith) in
    let two : Taken c.args.s.now c.args.from c.args.v 3 (c.args.v * 10 + (c.standing_in-x.result - 48)) (c.args.from + 1) c.standing_in-y.result = let v = c.requires.1 in
    taken one.on c.standing_in-y.ensures (sym c.is_digit-2.ensures ∙ c.if-not-is_digit-2.false) (omega arith) (omega arith) in
    let three : let a = c.args in Taken a.s.now a.from a.v 3 ((a.v * 10 + (c.standing_in-x.result - 48)) * 10 + (c.standing_in-y.result - 48)) (a.from + 1 + 1) c.standing_in-z.result = let v = c.requires.1 in
    taken two.on c.standing_in-z.ensures (sym c.is_digit-3.ensures ∙ c.if-not-is_digit-3.false) (omega arith) (omega arith) in
    record { run = stop three.on refl (λ x. omega arith); stands = c.standing_in-b.ensures; grows = omega arith }
