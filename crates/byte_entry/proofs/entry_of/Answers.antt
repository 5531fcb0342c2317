-- `byte_entry::entry_of` meets its contract: the entry of a byte, range by range; each byte of a range is tested by computing.
use mathlib.Core.Path.{refl, ap, ◌∙◌}
use Prim.Native.Nat.{◌-◌, ◌<◌}
use native.Mathlib.Omega.{arith}
use Rattle.alphabet_spec.specs.Bytes.{kind}
use Rattle.alphabet_spec.specs.Entries.{entry}
use Rattle.byte_entry.specs.Ranged.{either, ruled}
use borrow.Author.Rules.{rules}
use Rattle.byte_entry.proofs.entry_of.Goals as goal

pub returns-in-115 : goal.returns-in-115
unfolding entry kind
returns-in-115 c = rw c.in-115.is refl

pub returns-in-0-to-10 : goal.returns-in-0-to-10
unfolding entry kind
returns-in-0-to-10 c = c.either.ensures ∙ ruled 0 11 (λ x. either x 10 176 13 192) tt c.args.b (omega arith) (omega arith)

pub returns-in-11-to-32 : goal.returns-in-11-to-32
unfolding entry kind
returns-in-11-to-32 c = c.either-in-11-to-32.ensures ∙ ruled 11 22 (λ x. either x 13 192 32 112) tt c.args.b (omega arith) (omega arith)

pub returns-in-33-to-37 : goal.returns-in-33-to-37
unfolding entry kind
returns-in-33-to-37 c = c.either-in-33-to-37.ensures ∙ ruled 33 5 (λ x. either x 36 208 37 32) tt c.args.b (omega arith) (omega arith)

pub returns-in-38-to-45 : goal.returns-in-38-to-45
unfolding entry kind
returns-in-38-to-45 c = c.either-in-38-to-45.ensures ∙ ruled 38 8 (λ x. either x 43 128 45 144) tt c.args.b (omega arith) (omega arith)

pub returns-in-46-to-47 : goal.returns-in-46-to-47
unfolding entry kind
returns-in-46-to-47 c = c.either-in-46-to-47.ensures ∙ ruled 46 2 (λ x. either x 46 160 63 96) tt c.args.b (omega arith) (omega arith)

pub returns-in-48-to-57 : goal.returns-in-48-to-57
unfolding entry kind
returns-in-48-to-57 c = ap (λ x. x - 48) c.wide.ensures ∙ ruled 48 10 (λ x. x - 48) tt c.args.b (omega arith) (omega arith)

pub returns-in-58-to-63 : goal.returns-in-58-to-63
unfolding entry kind
returns-in-58-to-63 c = c.either-in-58-to-63.ensures ∙ ruled 58 6 (λ x. either x 46 160 63 96) tt c.args.b (omega arith) (omega arith)

pub returns-in-64-to-73 : goal.returns-in-64-to-73
unfolding entry kind
returns-in-64-to-73 c = c.wide-in-64-to-73.ensures ∙ ruled 64 10 (λ x. x) tt c.args.b (omega arith) (omega arith)

pub returns-in-74-to-82 : goal.returns-in-74-to-82
unfolding entry kind
returns-in-74-to-82 c = ap (λ x. x - 41) c.wide-in-74-to-82.ensures ∙ ruled 74 9 (λ x. x - 41) tt c.args.b (omega arith) (omega arith)

pub returns-in-83-to-90 : goal.returns-in-83-to-90
unfolding entry kind
returns-in-83-to-90 c = ap (λ x. x - 66) c.wide-in-83-to-90.ensures ∙ ruled 83 8 (λ x. x - 66) tt c.args.b (omega arith) (omega arith)

pub returns-in-97-to-105 : goal.returns-in-97-to-105
unfolding entry kind
returns-in-97-to-105 c = ap (λ x. x - 16) c.wide-in-97-to-105.ensures ∙ ruled 97 9 (λ x. x - 16) tt c.args.b (omega arith) (omega arith)

pub returns-in-106-to-114 : goal.returns-in-106-to-114
unfolding entry kind
returns-in-106-to-114 c = ap (λ x. x - 57) c.wide-in-106-to-114.ensures ∙ ruled 106 9 (λ x. x - 57) tt c.args.b (omega arith) (omega arith)

pub returns-in_default : goal.returns-in_default
unfolding entry kind
returns-in_default c =
    let b = c.args.b in let l : b < 256 = search rules in
    ruled 91 6 (λ _. 240) tt b (omega (arith, c.in_default.in_default-own.rest)) (omega arith)

pub returns-in_default-2 : goal.returns-in_default-2
unfolding entry kind
returns-in_default-2 c =
    let b = c.args.b in let l : b < 256 = search rules in
    ruled 116 140 (λ _. 240) tt b (omega (arith, c.in_default.in_default-own.rest)) (omega arith)
