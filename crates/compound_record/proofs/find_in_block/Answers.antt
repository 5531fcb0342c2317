-- `compound_record::find_in_block` meets its contract: the places, then the block's records.
use mathlib.Core.Path.{sym, ◌∙◌}
use native.Mathlib.Omega.{arith}
use Rattle.label_spec.specs.Names.{norm}
use Rattle.compound_record.proofs.RecordTurns.{in_long, in_outside, in_crossed, in_bare, in_found}
use Rattle.compound_record.proofs.find_in_block.Goals as goal

pub returns-then-file-gt-LONGEST_FILE : goal.returns-then-file-gt-LONGEST_FILE
returns-then-file-gt-LONGEST_FILE c = in_long _ _ _ _ c.if-file-gt-LONGEST_FILE.true _ (rw c.number.ensures at c.refusal_in.ensures)

pub returns-then-end-file : goal.returns-then-end-file
returns-then-end-file c = in_outside _ _ _ _ (omega (arith, c.if-file-gt-LONGEST_FILE.false)) c.if-end-file.true

pub returns-then-from-end : goal.returns-then-from-end
returns-then-from-end c = in_crossed _ _ _ _ (omega (arith, c.if-file-gt-LONGEST_FILE.false)) (omega (arith, c.if-end-file.false)) c.if-from-end.true

pub returns-then-not-is_hashed : goal.returns-then-not-is_hashed
returns-then-not-is_hashed c =
    in_bare _ _ _ _ (omega (arith, c.if-file-gt-LONGEST_FILE.false)) (omega (arith, c.if-end-file.false)) (omega (arith, c.if-from-end.false)) (sym c.is_hashed.ensures ∙
    c.if-not-is_hashed.true)

pub find_from_mark-requires : goal.find_from_mark-requires
find_from_mark-requires c = (sym c.is_hashed.ensures ∙ c.if-not-is_hashed.false, omega (arith, c.if-from-end.false))

pub returns : goal.returns
returns c =
    let found =
    in_found c.args.file.now c.args.from c.args.end (norm c.args.name.now) (omega (arith, c.if-file-gt-LONGEST_FILE.false)) (omega (arith, c.if-end-file.false))
    (omega (arith, c.if-from-end.false)) (sym c.is_hashed.ensures ∙ c.if-not-is_hashed.false) c.find_from_mark.result c.find_from_mark.ensures in
    grind arith
