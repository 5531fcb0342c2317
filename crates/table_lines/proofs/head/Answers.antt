-- `table_lines::head` meets its contract: the head at a place whose entry is e.
-- the start of the code, from where the digits are read, and where they begin
use mathlib.Core.Logic.{⊎_elim, inl, inr}
use native.Mathlib.Omega.{arith}
use Rattle.alphabet.specs.Standing.{digit_seen, digit_seen_not}
use Rattle.table_lines.proofs.HeadLaws.{From, head_small, head_long, head_alone, head_headed}
use Rattle.table_lines.proofs.head.Goals as goal
use Rattle.table_lines.proofs.head.Goals.{then-e-lt-PLUS, else-e-lt-PLUS}

pub digits-w-requires : goal.digits-w-requires
digits-w-requires c =
    let begin : From c.args.at c.args.e c.if-e-lt-PLUS.from = elim c.if-e-lt-PLUS.branch [ then-e-lt-PLUS w ↦ inl (w.if-e-lt-PLUS.true, w.from-is) | else-e-lt-PLUS w ↦ inr (w.if-e-lt-PLUS.false, w.from-is) ] in
    let l = c.requires.inside in (⊎_elim (λ x. let y = x.1 in omega arith) (λ x. let y = x.1 in omega arith) begin, omega arith)

pub returns-then-is_digit : goal.returns-then-is_digit
returns-then-is_digit c =
    let begin : From c.args.at c.args.e c.if-e-lt-PLUS.from = elim c.if-e-lt-PLUS.branch [ then-e-lt-PLUS w ↦ inl (w.if-e-lt-PLUS.true, w.from-is) | else-e-lt-PLUS w ↦ inr (w.if-e-lt-PLUS.false, w.from-is) ] in
    let d = c.digits-w.ensures in
    head_long _ _ _ c.requires begin d.0 (digit_seen _ _ d.1 c.is_digit.ensures c.if-is_digit.true)

pub returns-then-w-from : goal.returns-then-w-from
returns-then-w-from c =
    let begin : From c.args.at c.args.e c.if-e-lt-PLUS.from = elim c.if-e-lt-PLUS.branch [ then-e-lt-PLUS w ↦ inl (w.if-e-lt-PLUS.true, w.from-is) | else-e-lt-PLUS w ↦ inr (w.if-e-lt-PLUS.false, w.from-is) ] in
    head_alone _ _ _ c.requires begin c.digits-w.ensures.0 c.if-w-from.true

pub fraction-requires : goal.fraction-requires
fraction-requires c =
    let begin : From c.args.at c.args.e c.if-e-lt-PLUS.from = elim c.if-e-lt-PLUS.branch [ then-e-lt-PLUS w ↦ inl (w.if-e-lt-PLUS.true, w.from-is) | else-e-lt-PLUS w ↦ inr (w.if-e-lt-PLUS.false, w.from-is) ] in
    let d = c.digits-w.ensures in
    (d.0.high, d.1, head_small _ _ _ c.requires begin d.0, digit_seen_not _ _ d.1 c.is_digit.ensures c.if-is_digit.false)

pub returns : goal.returns
returns c =
    let begin : From c.args.at c.args.e c.if-e-lt-PLUS.from = elim c.if-e-lt-PLUS.branch [ then-e-lt-PLUS w ↦ inl (w.if-e-lt-PLUS.true, w.from-is) | else-e-lt-PLUS w ↦ inr (w.if-e-lt-PLUS.false, w.from-is) ] in
    let d = c.digits-w.ensures in
    head_headed _ _ _ c.requires begin d.0 (digit_seen_not _ _ d.1 c.is_digit.ensures c.if-is_digit.false) c.if-w-from.false c.fraction.result c.fraction.ensures
