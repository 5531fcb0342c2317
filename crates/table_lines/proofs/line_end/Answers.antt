-- `table_lines::line_end` meets its contract: what stands at a place whose entry e is a point's or above.
use mathlib.Core.Path.{sym, ◌∙◌}
use Prim.Native.Nat.{◌+◌}
use native.Mathlib.Omega.{arith}
use Rattle.alphabet_spec.proofs.EntryLaws.{entry_in}
use Rattle.table_lines.proofs.LineEnds.{end_over, end_lf, end_cr, end_comment, end_no_cr, end_no_dollar, end_bad}
use Rattle.table_lines.proofs.line_end.Goals as goal

pub returns-then-e-eq-END : goal.returns-then-e-eq-END
returns-then-e-eq-END c = end_over _ _ c.requires.0 (sym c.requires.1 ∙ c.if-e-eq-END.true)

pub returns-then-e-eq-LF : goal.returns-then-e-eq-LF
returns-then-e-eq-LF c = end_lf _ _ (sym c.requires.1 ∙ c.if-e-eq-LF.true)

pub returns-then-entry_at-eq-LF : goal.returns-then-entry_at-eq-LF
returns-then-entry_at-eq-LF c = end_cr _ _ (sym c.requires.1 ∙ c.if-e-eq-CR.true) (sym c.entry_at.ensures ∙ c.if-entry_at-eq-LF.true)

pub returns-then-e-eq-CR : goal.returns-then-e-eq-CR
returns-then-e-eq-CR c = end_no_cr _ _ (sym c.requires.1 ∙ c.if-e-eq-CR.true) (λ x. c.if-entry_at-eq-LF.false (c.entry_at.ensures ∙ x))

pub comment-requires : goal.comment-requires
comment-requires c =
    let e = sym c.entry_at-then-e-eq-DOLLAR.ensures ∙ c.if-entry_at-eq-DOLLAR.true in
    let h = entry_in c.args.s.now (c.args.at + 1) (omega (arith, e)) in
    omega arith

pub returns-then-entry_at-eq-DOLLAR : goal.returns-then-entry_at-eq-DOLLAR
returns-then-entry_at-eq-DOLLAR c =
    end_comment _ _ _ (sym c.requires.1 ∙ c.if-e-eq-DOLLAR.true)
    (sym c.entry_at-then-e-eq-DOLLAR.ensures ∙ c.if-entry_at-eq-DOLLAR.true) c.comment.ensures

pub returns-then-e-eq-DOLLAR : goal.returns-then-e-eq-DOLLAR
returns-then-e-eq-DOLLAR c = end_no_dollar _ _ (sym c.requires.1 ∙ c.if-e-eq-DOLLAR.true) (λ x. c.if-entry_at-eq-DOLLAR.false (c.entry_at-then-e-eq-DOLLAR.ensures ∙ x))

pub returns : goal.returns
returns c =
    let e = c.requires.1 in
    let l = c.requires.2 in
    end_bad c.args.s.now c.args.at (omega (arith, e)) (λ x. c.if-e-eq-END.false (e ∙ x))
    (λ x. c.if-e-eq-LF.false (e ∙ x)) (λ x. c.if-e-eq-CR.false (e ∙ x)) (λ x. c.if-e-eq-DOLLAR.false (e ∙ x))
