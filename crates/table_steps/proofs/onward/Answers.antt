-- `table_steps::onward` meets its contract: the way past a short difference, or past the DUP of the last one.
-- where a difference was taken: the start of the code, and the difference
use mathlib.Core.Logic.{⊎_elim}
use Rattle.table_shorts.specs.Short.{ShortAt}
use Rattle.table_steps.proofs.Ways.{dif_turns, dif_high, onward_dif}
use Rattle.table_steps.proofs.onward.Goals as goal

pub turned-u-requires : goal.turned-u-requires
turned-u-requires c =
    let taken : ShortAt c.args.s.now c.args.w.at c.standing_in-b.result c.short-r.result.v c.short-r.result.at = ⊎_elim (λ x. absurd (c.if-r-at.false x)) (λ x. x) c.short-r.ensures in
    dif_turns _ c.requires taken

pub put-requires : goal.put-requires
put-requires c =
    let taken : ShortAt c.args.s.now c.args.w.at c.standing_in-b.result c.short-r.result.v c.short-r.result.at = ⊎_elim (λ x. absurd (c.if-r-at.false x)) (λ x. x) c.short-r.ensures in
    dif_high _ c.requires taken c.turned-u.ensures

pub returns : goal.returns
returns c =
    let taken : ShortAt c.args.s.now c.args.w.at c.standing_in-b.result c.short-r.result.v c.short-r.result.at = ⊎_elim (λ x. absurd (c.if-r-at.false x)) (λ x. x) c.short-r.ensures in
    onward_dif _ c.requires taken c.turned-u.ensures _ _ c.put.ensures
