-- `compound_names::met` meets its contract: END, TITLE, an inner label, then the names.
use mathlib.Core.Path.{sym, ◌∙◌}
use Rattle.compound_names.proofs.NameScan.{meet_over, meet_leave, meet_enter, meet_pass, meet_known, meet_other}
use Rattle.compound_names.proofs.met.Goals as goal

pub returns-then-depth-eq0 : goal.returns-then-depth-eq0
returns-then-depth-eq0 c = meet_over _ _ _ (sym c.is_end.ensures ∙ c.if-is_end.true) c.if-depth-eq0.true

pub returns-then-is_end : goal.returns-then-is_end
returns-then-is_end c = meet_leave _ _ _ (sym c.is_end.ensures ∙ c.if-is_end.true) c.if-depth-eq0.false

pub returns-then-is_title : goal.returns-then-is_title
returns-then-is_title c = meet_enter _ _ _ (sym c.is_end.ensures ∙ c.if-is_end.false) (sym c.is_title.ensures ∙ c.if-is_title.true)

pub returns-then-depth-ne0 : goal.returns-then-depth-ne0
returns-then-depth-ne0 c =
    meet_pass _ _ _ (sym c.is_end.ensures ∙ c.if-is_end.false) (sym c.is_title.ensures ∙ c.if-is_title.false) c.if-depth-ne0.true

pub returns-then-same_name : goal.returns-then-same_name
returns-then-same_name c =
    meet_known _ _ _ (sym c.is_end.ensures ∙ c.if-is_end.false) (sym c.is_title.ensures ∙ c.if-is_title.false) c.if-depth-ne0.false (sym c.same_name.ensures ∙ c.if-same_name.true)

pub returns : goal.returns
returns c =
    meet_other _ _ _ (sym c.is_end.ensures ∙ c.if-is_end.false) (sym c.is_title.ensures ∙ c.if-is_title.false) c.if-depth-ne0.false (sym c.same_name.ensures ∙ c.if-same_name.false)
