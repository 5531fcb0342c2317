-- `label_page::find_on_page` meets its contract: the label that begins the page, or one on a later line.
use mathlib.Core.Path.{sym, ◌∙◌}
use borrow.Author.Rules.{rules}
use Rattle.label_page.proofs.PageTurns.{page_over, page_mark, page_later}
use Rattle.label_page.proofs.find_on_page.Goals as goal

pub returns-then-at-page : goal.returns-then-at-page
returns-then-at-page c = page_over _ _ _ c.past_blanks-at.ensures c.if-at-page.true

pub find_from_mark-requires : goal.find_from_mark-requires
find_from_mark-requires c = (sym c.is_hashed.ensures ∙ c.if-is_hashed.true, search rules)

pub returns-then-is_hashed : goal.returns-then-is_hashed
returns-then-is_hashed c = page_mark _ _ _ c.past_blanks-at.ensures _ c.find_from_mark.ensures

pub returns : goal.returns
returns c = page_later _ _ _ c.past_blanks-at.ensures (search rules) (sym c.is_hashed.ensures ∙ c.if-is_hashed.false) _ c.find_record.ensures
