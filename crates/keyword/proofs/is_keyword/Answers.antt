-- `keyword::is_keyword` meets its contract: blanks, line ends and comments before and after the word.
use mathlib.Core.Path.{◌∙◌}
use Rattle.keyword.proofs.WordTurns.{keyword_no, keyword_yes}
use Rattle.keyword.proofs.is_keyword.Goals as goal

pub returns-then-word_at : goal.returns-then-word_at
returns-then-word_at c =
    keyword_yes _ _ _ _ c.past_space-p.ensures.is (rw c.if-word_at.true at c.word_at.ensures) c.past_space.ensures.is

pub returns-else-word_at : goal.returns-else-word_at
returns-else-word_at c = c.if-word_at.false ∙ keyword_no _ _ _ c.past_space-p.ensures.is (rw c.if-word_at.false at c.word_at.ensures)
