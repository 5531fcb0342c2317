-- `compound_words::is_link` meets its contract: by the word LINK.
use Rattle.compound_spec.specs.Blocks.{LINK}
use Rattle.compound_words.proofs.is_link.Goals as goal

pub returns : goal.returns
unfolding LINK
returns c = c.is_keyword.ensures
