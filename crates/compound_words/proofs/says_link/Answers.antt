-- `compound_words::says_link` meets its contract: by the name, then the text.
use mathlib.Core.Path.{refl, sym, ◌∙◌}
use Rattle.compound_words.proofs.says_link.Goals as goal

pub returns-then-not-is_data_type : goal.returns-then-not-is_data_type
returns-then-not-is_data_type c = rw (sym c.is_data_type.ensures ∙ c.if-not-is_data_type.true) refl

pub returns : goal.returns
returns c = rw (sym c.is_data_type.ensures ∙ c.if-not-is_data_type.false) c.is_link.ensures
