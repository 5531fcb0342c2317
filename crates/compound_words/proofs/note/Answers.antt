-- `compound_words::note` meets its contract: field by field.
use mathlib.Core.Path.{refl}
use Rattle.compound_words.specs.Post.{note_of}
use Rattle.compound_words.proofs.note.Goals as goal

pub returns : goal.returns
unfolding note_of
returns c =
    rw (c.either-link.ensures, c.either-table.ensures, c.blocks_of-blocks.ensures, c.says_link.ensures, c.is_table.ensures) refl
