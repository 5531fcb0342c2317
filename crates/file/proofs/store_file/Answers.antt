-- `file::store_file` meets its contract: what the body says in the frame is stored.
use mir.Syntax.{w64}
use mir.Facts.{to_z-of_z}
use borrow.Author.Rules.{sfits_of}
use Rattle.file.proofs.store_file.Goals as goal

pub returns : goal.returns
returns c =
    rw (to_z-of_z (sfits_of {w = w64} c.struct_told-2-1.given.1.0.1), to_z-of_z (sfits_of {w = w64} c.struct_told-2-1.given.1.1.0.1)) at c.store_table.ensures
