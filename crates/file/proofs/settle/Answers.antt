-- `file::settle` meets its contract: a fault is handed on with nothing stored, a table with its ordinates.
use Rattle.std.proofs.lemmas.Result.{err_from_is_err_and}
use mathlib.Core.Path.{refl}
use Rattle.file.proofs.settle.Goals as goal

pub store_file-requires : goal.store_file-requires
store_file-requires c = rw c.in_ok-k.was at c.requires

pub returns-in_err-k : goal.returns-in_err-k
returns-in_err-k c =
    let p = err_from_is_err_and c.from_residual.result c.from_residual.ensures.1 in rw (p.1, p.2) (rw c.in_err-k.was (refl, refl))

pub returns : goal.returns
returns c = rw c.in_ok-k.was (refl, c.store_file.ensures)
