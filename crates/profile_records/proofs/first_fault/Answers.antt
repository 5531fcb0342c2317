-- `profile_records::first_fault` meets its contract: a fault of the records before stands, else what the next one says counts.
use mathlib.Core.Path.{refl}
use Rattle.std.proofs.lemmas.Result.{err_from_is_err_and}
use Rattle.profile_records.specs.Post.{after}
use Rattle.profile_records.proofs.first_fault.Goals as goal

pub returns-in_err-said : goal.returns-in_err-said
unfolding after
returns-in_err-said c =
    let p = err_from_is_err_and c.from_residual.result c.from_residual.ensures.1 in rw (p.1, p.2) (rw c.in_err-said.was refl)

pub returns : goal.returns
unfolding after
returns c = rw c.in_ok-said.was refl
