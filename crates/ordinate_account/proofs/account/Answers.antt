-- `ordinate_account::account` meets its contract: what the first n ordinates come to is the account that the plain definition over them gives.
use mathlib.Core.Path.{ap, ◌∙◌}
use mathlib.Core.List.{map}
use lib.ListN.{take}
use Rattle.table_spec.specs.Frame.{ordinate_of}
use Rattle.ordinate_account.specs.Account.{account_from}
use Rattle.ordinate_tally.proofs.TallyLaws.{front_length}
use Rattle.ordinate_account.proofs.MeanLaws.{account_is}
use Rattle.ordinate_account.proofs.account.Goals as goal

pub returns : goal.returns
returns c =
    let a = c.args in let l = take a.n (map ordinate_of a.ys.now) in
    c.account_of.ensures ∙ ap (account_from a.n) c.tally_up-t.ensures.is ∙ account_is a.n l (front_length a.n a.ys.now c.requires.0)
