-- `ordinate_account::account_of` meets its contract: each number of the account from what the ordinates come to.
use mir.Syntax.{w64}
use mir.Facts.{to_z-of_z}
use borrow.Author.Rules.{sfits_of}
use mathlib.Core.Path.{refl}
use Rattle.ordinate_account.specs.Account.{account_from}
use Rattle.ordinate_account.proofs.account_of.Goals as goal

pub returns : goal.returns
unfolding account_from
returns c =
    rw (
      to_z-of_z (sfits_of {w = w64} c.lowered-sum.type_inv),
      c.level_of-lowest.ensures,
      c.level_of-highest.ensures,
      c.lowered-sum.ensures,
      c.level_of-faintest.ensures,
    ) refl
