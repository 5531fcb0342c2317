-- `power` meets its contract: an entry of the table is the power that its place says, by the rule of Powers. Assumes nothing.
use Rattle.decimal_spec.specs.Powers.{powers, is_power}
use Rattle.quotient.proofs.power.Goals as goal

pub returns : goal.returns
unfolding powers
returns c = is_power c.args.n c.requires
