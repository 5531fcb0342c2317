-- `night_totals::with_report` meets its contract: an accepted file is added, a refused one adds nothing.
use mathlib.Core.Path.{refl}
use Rattle.night_spec.specs.Night.{with_report}
use Rattle.night_totals.proofs.with_report.Goals as goal

pub with_file-requires : goal.with_file-requires
with_file-requires c = rw c.in-Ok.is at c.requires

pub returns-in-Err : goal.returns-in-Err
unfolding with_report
returns-in-Err c = rw c.in-Err.is refl

pub returns-in-Ok : goal.returns-in-Ok
unfolding with_report
returns-in-Ok c = rw (c.in-Ok.is, c.with_file.ensures) refl
