-- `host_night::lastarunc_next_report` meets its contract: the answer and the progress have the numbers of what the step says.
use mathlib.Core.Path.{refl}
use Rattle.host_night.proofs.TellLaws.{told}
use Rattle.host_night.proofs.lastarunc_next_report.Goals as goal

pub returns-in-Strange : goal.returns-in-Strange
returns-in-Strange c = told (rw (c.in-Strange.is, c.progress_of-p.ensures) at c.report_next.ensures) c.tell_end.ensures.0 c.tell_end.ensures.1 refl

pub returns-in-Over : goal.returns-in-Over
returns-in-Over c = told (rw (c.in-Over.is, c.progress_of-p.ensures) at c.report_next.ensures) c.tell_end-in-Over.ensures.0 c.tell_end-in-Over.ensures.1 refl

pub returns-in-Refused : goal.returns-in-Refused
returns-in-Refused c = told (rw (c.in-Refused.is, c.progress_of-p.ensures) at c.report_next.ensures) c.tell_end-in-Refused.ensures.0 c.tell_end-in-Refused.ensures.1 refl

pub returns-in-File : goal.returns-in-File
returns-in-File c = told (rw (c.in-File.is, c.progress_of-p.ensures) at c.report_next.ensures) c.tell_file.ensures.0 c.tell_file.ensures.1 c.keep.ensures
