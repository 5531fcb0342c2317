-- `host_read::tell_place` meets its contract: from where up to where, or absent.
use mathlib.Core.Path.{ap}
use Rattle.std.specs.Prelude.{Option, Ok}
use Rattle.label_spec.specs.declared.Span.{Span}
use Rattle.host_numbers.specs.NumberLaws.{tells}
use Rattle.host_read.specs.Answers.{record_numbers}
use Rattle.host_read.proofs.tell_place.Goals as goal

pub returns-in-Some : goal.returns-in-Some
returns-in-Some c = tells _ (ap (λ (p : Option Span). record_numbers (Ok p)) c.in-Some.is)

pub returns-in-None : goal.returns-in-None
returns-in-None c = tells _ (ap (λ (p : Option Span). record_numbers (Ok p)) c.in-None.is)
