-- `host_read::tell_file` meets its contract: N, F, L and what is exact, or a refusal.
use mathlib.Core.Path.{ap}
use mir.Facts.{to_z-of_z}
use mir.Syntax.{w64}
use borrow.Author.Rules.{sfits_of}
use Rattle.host_numbers.specs.NumberLaws.{tells}
use Rattle.host_read.specs.Answers.{file_numbers}
use Rattle.host_read.proofs.Tellings.{tells_accepted}
use Rattle.host_read.proofs.tell_file.Goals as goal

pub returns-in-Ok : goal.returns-in-Ok
returns-in-Ok c =
    let k = c.struct_told-1.given in let j = c.struct_told-in-Ok-1.given in
    tells_accepted c.in-Ok.is
    (rw (to_z-of_z (sfits_of {w = w64} k.1.0.1)) at c.bits_of-f.ensures) (rw (to_z-of_z (sfits_of {w = w64} j.1.1.0.1)) at c.bits_of-l.ensures)
    c.flags_of.ensures

pub returns-in-Err : goal.returns-in-Err
returns-in-Err c = tells _ (ap file_numbers c.in-Err.is)
