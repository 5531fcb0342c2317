-- `host_profile::lastarunc_read_profile` meets its contract: the answer has the numbers of what `read_profile` says.
use mir.Facts.{to_z-of_z}
use mir.Syntax.{w64}
use borrow.Author.Rules.{sfits_of}
use Rattle.host_profile.proofs.ProfileTellings.{told_profile_lem, told_fault}
use Rattle.host_profile.proofs.lastarunc_read_profile.Goals as goal

pub returns-in-Ok : goal.returns-in-Ok
returns-in-Ok c =
    told_profile_lem (rw c.in-Ok.is at c.read_profile.ensures)
    (rw (to_z-of_z (sfits_of {w = w64} c.struct_told-1.given.1.0.1)) at c.bits_of-f.ensures) (rw (to_z-of_z (sfits_of {w = w64} c.struct_told-in-Ok-1.given.1.1.0.1)) at c.bits_of-l.ensures)
    c.flags_of.ensures

pub returns-in-Err : goal.returns-in-Err
returns-in-Err c = told_fault (rw c.in-Err.is at c.read_profile.ensures) c.flag_of-on_page.ensures
