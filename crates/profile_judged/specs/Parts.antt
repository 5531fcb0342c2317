-- The fault of a profile, by its parts. Assumes nothing.
use Rattle.std.specs.Prelude.{Bool}
use Rattle.terms.specs.declared.Fault.{Fault}
use Rattle.profile_judged.specs.declared.PageFault.{PageFault}

-- a fault on the page or in the file
abbrev pub page_fault : Bool → Fault → PageFault
page_fault a b = record { page = a; fault = b }
