-- The refusal of a profile, by its parts. Assumes nothing.
use Rattle.std.specs.Prelude.{Bool}
use Rattle.terms.specs.declared.Refusal.{Refusal}
use Rattle.profile_spec.specs.declared.PageRefusal.{PageRefusal}

-- a refusal on the page or in the file
abbrev pub page_refusal : Bool → Refusal → PageRefusal
page_refusal a b = record { page = a; refusal = b }
