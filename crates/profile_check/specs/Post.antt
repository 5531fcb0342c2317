-- What checking a profile ensures. Assumes nothing.
use Rattle.std.specs.Prelude.{◌≡◌, List, ℕ, ℤ, Result, Ok, Err}
use Rattle.table_spec.specs.Reading.{stored}
use Rattle.file_spec.specs.File.{accept_file, stored_file}
use Rattle.file_tabled.specs.declared.TablePlace.{TablePlace}
use Rattle.file_body.specs.Checks.{table_at, Laid}
use Rattle.profile_spec.specs.Profile.{refuse_profile, accept_profile, read_profile}
use Rattle.profile_judged.specs.declared.PageFault.{PageFault}

-- a profile that has no fault: what storing its ordinates asks for and will leave, and the numbers that show its texts
pub record Right (s p : List ℕ) (room : ℕ) (places : List ℕ) (k : TablePlace) : Type 0 where
  pub ordinates : List ℕ
  pub is : read_profile s p room ≡ accept_profile k.table ordinates places
  pub laid : Laid s room k
  pub leaves : (out : List ℤ) → stored out (table_at s room k) ≡ stored_file out (accept_file k.table ordinates)

abbrev pub ChecksIn : List ℕ → List ℕ → ℕ → List ℕ → Result TablePlace PageFault → Type 0
ChecksIn s p room places (Ok k) = Right s p room places k
ChecksIn s p room places (Err x) = read_profile s p room ≡ refuse_profile x.page x.fault.number x.fault.place

pub record Checks (s p : List ℕ) (room : ℕ) (places : List ℕ) (r : Result TablePlace PageFault) : Type 0 where
  pub says : ChecksIn s p room places r
