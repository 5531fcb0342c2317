-- What the fifteen records say of a file whose table was checked. Assumes nothing.
use Rattle.std.specs.Prelude.{◌≡◌, false, List, ℕ, Result, Ok, Err, ⊤}
use Rattle.terms.specs.Refusals.{fault_at}
use Rattle.file_tabled.specs.declared.TablePlace.{TablePlace}
use Rattle.profile_spec.specs.Wanted.{wanted}
use Rattle.profile_spec.specs.Profile.{profiled, all_numbers}
use Rattle.profile_spec.specs.declared.Unfit.{Unfit}
use Rattle.profile_judged.specs.declared.PageFault.{PageFault}
use Rattle.profile_judged.specs.Parts.{page_fault}

-- the fault of records that are unfit: 30 stands at END's `##`, 31 at its word
abbrev pub unfit_fault : ℕ → Unfit → PageFault
unfit_fault end Unfit.Lacking = page_fault false (fault_at 30 end)
unfit_fault end (Unfit.Unlisted q a) = page_fault q (fault_at 31 a)

-- what the fifteen records say of a file whose table was checked
abbrev pub checked_by : ℕ → TablePlace → Result ⊤ Unfit → Result TablePlace PageFault
checked_by end k (Ok tt) = Ok k
checked_by end k (Err w) = Err (unfit_fault end w)

pub record ChecksRecords (s : List ℕ) (start end : ℕ) (p : List ℕ) (k : TablePlace) (places : List ℕ) (r : Result TablePlace PageFault) : Type 0 where
  pub is : r ≡ checked_by end k (profiled s start end p)
  pub shows : profiled s start end p ≡ Ok tt → places ≡ all_numbers s start end p wanted
