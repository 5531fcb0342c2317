-- From what the fifteen records say to what is answered: no place of the code is named here.
use mathlib.Core.Path.{◌≡◌, ap, ◌∙◌}
use mathlib.Core.List.{List}
use Prim.Native.Nat.{ℕ}
use Rattle.file_tabled.specs.declared.TablePlace.{TablePlace}
use Rattle.profile_records.specs.Post.{Surveys}
use Rattle.profile_judged.specs.Judged.{checked_by, ChecksRecords}
use Rattle.std.specs.Prelude.{Result, ⊤}
use Rattle.profile_spec.specs.declared.Unfit.{Unfit}
use Rattle.profile_judged.specs.declared.PageFault.{PageFault}

pub records_checked : (s : List ℕ) (start end : ℕ) (p : List ℕ) (k : TablePlace) (places : List ℕ) (x : Result ⊤ Unfit) → Surveys s start end p places x
    → (r : Result TablePlace PageFault) → r ≡ checked_by end k x → ChecksRecords s start end p k places r
records_checked s start end p k places x h r e = record { is = e ∙ ap (checked_by end k) h.is; shows = λ g. h.shows (h.is ∙ g) }
