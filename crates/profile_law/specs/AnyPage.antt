-- A file that has all fifteen records gets one answer, whatever the page.
use Rattle.std.specs.Prelude.{◌≡◌, false, ℕ, ◌<◌, Some, Ok}
use mathlib.Core.List.{List}
use Rattle.label_spec.specs.Records.{record_for}
use Rattle.profile_spec.specs.Wanted.{kth}
use Rattle.profile_spec.specs.Profile.{ProfileAnswer, refuse_profile, accept_profile}
use Rattle.label_spec.specs.Parts.{span_of}

-- the file has the k-th record, for each k
abbrev pub HasAll : List ℕ → Type 0
HasAll s = (k : ℕ) → k < 15 → (a : ℕ) × (b : ℕ) × (record_for s (kth k).name ≡ Ok (Some (span_of a b)))

-- the answer refuses nothing on the page
abbrev pub in_file : ProfileAnswer → Type 0
in_file (refuse_profile q c a) = q ≡ false
in_file (accept_profile t ys ns) = Unit {0}
