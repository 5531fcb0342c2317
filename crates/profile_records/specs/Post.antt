-- What the functions on the records of the profile ensure besides the definitions of profile_spec. Assumes nothing.
use Rattle.std.specs.Prelude.{◌≡◌, List, ℕ, ◌+◌, ◌-◌, take, drop, Result, Ok, Err, ⊤}
use Rattle.terms.specs.Logic.{pick}
use Rattle.label_spec.specs.Space.{past_space}
use Rattle.profile_spec.specs.declared.Shown.{Shown}
use Rattle.profile_spec.specs.Wanted.{wanted}
use Rattle.profile_spec.specs.Profile.{listed, profiled, all_numbers}
use Rattle.profile_spec.specs.declared.Unfit.{Unfit}

-- what a record says by itself, whose text stands in s
unfoldable pub judged_in : List ℕ → Shown → List (List ℕ) → Result ⊤ Unfit
judged_in s x ws =
    pick (listed ws (take (x.to - x.from) (drop x.from s))) (Ok tt) (Err (Unfit.Unlisted x.page (x.from + past_space (take (x.to - x.from) (drop x.from s)) 0)))

-- what some records say before others
unfoldable pub after : Result ⊤ Unfit → Result ⊤ Unfit → Result ⊤ Unfit
after (Ok tt) r = r
after (Err w) r = Err w

-- what the fifteen records say, and the numbers that show them where nothing is wrong
pub record Surveys (s : List ℕ) (start stop : ℕ) (p : List ℕ) (places : List ℕ) (r : Result ⊤ Unfit) : Type 0 where
  pub is : r ≡ profiled s start stop p
  pub shows : r ≡ Ok tt → places ≡ all_numbers s start stop p wanted
