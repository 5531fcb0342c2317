-- From what checking says to what reading a profile says: no place of the code is named here.
use mathlib.Core.Path.{◌≡◌, refl, ◌∙◌}
use mathlib.Core.Bool.{Bool}
use mathlib.Core.List.{List}
use Prim.Native.Nat.{ℕ}
use lib.IntN.{ℤ}
use lib.ListN.{length}
use lib.Seq.{sets}
use Rattle.terms.specs.declared.Fault.{Fault}
use Rattle.table_spec.specs.Reading.{stored}
use Rattle.file_tabled.specs.declared.TablePlace.{TablePlace}
use Rattle.file_body.specs.Checks.{table_at}
use Rattle.profile_spec.specs.Profile.{refuse_profile, told_profile}
use Rattle.profile_check.specs.Post.{Checks}
use Rattle.profile.specs.Answers.{ProfileSays}
use Rattle.std.specs.Prelude.{Result, Ok, Err}
use Rattle.profile_spec.specs.declared.PageRefusal.{PageRefusal}
use Rattle.file_spec.specs.declared.FileTable.{FileTable}
use Rattle.profile_judged.specs.Parts.{page_fault}

module _ (s p : List ℕ) (out : List ℤ) (ns places : List ℕ) where
  pub read_refused : (q : Bool) (f : Fault) → Checks s p (length out) places (Err (page_fault q f))
      → (r : Result FileTable PageRefusal) → r ≡ told_profile s p (refuse_profile q f.number f.place) → ProfileSays s p out out ns ns r
  read_refused q f c r e = record { answers = e ∙ rw c.says refl; leaves = rw c.says refl; shows = rw c.says refl }

  pub read_right : (k : TablePlace) → Checks s p (length out) places (Ok k) → (out' : List ℤ) → out' ≡ stored out (table_at s (length out) k)
      → (ns' : List ℕ) → ns' ≡ sets ns 0 places → ProfileSays s p out out' ns ns' (Ok k.table)
  read_right k c out' eo ns' en =
      record { answers = rw c.says.is refl; leaves = eo ∙ c.says.leaves out ∙ rw c.says.is refl; shows = en ∙ rw c.says.is refl }
