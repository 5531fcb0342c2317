-- What an accepted file is told with, from its parts as they are made. No place of the code is named here. Assumes nothing.
use mathlib.Core.Path.{◌≡◌, refl}
use mathlib.Core.List.{List, [], ◌∷◌}
use Prim.Native.Nat.{ℕ}
use lib.ListN.{get_or}
use Rattle.file_spec.specs.declared.FileTable.{FileTable}
use Rattle.host_numbers.specs.Numbers.{flags, bits, Told}
use Rattle.host_read.specs.Answers.{file_numbers}
use Rattle.std.specs.Prelude.{Result, Ok}
use Rattle.terms.specs.declared.Refusal.{Refusal}

pub tells_accepted : {x : Result FileTable Refusal} {t : FileTable} {f l : ℕ} {ks : List ℕ} → x ≡ Ok t → f ≡ bits t.first → l ≡ bits t.last → ks ≡ flags t.exact
    → Told (file_numbers x) (0 ∷ 0 ∷ 0 ∷ 0 ∷ t.points ∷ f ∷ l ∷ get_or ks 0 0 ∷ get_or ks 1 0 ∷ get_or ks 2 0 ∷ []) 0
tells_accepted o a b c = rw (o, a, b, c) (record { numbers = refl; returned = refl })
