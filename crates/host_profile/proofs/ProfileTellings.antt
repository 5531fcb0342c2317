-- From what the library answers of a profile to what a C host is told. No place of the code is named here. Assumes nothing.
use mathlib.Core.Path.{◌≡◌, refl, ap}
use mathlib.Core.Bool.{Bool}
use mathlib.Core.List.{List, [], ◌∷◌}
use Prim.Native.Nat.{ℕ}
use lib.IntN.{ℤ}
use lib.ListN.{length, get_or}
use Rattle.terms.specs.Logic.{zero_one, err_same}
use Rattle.terms.specs.declared.Refusal.{Refusal}
use Rattle.file_spec.specs.declared.FileTable.{FileTable}
use Rattle.profile_spec.specs.Profile.{ProfileAnswer, refuse_profile, accept_profile, read_profile, told_profile}
use Rattle.profile.specs.Answers.{ProfileSays}
use Rattle.host_numbers.specs.Numbers.{refused_of, flag, flags, bits}
use Rattle.host_profile.specs.Answers.{profile_answer, ProfileTold}
use Rattle.std.specs.Prelude.{Ok, Err}
use Rattle.profile_spec.specs.Parts.{page_refusal}

accepted : (s p : List ℕ) (x : ProfileAnswer) {t : FileTable} → Ok t ≡ told_profile s p x
    → 0 ∷ 0 ∷ 0 ∷ 0 ∷ t.points ∷ bits t.first ∷ bits t.last ∷ flag t.exact.first ∷ flag t.exact.last ∷ flag t.exact.firsty ∷ 0 ∷ [] ≡ profile_answer s p x
accepted s p (refuse_profile q c a) e = zero_one cc
accepted s p (accept_profile x ys ns) {t} e = let z : t ≡ x = cc in rw z refl

refused : (s p : List ℕ) (x : ProfileAnswer) {q : Bool} {r : Refusal} → Err (page_refusal q r) ≡ told_profile s p x
    → r.number ∷ r.place ∷ r.line ∷ r.column ∷ 0 ∷ 0 ∷ 0 ∷ 0 ∷ 0 ∷ 0 ∷ flag q ∷ [] ≡ profile_answer s p x
refused s p (accept_profile t ys ns) e = zero_one cc
refused s p (refuse_profile d c a) {q} {r} e = let z = ap (λ x. x.refusal) (err_same e) in let y = ap (λ x. x.page) (err_same e) in rw (z, y) refl

module _ {file page : List ℕ} {out out' : List ℤ} {ns ns' : List ℕ} where
  pub told_profile_lem : {t : FileTable} {f l : ℕ} {ks : List ℕ} → ProfileSays file page out out' ns ns' (Ok t) → f ≡ bits t.first → l ≡ bits t.last → ks ≡ flags t.exact
      → ProfileTold file page out out' ns ns' (0 ∷ 0 ∷ 0 ∷ 0 ∷ t.points ∷ f ∷ l ∷ get_or ks 0 0 ∷ get_or ks 1 0 ∷ get_or ks 2 0 ∷ 0 ∷ []) 0
  told_profile_lem g a b c =
      let z = accepted file page (read_profile file page (length out)) g.answers in
      record { numbers = rw (a, b, c) z; returned = ap refused_of z; leaves = g.leaves; shows = g.shows }

  pub told_fault : {q : Bool} {r : Refusal} {k : ℕ} → ProfileSays file page out out' ns ns' (Err (page_refusal q r)) → k ≡ flag q
      → ProfileTold file page out out' ns ns' (r.number ∷ r.place ∷ r.line ∷ r.column ∷ 0 ∷ 0 ∷ 0 ∷ 0 ∷ 0 ∷ 0 ∷ k ∷ []) r.number
  told_fault g h =
      let z = refused file page (read_profile file page (length out)) g.answers in
      record { numbers = rw h z; returned = ap refused_of z; leaves = g.leaves; shows = g.shows }
