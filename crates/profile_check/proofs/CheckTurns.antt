-- From what the parts of a file say to what checking a profile says: no place of the code is named here.
use mathlib.Core.Path.{◌≡◌, refl, ◌∙◌}
use mathlib.Core.Bool.{false}
use mathlib.Core.List.{List}
use Prim.Native.Nat.{ℕ, ◌+◌}
use native.Mathlib.Numerals.{add-one}
use Rattle.terms.specs.Logic.{zero_one}
use Rattle.terms.specs.Refusals.{fault_at}
use Rattle.terms.specs.declared.Fault.{Fault}
use Rattle.label_spec.specs.File.{labelled}
use Rattle.label_spec.specs.declared.Span.{Span}
use Rattle.file_spec.specs.Texts.{gathered_from}
use Rattle.file_spec.specs.File.{FileAnswer, refuse_file, accept_file, by_records, read_file}
use Rattle.file_tabled.specs.declared.TablePlace.{TablePlace}
use Rattle.file_body.specs.Checks.{tabled, StageChecks}
use Rattle.file_check.proofs.StageLaws.{labels_refused, labels_placed}
use Rattle.profile_spec.specs.Wanted.{wanted}
use Rattle.profile_spec.specs.Profile.{profiled, all_numbers, refuse_profile, by_profiled, by_profile, by_file, read_profile}
use Rattle.profile_judged.specs.Judged.{checked_by, ChecksRecords}
use Rattle.profile_check.specs.Post.{Checks}
use Rattle.std.specs.Prelude.{Result, Ok, Err, ⊤}
use Rattle.profile_spec.specs.declared.Unfit.{Unfit}
use Rattle.profile_judged.specs.declared.PageFault.{PageFault}
use Rattle.label_spec.specs.Parts.{places_with}
use Rattle.profile_judged.specs.Parts.{page_fault}

module _ (s p : List ℕ) (room : ℕ) (places : List ℕ) where
  refused_file : (c a : ℕ) → read_file s room ≡ refuse_file c a → read_profile s p room ≡ refuse_profile false c a
  unfolding read_profile by_file
  refused_file c a e = rw e refl

  pub check_labels : (f : Fault) → labelled s ≡ Err f → Checks s p room places (Err (page_fault false f))
  check_labels f e = record { says = refused_file f.number f.place (labels_refused s room f e) }

  module _ (m e x : ℕ) (h : labelled s ≡ Ok (places_with m e x)) (b : Span) where
    abbrev Says : Result TablePlace Fault → Type 0
    Says r = StageChecks s room b (by_records s room x (gathered_from s (e + 1) x)) r

    fault_of : (f : Fault) (y : FileAnswer) → Err f ≡ tabled b y → y ≡ refuse_file f.number f.place
    fault_of f (refuse_file c a) g = let z : f ≡ fault_at c a = cc in rw z refl
    fault_of f (accept_file t ys) g = zero_one cc

    pub check_fault : (f : Fault) → Says (Err f) → Checks s p room places (Err (page_fault false f))
    check_fault f g = record { says = refused_file f.number f.place (labels_placed s room m e x h ∙ fault_of f _ g.answers) }

    module _ (k : TablePlace) (g : Says (Ok k)) where
      -- the ordinates of the table
      abbrev Table : FileAnswer → Type 0
      Table y = (ys : List ℕ) × (y ≡ accept_file k.table ys)

      table_of : (y : FileAnswer) → Ok k ≡ tabled b y → Table y
      table_of (refuse_file c a) q = zero_one cc
      table_of (accept_file t ys) q = let z : k ≡ record { table = t; body = b } = cc in (ys, rw z refl)

      ordinates : List ℕ
      ordinates = (table_of (by_records s room x (gathered_from s (e + 1) x)) g.answers).0

      there : by_records s room x (gathered_from s (e + 1) x) ≡ accept_file k.table ordinates
      unfolding ordinates
      there = (table_of (by_records s room x (gathered_from s (e + 1) x)) g.answers).1

      by_profile_lem : read_profile s p room ≡ by_profiled k.table ordinates (all_numbers s (e + 1) x p wanted) x (profiled s (e + 1) x p)
      unfolding read_profile by_file by_profile
      by_profile_lem = rw (labels_placed s room m e x h ∙ there, h, ← add-one e) refl

      pub check_records : (r : Result TablePlace PageFault) → ChecksRecords s (e + 1) x p k places r → Checks s p room places r
      check_records r c = rw c.is (cases (profiled s (e + 1) x p) refl)
        where
          cases : (y : Result ⊤ Unfit) → profiled s (e + 1) x p ≡ y → Checks s p room places (checked_by x k y)
          cases (Ok tt) q =
              record {
                says = record {
                  ordinates = ordinates;
                  is = by_profile_lem ∙ (unfold by_profiled in rw (q, c.shows q) refl);
                  laid = g.laid;
                  leaves = λ out. g.leaves out ∙ rw there refl;
                };
              }
          cases (Err Unfit.Lacking) q = record { says = by_profile_lem ∙ (unfold by_profiled in rw q refl) }
          cases (Err (Unfit.Unlisted d a)) q = record { says = by_profile_lem ∙ (unfold by_profiled in rw q refl) }
