-- What the plain reader refuses, the profile's refuses so; and what it accepts, the plain reader accepts with the same table and ordinates.
use Rattle.std.specs.Prelude.{◌≡◌, false, List, ℕ, suc, Result, Ok, Err, ⊤}
use Rattle.std.proofs.Math.Path.{refl}
use Rattle.terms.specs.Logic.{zero_one}
use Rattle.label_spec.specs.File.{labelled}
use Rattle.file_spec.specs.declared.FileTable.{FileTable}
use Rattle.file_spec.specs.File.{FileAnswer, refuse_file, accept_file, read_file}
use Rattle.profile_spec.specs.Wanted.{wanted}
use Rattle.profile_spec.specs.Profile.{profiled, all_numbers, refuse_profile, accept_profile, by_profiled, by_profile, by_file, read_profile}
use Rattle.label_spec.specs.declared.Places.{Places}
use Rattle.terms.specs.declared.Fault.{Fault}
use Rattle.profile_spec.specs.declared.Unfit.{Unfit}
use Rattle.label_spec.specs.Parts.{places_with}

pub refused_as_file : (s p : List ℕ) (room c a : ℕ) → read_file s room ≡ refuse_file c a → read_profile s p room ≡ refuse_profile false c a
unfolding read_profile by_file
refused_as_file s p room c a e = rw e refl

-- an accepted profile: its file's labels, its records, and the numbers that show them
pub record Accepted (s p : List ℕ) (room : ℕ) (t : FileTable) (ys ns : List ℕ) : Type 0 where
  pub file : read_file s room ≡ accept_file t ys
  pub title : ℕ
  pub eq : ℕ
  pub end : ℕ
  pub labels : labelled s ≡ Ok (places_with title eq end)
  pub right : profiled s (suc eq) end p ≡ Ok tt
  pub numbers : ns ≡ all_numbers s (suc eq) end p wanted

module _ (s p : List ℕ) (room : ℕ) (t : FileTable) (ys ns : List ℕ) where
  by_said : (u : FileTable) (vs ms : List ℕ) (stop : ℕ) (r : Result ⊤ Unfit) → by_profiled u vs ms stop r ≡ accept_profile t ys ns → (u ≡ t) × (vs ≡ ys) × (ms ≡ ns) × (r ≡ Ok tt)
  unfolding by_profiled
  by_said u vs ms stop (Ok tt) e = (cc, cc, cc, refl)
  by_said u vs ms stop (Err Unfit.Lacking) e = zero_one cc
  by_said u vs ms stop (Err (Unfit.Unlisted q a)) e = zero_one cc

  by_labels : (u : FileTable) (vs : List ℕ) → read_file s room ≡ accept_file u vs → (l : Result Places Fault) → labelled s ≡ l → by_profile s p u vs l ≡ accept_profile t ys ns → Accepted s p room t ys ns
  unfolding by_profile
  by_labels u vs f (Err r) h e = zero_one cc
  by_labels u vs f (Ok y) h e =
      let z = by_said u vs (all_numbers s (suc y.eq) y.end p wanted) y.end (profiled s (suc y.eq) y.end p) e in
      record { file = rw (z.0, z.1) at f; title = y.title; eq = y.eq; end = y.end; labels = h; right = z.3; numbers = rw z.2 refl }

  by_answer : (y : FileAnswer) → read_file s room ≡ y → by_file s p y ≡ accept_profile t ys ns → Accepted s p room t ys ns
  unfolding by_file
  by_answer (refuse_file c a) f e = zero_one cc
  by_answer (accept_file u vs) f e = by_labels u vs f (labelled s) refl e

  pub accepted_as_file : read_profile s p room ≡ accept_profile t ys ns → Accepted s p room t ys ns
  unfolding read_profile
  accepted_as_file e = by_answer (read_file s room) refl e
