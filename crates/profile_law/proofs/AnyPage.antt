-- A file that has all fifteen records gets one answer, whatever the page.
use Rattle.std.specs.Prelude.{◌≡◌, Bool, true, false, ℕ, suc, ◌<◌, length, get_or, Option, Some, None, Result, Ok, Err, ⊤}
use Rattle.std.proofs.Math.Path.{refl}
use Rattle.std.proofs.Common.{sym, ◌∙◌, arith}
use mathlib.Core.List.{List, [], ◌∷◌}
use Rattle.terms.specs.Logic.{pick, zero_one}
use Rattle.label_spec.specs.Labels.{from}
use Rattle.label_spec.specs.File.{labelled}
use Rattle.label_spec.specs.Records.{record_of, as_record}
use Rattle.file_spec.specs.declared.FileTable.{FileTable}
use Rattle.file_spec.specs.File.{FileAnswer, refuse_file, accept_file, read_file}
use Rattle.profile_spec.specs.declared.Shown.{Shown}
use Rattle.profile_spec.specs.Wanted.{Wanted, wanted, kth}
use Rattle.profile_spec.specs.Profile.{placed, located, text_at, listed, word_at, judged, words, present, records, profiled, numbers, all_numbers}
use Rattle.profile_spec.specs.Profile.{by_profiled, by_profile, by_file, read_profile}
use Rattle.profile_law.specs.Fifteen.{long}
use Rattle.profile_law.specs.Titles.{name_untitled, record_after}
use Rattle.profile_law.specs.AnyPage.{HasAll, in_file}
use Rattle.label_spec.specs.declared.Span.{Span}
use Rattle.label_spec.specs.declared.Places.{Places}
use Rattle.terms.specs.declared.Fault.{Fault}
use Rattle.profile_spec.specs.declared.Unfit.{Unfit}
use Rattle.label_spec.specs.Parts.{span_of, places_with}

module _ (s : List ℕ) (start stop : ℕ) where
  -- the record with a name stands in the file
  record Held (w : List ℕ) : Type 0 where
    low : ℕ
    high : ℕ
    is : record_of (length s) stop w (from s start false) ≡ Some (span_of low high)

  abbrev AllHeld : List Wanted → Type 0
  AllHeld [] = Unit {0}
  AllHeld (v ∷ vs) = Held v.name × AllHeld vs

  each : (vs : List Wanted) (d : Wanted) → ((k : ℕ) → k < length vs → Held (get_or vs k d).name) → AllHeld vs
  each [] d h = tt
  each (v ∷ vs) d h = (h 0 (omega arith), each vs d (λ k l. h (suc k) (omega arith)))

  -- where it stands
  abbrev held : {w : List ℕ} → Held w → Shown
  held h = record { page = false; from = h.low; to = h.high }

  -- what they say and the numbers that show them, without a page
  abbrev said_of : (vs : List Wanted) → AllHeld vs → Result ⊤ Unfit
  said_of [] h = Ok tt
  said_of (v ∷ vs) h = pick (listed v.words (text_at s [] (held h.0))) (said_of vs h.1) (Err (Unfit.Unlisted false (word_at s [] (held h.0))))

  abbrev numbers_of : (vs : List Wanted) → AllHeld vs → List ℕ
  numbers_of [] h = []
  numbers_of (v ∷ vs) h = 0 ∷ h.0.low ∷ h.0.high ∷ numbers_of vs h.1

  module _ (p : List ℕ) where
    there : (w : List ℕ) (h : Held w) → located s start stop p w ≡ Some (held h)
    unfolding located placed
    there w h = rw h.is refl

    words_held : (vs : List Wanted) (h : AllHeld vs) → words s start stop p vs ≡ said_of vs h
    unfolding words judged
    words_held [] h = refl
    words_held (v ∷ vs) h = rw (there v.name h.0, words_held vs h.1) refl

    records_held : (vs : List Wanted) (h : AllHeld vs) (r : Result ⊤ Unfit) → records s start stop p vs r ≡ r
    unfolding records present
    records_held [] h r = refl
    records_held (v ∷ vs) h r = rw (there v.name h.0, records_held vs h.1 r) refl

    numbers_held : (vs : List Wanted) (h : AllHeld vs) → all_numbers s start stop p vs ≡ numbers_of vs h
    unfolding all_numbers numbers
    numbers_held [] h = refl
    numbers_held (v ∷ vs) h = rw (there v.name h.0, numbers_held vs h.1) refl

    profiled_held : (h : AllHeld wanted) → profiled s start stop p ≡ said_of wanted h
    unfolding profiled
    profiled_held h = rw (records_held wanted h (words s start stop p wanted)) (words_held wanted h)

  -- no word is refused on the page
  abbrev OnFile : Result ⊤ Unfit → Type 0
  OnFile (Ok tt) = Unit {0}
  OnFile (Err Unfit.Lacking) = Unit {0}
  OnFile (Err (Unfit.Unlisted q a)) = q ≡ false

  pick_file : (t : Bool) (r : Result ⊤ Unfit) (a : ℕ) → OnFile r → OnFile (pick t r (Err (Unfit.Unlisted false a)))
  pick_file true r a h = h
  pick_file false r a h = refl

  said_file : (vs : List Wanted) (h : AllHeld vs) → OnFile (said_of vs h)
  said_file [] h = tt
  said_file (v ∷ vs) h = pick_file (listed v.words (text_at s [] (held h.0))) (said_of vs h.1) (word_at s [] (held h.0)) (said_file vs h.1)

  by_said : (t : FileTable) (ys ns : List ℕ) (r : Result ⊤ Unfit) → OnFile r → in_file (by_profiled t ys ns stop r)
  unfolding by_profiled
  by_said t ys ns (Ok tt) h = tt
  by_said t ys ns (Err Unfit.Lacking) h = refl
  by_said t ys ns (Err (Unfit.Unlisted q a)) h = h

-- ---- from the records of a file, which `label::find` finds

as_text : (f : Option Span) (a b : ℕ) → as_record f ≡ Ok (Some (span_of a b)) → f ≡ Some (span_of a b)
unfolding as_record
as_text (Some x) a b e = cc
as_text None a b e = zero_one cc

all_held : (s : List ℕ) → HasAll s → (m e x : ℕ) → labelled s ≡ Ok (places_with m e x) → AllHeld s (suc e) x wanted
all_held s h m e x l = each s (suc e) x wanted (record { name = []; words = [] }) (λ k i. one k (rw long at i))
  where
    one : (k : ℕ) → k < 15 → Held s (suc e) x (kth k).name
    one k i =
        let y = h k i in
        let r = record_after s m e x l (kth k).name (name_untitled k i) in
        record { low = y.0; high = y.1; is = as_text (record_of (length s) x (kth k).name (from s (suc e) false)) y.0 y.1 (sym r ∙ y.2) }

module _ (s : List ℕ) (h : HasAll s) where
  by_labels : (p q : List ℕ) (t : FileTable) (ys : List ℕ) (l : Result Places Fault) → labelled s ≡ l → (by_profile s p t ys l ≡ by_profile s q t ys l) × in_file (by_profile s p t ys l)
  unfolding by_profile
  by_labels p q t ys (Err r) e = (refl, refl)
  by_labels p q t ys (Ok y) e =
      let a = all_held s h y.title y.eq y.end e in (
        rw (profiled_held s (suc y.eq) y.end p a, profiled_held s (suc y.eq) y.end q a, numbers_held s (suc y.eq) y.end p wanted a, numbers_held s (suc y.eq) y.end q wanted a) refl,
        rw (profiled_held s (suc y.eq) y.end p a) (by_said s (suc y.eq) y.end t ys (all_numbers s (suc y.eq) y.end p wanted) (said_of s (suc y.eq) y.end wanted a) (said_file s (suc y.eq) y.end wanted a)),
      )

  by_file_lem : (p q : List ℕ) (y : FileAnswer) → (by_file s p y ≡ by_file s q y) × in_file (by_file s p y)
  unfolding by_file
  by_file_lem p q (refuse_file c a) = (refl, refl)
  by_file_lem p q (accept_file t ys) = by_labels p q t ys (labelled s) refl

  -- the theorem, and that nothing is refused on the page
  pub any_page : (p q : List ℕ) (room : ℕ) → read_profile s p room ≡ read_profile s q room
  unfolding read_profile
  any_page p q room = (by_file_lem p q (read_file s room)).0

  pub in_file_lem : (p : List ℕ) (room : ℕ) → in_file (read_profile s p room)
  unfolding read_profile
  in_file_lem p room = (by_file_lem p p (read_file s room)).1
