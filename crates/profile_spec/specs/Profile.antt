-- 02, T-09: what a profile says, after all that its file says. 30 and 31 come after 29, every 30 before any 31, in 001's order of labels. Assumes nothing.
use Rattle.std.specs.Prelude.{Bool, true, false, List, [], ◌∷◌, ℕ, suc, ◌+◌, ◌-◌, length, take, drop, Option, Some, None, Result, Ok, Err, ⊤}
use Rattle.std.proofs.lemmas.List.Edits.{sets}
use Rattle.terms.specs.Logic.{pick}
use Rattle.terms.specs.Refusals.{refusal_in}
use Rattle.label_spec.specs.Labels.{from}
use Rattle.label_spec.specs.Space.{past_space}
use Rattle.label_spec.specs.Records.{record_of}
use Rattle.label_spec.specs.File.{labelled}
use Rattle.keyword_spec.specs.Keywords.{is_word}
use Rattle.file_spec.specs.declared.FileTable.{FileTable}
use Rattle.file_spec.specs.File.{FileAnswer, refuse_file, accept_file, read_file}
use Rattle.profile_spec.specs.declared.Shown.{Shown}
use Rattle.profile_spec.specs.Wanted.{Wanted, wanted}
use Rattle.label_spec.specs.declared.Span.{Span}
use Rattle.label_spec.specs.declared.Places.{Places}
use Rattle.terms.specs.declared.Fault.{Fault}
use Rattle.terms.specs.declared.Refusal.{Refusal}
use Rattle.profile_spec.specs.declared.PageRefusal.{PageRefusal}
use Rattle.profile_spec.specs.declared.Unfit.{Unfit}
use Rattle.profile_spec.specs.Parts.{page_refusal}

-- ---- "a record's text is taken from the file if it has one, otherwise from the site's page lent beside it"

-- "The site's page is a run of records without TITLE or END": all of it is looked through, from a label that may begin it on, and "of two with one name the first counts"
unfoldable pub on_page : List ℕ → List ℕ → Option Span
on_page p w = record_of (length p) (length p) w (from p 0 true)

-- a text that was found, on the page or not; otherwise the other
unfoldable pub placed : Bool → Option Span → Option Shown → Option Shown
placed q (Some x) l = Some (record { page = q; from = x.from; to = x.to })
placed q None l = l

-- the record with the name w, among the labels of the file s from the place start on and before END's at stop, or on the page p
unfoldable pub located : List ℕ → ℕ → ℕ → List ℕ → List ℕ → Option Shown
located s start stop p w = placed false (record_of (length s) stop w (from s start false)) (placed true (on_page p w) None)

-- the one of the two in which a text stands
abbrev pub source : List ℕ → List ℕ → Bool → List ℕ
source s p q = pick q p s

-- the text of a record
abbrev pub text_at : List ℕ → List ℕ → Shown → List ℕ
text_at s p x = take (x.to - x.from) (drop x.from (source s p x.page))

-- ---- "Keywords are compared byte for byte, blanks and comments around them dropped"

unfoldable pub any_word : List (List ℕ) → List ℕ → Bool
any_word [] t = false
any_word (w ∷ ws) t = pick (is_word w t) true (any_word ws t)

-- is the text t one of the listed words? Where none is listed, any text will do.
abbrev pub listed : List (List ℕ) → List ℕ → Bool
listed [] t = true
listed (w ∷ ws) t = any_word (w ∷ ws) t

-- "at the word, or record end if none": the first byte of a text that is no blank, line end or comment, counted where the text stands
abbrev pub word_at : List ℕ → List ℕ → Shown → ℕ
word_at s p x = x.from + past_space (text_at s p x) 0

-- ---- what a record says by itself, with what the others say

-- 31: its word is unlisted, in the file s or on the page p
unfoldable pub judged : List ℕ → List ℕ → List (List ℕ) → Option Shown → Result ⊤ Unfit → Result ⊤ Unfit
judged s p ws (Some x) r = pick (listed ws (text_at s p x)) r (Err (Unfit.Unlisted x.page (word_at s p x)))
judged s p ws None r = r

-- 30: it is absent from both
unfoldable pub present : Option Shown → Result ⊤ Unfit → Result ⊤ Unfit
present (Some x) r = r
present None r = Err Unfit.Lacking

-- "shown where it stands": three numbers, whether it is on the page, and from where up to where its text stands
unfoldable pub numbers : Option Shown → List ℕ → List ℕ
numbers (Some x) ns = pick x.page 1 0 ∷ x.from ∷ x.to ∷ ns
numbers None ns = 0 ∷ 0 ∷ 0 ∷ ns

-- ---- what the records say, in a file s whose own stand from the place start on and before END's `##` at stop, with a page p

module _ (s : List ℕ) (start stop : ℕ) (p : List ℕ) where
  unfoldable pub words : List Wanted → Result ⊤ Unfit
  words [] = Ok tt
  words (v ∷ vs) = judged s p v.words (located s start stop p v.name) (words vs)

  unfoldable pub records : List Wanted → Result ⊤ Unfit → Result ⊤ Unfit
  records [] r = r
  records (v ∷ vs) r = present (located s start stop p v.name) (records vs r)

  -- every 30 before any 31
  unfoldable pub profiled : Result ⊤ Unfit
  profiled = records wanted (words wanted)

  unfoldable pub all_numbers : List Wanted → List ℕ
  all_numbers [] = []
  all_numbers (v ∷ vs) = numbers (located s start stop p v.name) (all_numbers vs)

-- ---- what reading a profile answers

-- a refusal, whether it is on the page, its number and place; or the table, the ordinates, and the numbers that show the fifteen texts
pub data ProfileAnswer : Type 0 where
  refuse_profile : Bool → ℕ → ℕ → ProfileAnswer
  accept_profile : FileTable → List ℕ → List ℕ → ProfileAnswer

-- 30 stands at END's `##`, in the file
unfoldable pub by_profiled : FileTable → List ℕ → List ℕ → ℕ → Result ⊤ Unfit → ProfileAnswer
by_profiled t ys ns stop (Ok tt) = accept_profile t ys ns
by_profiled t ys ns stop (Err Unfit.Lacking) = refuse_profile false 30 stop
by_profiled t ys ns stop (Err (Unfit.Unlisted q a)) = refuse_profile q 31 a

-- the records of the profile, in an accepted file whose labels say this
unfoldable pub by_profile : List ℕ → List ℕ → FileTable → List ℕ → Result Places Fault → ProfileAnswer
by_profile s p t ys (Ok y) = by_profiled t ys (all_numbers s (suc y.eq) y.end p wanted) y.end (profiled s (suc y.eq) y.end p)
by_profile s p t ys (Err r) = refuse_profile false r.number r.place

-- what the plain reader refuses is refused so
unfoldable pub by_file : List ℕ → List ℕ → FileAnswer → ProfileAnswer
by_file s p (refuse_file c a) = refuse_profile false c a
by_file s p (accept_file t ys) = by_profile s p t ys (labelled s)

-- what reading the file s with the page p answers, with room for so many ordinates
unfoldable pub read_profile : List ℕ → List ℕ → ℕ → ProfileAnswer
read_profile s p room = by_file s p (read_file s room)

-- the answer for each of its cases: line and column are counted where the place is
abbrev pub told_profile : List ℕ → List ℕ → ProfileAnswer → Result FileTable PageRefusal
told_profile s p (refuse_profile q c a) = Err (page_refusal q (refusal_in (source s p q) c a))
told_profile s p (accept_profile t ys ns) = Ok t

-- the answer of the plain reader, for what is stored of the ordinates
abbrev pub as_file : ProfileAnswer → FileAnswer
as_file (refuse_profile q c a) = refuse_file c a
as_file (accept_profile t ys ns) = accept_file t ys

-- the lent numbers afterwards: as many as there is room for
abbrev pub stored_shown : List ℕ → ProfileAnswer → List ℕ
stored_shown shown (refuse_profile q c a) = shown
stored_shown shown (accept_profile t ys ns) = sets shown 0 ns

-- ---- the text of any record by its name, "shown where it stands": a part of the file or of the page; nothing where both lack it or the file's labels are refused

unfoldable pub page_text : List ℕ → Option Span → List ℕ
page_text p (Some x) = take (x.to - x.from) (drop x.from p)
page_text p None = []

unfoldable pub shown : List ℕ → List ℕ → List ℕ → Result (Option Span) Refusal → List ℕ
shown s p w (Ok (Some x)) = take (x.to - x.from) (drop x.from s)
shown s p w (Ok None) = page_text p (on_page p w)
shown s p w (Err r) = []
