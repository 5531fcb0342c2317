-- The numbers of `lastarunc_find_record` tell its three answers apart: a refusal of the labels is 19 to 24 (01, "The file"), so neither 0 nor `absent`. Assumes nothing.
use Rattle.std.specs.Prelude.{◌≡◌, true, false, List, [], ◌∷◌, ◌++◌, ℕ, ◌+◌, ◌≤◌, leb, length, Option, Some, None, Result, Ok, Err}
use Rattle.std.proofs.Common.{subst, arith}
use Rattle.terms.specs.declared.Refusal.{Refusal}
use Rattle.label_spec.specs.SharedLaws.{picked}
use Rattle.label_spec.specs.Names.{sames, TITLE, END}
use Rattle.label_spec.specs.Labels.{Walk, over, bad, label, from, hashed}
use Rattle.label_spec.specs.Space.{past_space}
use Rattle.label_spec.specs.File.{longest_file, titled, opened_at, opened, twice, judged, placed, after_title, labelled}
use Rattle.label_spec.specs.Records.{record_of, as_record, record_in, record_for}
use Rattle.label_spec.specs.declared.Span.{Span}
use Rattle.label_spec.specs.declared.Edges.{Edges}
use Rattle.label_spec.specs.declared.Places.{Places}
use Rattle.terms.specs.declared.Fault.{Fault}

-- the refusal that an answer may be has such a number
abbrev Ours : ℕ → Type 0
Ours c = (19 ≤ c) × (c ≤ 24)

abbrev opens : Result Edges Fault → Type 0
opens (Ok x) = Unit
opens (Err r) = Ours r.number

abbrev walks : Result Edges Fault → Type 0
walks (Ok x) = Unit
walks (Err r) = Ours r.number

abbrev labels : Result Places Fault → Type 0
labels (Ok y) = Unit
labels (Err r) = Ours r.number

abbrev records : Result (Option Span) Refusal → Type 0
records (Ok (Some x)) = Unit
records (Ok None) = Unit
records (Err r) = Ours r.number

-- 21
titled_ours : (p : ℕ) (k : Walk) → opens (titled p k)
unfolding titled
titled_ours p over = (omega arith, omega arith)
titled_ours p (bad x rest) = (omega arith, omega arith)
titled_ours p (label x n e v rest) = picked opens (sames v TITLE) tt (omega arith, omega arith)

opened_ours : (s : List ℕ) → opens (opened s)
unfolding opened opened_at
opened_ours s = picked opens (hashed s (past_space s 0)) (titled_ours (past_space s 0) (from s (past_space s 0) true)) (omega arith, omega arith)

-- 20, 22, 23, 24
judged_ours : (len : ℕ) (done : List (List ℕ)) (k : Walk) → walks (judged len done k)
unfolding judged
judged_ours len done over = (omega arith, omega arith)
judged_ours len done (bad x rest) = (omega arith, omega arith)
judged_ours len done (label x n e v rest) =
    picked walks (sames v END) tt (picked walks (sames v TITLE) (omega arith, omega arith)
    (picked walks (twice v done) (omega arith, omega arith) (judged_ours len (done ++ v ∷ []) rest)))

placed_ours : (m e : ℕ) (w : Result Edges Fault) → walks w → labels (placed m e w)
unfolding placed
placed_ours m e (Ok y) h = tt
placed_ours m e (Err r) h = h

titled_then : (s : List ℕ) (o : Result Edges Fault) → opens o → labels (after_title s o)
unfolding after_title
titled_then s (Ok x) h = placed_ours x.mark x.eq _ (judged_ours (length s) [] (from s (x.eq + 1) false))
titled_then s (Err r) h = h

-- 19
labelled_ours : (s : List ℕ) → labels (labelled s)
unfolding labelled
labelled_ours s = picked labels (leb (length s) longest_file) (titled_then s (opened s) (opened_ours s)) (omega arith, omega arith)

found_ours : (f : Option Span) → records (as_record f)
unfolding as_record
found_ours (Some x) = tt
found_ours None = tt

record_ours : (s w : List ℕ) (l : Result Places Fault) → labels l → records (record_in s w l)
unfolding record_in
record_ours s w (Ok y) h = found_ours (record_of (length s) y.end w (from s y.title true))
record_ours s w (Err r) h = h

-- the theorem
pub refused_number : (s w : List ℕ) (r : Refusal) → record_for s w ≡ Err r → (19 ≤ r.number) × (r.number ≤ 24)
unfolding record_for
refused_number s w r e = subst records e (record_ours s w (labelled s) (labelled_ours s))
