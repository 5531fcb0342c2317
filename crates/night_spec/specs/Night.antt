-- 02, T-11: the reports of a spool's files, the totals over them, and the lent slice afterwards. Assumes nothing.
use Rattle.std.specs.Prelude.{List, [], ◌∷◌, ℕ, suc, ◌+◌, ℤ, pos, ◌+ℤ◌, length, Result, Ok, Err}
use Rattle.file_spec.specs.File.{read_file, stored_file}
use Rattle.night_spec.specs.Spool.{spool_of, files_of, end_of}
use Rattle.night_spec.specs.Report.{report_of}
use Rattle.night_spec.specs.declared.Account.{Account}
use Rattle.night_spec.specs.declared.Totals.{Totals}
use Rattle.night_spec.specs.declared.Night.{Night}
use Rattle.terms.specs.declared.Refusal.{Refusal}

-- the report of a file, with room for so many ordinates: "Files are read as simple ones, compound ones too"
abbrev pub report_as : ℕ → List ℕ → Result Account Refusal
report_as space f = report_of f (read_file f space)

-- what a file leaves in the lent slice: "demand 1 holds file by file"
abbrev pub leaves : List ℤ → List ℕ → List ℤ
leaves out f = stored_file out (read_file f (length out))

-- the reports of a list of files
unfoldable pub reports_of : ℕ → List (List ℕ) → List (Result Account Refusal)
reports_of space [] = []
reports_of space (f ∷ fs) = report_as space f ∷ reports_of space fs

-- "Then file, point and missing counts and the sum over accepted files": plain sums over the list
abbrev pub no_files : Totals
no_files = record { files = 0; points = 0; missing = 0; sum = pos 0 }

abbrev pub with_file : Account → Totals → Totals
with_file a t = record { files = suc t.files; points = a.points + t.points; missing = a.missing + t.missing; sum = a.sum +ℤ t.sum }

unfoldable pub with_report : Result Account Refusal → Totals → Totals
with_report (Ok a) t = with_file a t
with_report (Err r) t = t

unfoldable pub totals_of : List (Result Account Refusal) → Totals
totals_of [] = no_files
totals_of (r ∷ l) = with_report r (totals_of l)

-- the lent slice afterwards: each file finds what the one before it left
unfoldable pub left_by : List ℤ → List (List ℕ) → List ℤ
left_by out [] = out
left_by out (f ∷ fs) = left_by (leaves out f) fs

-- the end of the report on a spool, with room for so many ordinates
unfoldable pub night_of : ℕ → List ℕ → Night
night_of space s = record { totals = totals_of (reports_of space (files_of (spool_of s))); end = end_of (spool_of s) }
