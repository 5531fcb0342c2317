-- The report of a file, by what reading it answers. No place of the code is named here. Assumes nothing.
use mathlib.Core.Path.{◌≡◌, ap, ◌∙◌}
use mathlib.Core.List.{List, map}
use Prim.Native.Nat.{ℕ, ◌≤◌}
use native.Mathlib.Omega.{arith}
use lib.IntN.{ℤ}
use lib.ListN.{length, take}
use Rattle.terms.specs.Logic.{zero_one}
use Rattle.terms.specs.Refusals.{refusal_in}
use Rattle.terms.specs.declared.Refusal.{Refusal}
use Rattle.table_spec.specs.Frame.{ordinate_of}
use Rattle.file_spec.specs.File.{FileAnswer, refuse_file, accept_file, read_file, told_file, stored_file}
use Rattle.file_spec.specs.declared.FileTable.{FileTable}
use Rattle.file.specs.Answers.{FileSays}
use Rattle.file_law.specs.Accepted.{Good, good_file}
use Rattle.file_law.specs.Stored.{stored_length, stored_first}
use Rattle.night_spec.specs.Report.{account_of, report_of}
use Rattle.night_spec.specs.declared.Account.{Account}
use Rattle.file_tally.specs.Says.{ReportSays}
use Rattle.std.specs.Prelude.{Ok, Err}

-- ---- by the answer that the definition gives

refused_case : (f : List ℕ) (x : FileAnswer) {r : Refusal} → Err r ≡ told_file f x → Err r ≡ report_of f x
unfolding report_of
refused_case f (refuse_file c a) {r} e = let z : r ≡ refusal_in f c a = cc in ap Err z
refused_case f (accept_file t ys) e = zero_one cc

room_case : (f : List ℕ) (out : List ℤ) (x : FileAnswer) {t : FileTable} → Good (length out) x → Ok t ≡ told_file f x → (t.points ≤ length out) × (t.points ≤ 65536)
room_case f out (refuse_file c a) g e = zero_one cc
room_case f out (accept_file q ys) {t} g e = let z : t ≡ q = cc in rw z (g.room, g.most)

read_case : (f : List ℕ) (out : List ℤ) (x : FileAnswer) {t : FileTable} {y : Account} → Good (length out) x → Ok t ≡ told_file f x
    → y ≡ account_of (take t.points (map ordinate_of (stored_file out x))) → Ok y ≡ report_of f x
unfolding report_of
read_case f out (refuse_file c a) g e h = zero_one cc
read_case f out (accept_file q ys) {t} g e h = let z : t ≡ q = cc in ap Ok ((rw z at h) ∙ ap account_of (stored_first out q.points ys g))

-- ---- by what the reader told

module _ {f : List ℕ} {out out' : List ℤ} where
  pub report_refused : {r : Refusal} → FileSays f out out' (Err r) → ReportSays f out out' (Err r)
  report_refused h = record { answers = refused_case f (read_file f (length out)) h.answers; left = h.leaves }

  pub table_room : {t : FileTable} → FileSays f out out' (Ok t) → (t.points ≤ length out') × (t.points ≤ 65536)
  table_room {t} h =
      let k = ap length h.leaves ∙ stored_length out (read_file f (length out)) in let z = room_case f out (read_file f (length out)) (good_file f (length out)) h.answers in
      (omega (arith, k, z.0), z.1)

  pub report_read : {t : FileTable} {y : Account} → FileSays f out out' (Ok t) → y ≡ account_of (take t.points (map ordinate_of out')) → ReportSays f out out' (Ok y)
  report_read {t} h e =
      record {
        answers = read_case f out (read_file f (length out)) (good_file f (length out)) h.answers (e ∙ ap (λ o. account_of (take t.points (map ordinate_of o))) h.leaves);
        left = h.leaves;
      }
