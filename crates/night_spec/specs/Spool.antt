-- 02, T-11: a spool, the list of its files, and how it ends. Assumes nothing.
use Rattle.std.specs.Prelude.{Bool, List, [], ◌∷◌, ◌++◌, ℕ, zero, suc, ◌+◌, ◌-◌, ◌*◌, ◌/◌, ◌%◌, ◌<◌, ltb, leb, eqb, length, get_or, take, drop, Option, Some, None, Result, Ok, Err, ⊤}
use Rattle.terms.specs.Logic.{pick, both}
use Rattle.terms.specs.Refusals.{fault_at}
use Rattle.terms.specs.declared.Fault.{Fault}
use Rattle.label_spec.specs.declared.Span.{Span}
use Rattle.label_spec.specs.Parts.{span_of}

-- "At most 1,000 files"
abbrev pub most_files : ℕ
most_files = 1000

-- what stands before a file: two mark bytes and three of its length
abbrev pub mark_length : ℕ
mark_length = 5

-- "our two mark bytes, 4A and 44 in hexadecimal"
abbrev pub marked : List ℕ → ℕ → Bool
marked s p = both (eqb (get_or s p 0) 74) (eqb (get_or s (p + 1) 0) 68)

-- "a length of three bytes, high byte first"
abbrev pub length_at : List ℕ → ℕ → ℕ
length_at s p = get_or s (p + 2) 0 * 65536 + get_or s (p + 3) 0 * 256 + get_or s (p + 4) 0

abbrev pub refused_at : ℕ → ℕ → Result (Option Span) Fault
refused_at c p = Err (fault_at c p)

-- what stands at a place, where so many files may still come: "36 file 1,001, then 35 under five bytes left, 34 bad mark, 35 length past the end"
unfoldable pub record_at : ℕ → List ℕ → ℕ → Result (Option Span) Fault
record_at left s p =
    pick (leb (length s) p) (Ok None)
    (pick (eqb left 0) (refused_at 36 p)
    (pick (ltb (length s - p) mark_length) (refused_at 35 p)
    (pick (marked s p)
    (pick (leb (length_at s p) (length s - p - mark_length)) (Ok (Some (span_of (p + mark_length) (p + mark_length + length_at s p)))) (refused_at 35 p))
    (refused_at 34 p))))

-- a spool: its files, one after the other, and its end
pub data Spool : Type 0 where
  over : Spool
  stopped : Fault → Spool
  file : List ℕ → Spool → Spool

-- the bytes from one place up to another
abbrev pub part : List ℕ → ℕ → ℕ → List ℕ
part s a b = take (b - a) (drop a s)

-- what follows a record
abbrev pub follow : (ℕ → Spool) → List ℕ → Result (Option Span) Fault → Spool
follow f s (Ok None) = over
follow f s (Err r) = stopped r
follow f s (Ok (Some x)) = file (part s x.from x.to) (f x.to)

-- a spool from a place on
unfoldable pub spool_from : ℕ → List ℕ → ℕ → Spool
spool_from zero s p = follow (λ _. over) s (record_at zero s p)
spool_from (suc left) s p = follow (spool_from left s) s (record_at (suc left) s p)

abbrev pub spool_of : List ℕ → Spool
spool_of s = spool_from most_files s 0

-- the list of its files
unfoldable pub files_of : Spool → List (List ℕ)
files_of over = []
files_of (stopped r) = []
files_of (file f rest) = f ∷ files_of rest

-- and how it ends
unfoldable pub end_of : Spool → Result ⊤ Fault
end_of over = Ok tt
end_of (stopped r) = Err r
end_of (file f rest) = end_of rest

-- ---- from files to a spool

-- the record of a file: the two mark bytes, its length in three, high byte first, and it
abbrev pub record_for : List ℕ → List ℕ
record_for f = 74 ∷ 68 ∷ length f / 65536 ∷ length f / 256 % 256 ∷ length f % 256 ∷ f

-- the spool of a list of files
unfoldable pub spool_for : List (List ℕ) → List ℕ
spool_for [] = []
spool_for (f ∷ fs) = record_for f ++ spool_for fs

-- each of them is short enough for three bytes
unfoldable pub Spoolable : List (List ℕ) → Type 0
Spoolable [] = Unit {0}
Spoolable (f ∷ fs) = (length f < 16777216) × Spoolable fs
