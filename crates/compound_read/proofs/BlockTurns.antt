-- The turns of reading a data block: no place of the code is named here.
use mathlib.Core.Path.{◌≡◌, refl}
use mathlib.Core.List.{List}
use Prim.Native.Nat.{ℕ, ◌<◌, ◌≤◌}
use lib.IntN.{ℤ}
use lib.ListN.{length}
use borrow.Author.Tests.{le-leb, lt-leb}
use Rattle.terms.specs.Logic.{zero_one}
use Rattle.terms.specs.Refusals.{fault_at, refusal_in}
use Rattle.terms.specs.declared.Fault.{Fault}
use Rattle.terms.specs.declared.Refusal.{Refusal}
use Rattle.label_spec.specs.File.{longest_file}
use Rattle.file_spec.specs.declared.FileTable.{FileTable}
use Rattle.file_spec.specs.Texts.{gathered_from}
use Rattle.file_spec.specs.File.{FileAnswer, refuse_file, accept_file, staged, by_records}
use Rattle.file.specs.Answers.{StageSays}
use Rattle.compound_spec.specs.Compound.{in_place}
use Rattle.compound_spec.specs.Answers.{BlockAnswer, answer, no_block, read_block, told_block}
use Rattle.compound_read.specs.Answers.{ReadsBlock}
use Rattle.std.specs.Prelude.{Some, None, Ok, Err}

module _ (s : List ℕ) (start end : ℕ) (out : List ℤ) where
  abbrev Is : BlockAnswer → Type 0
  Is x = read_block s (length out) start end ≡ x

  pub read_long : longest_file < length s → (q : Refusal) → q ≡ refusal_in s 19 0 → ReadsBlock s start end out out (Some (Err q))
  read_long h q e =
      let z : Is (answer (refuse_file 19 0)) = (unfold read_block in rw (lt-leb (length s) longest_file h) refl) in
      record { answers = rw (z, e) refl; leaves = rw z refl }

  module _ (h : length s ≤ longest_file) where
    none : Is no_block → ReadsBlock s start end out out None
    none z = record { answers = rw z refl; leaves = rw z refl }

    pub read_crossed : end < start → ReadsBlock s start end out out None
    read_crossed g = none (unfold read_block in rw (le-leb (length s) longest_file h, lt-leb start end g) refl)

    module _ (g : start ≤ end) where
      pub read_outside : length s < end → ReadsBlock s start end out out None
      read_outside f = none (unfold read_block in rw (le-leb (length s) longest_file h, le-leb start end g, lt-leb end (length s) f) refl)

      module _ (f : end ≤ length s) where
        placed : Is (answer (by_records s (length out) end (gathered_from s start end)))
        placed = unfold read_block in_place in rw (le-leb (length s) longest_file h, le-leb start end g, le-leb end (length s) f) refl

        pub read_table : (out' : List ℤ) (t : FileTable) → StageSays (by_records s (length out) end (gathered_from s start end)) out out' (Ok t)
            → ReadsBlock s start end out out' (Some (Ok t))
        read_table out' t x = record { answers = rw placed (cases (by_records s (length out) end (gathered_from s start end)) x.answers); leaves = rw placed x.leaves }
          where
            cases : (r : FileAnswer) → Ok t ≡ staged r → Some (Ok t) ≡ told_block s (answer r)
            cases (refuse_file c a) e = zero_one cc
            cases (accept_file u ys) e = cc

        pub read_fault : (out' : List ℤ) (r : Fault) → StageSays (by_records s (length out) end (gathered_from s start end)) out out' (Err r)
            → (q : Refusal) → q ≡ refusal_in s r.number r.place → ReadsBlock s start end out out' (Some (Err q))
        read_fault out' r x q k = record { answers = rw placed (cases (by_records s (length out) end (gathered_from s start end)) x.answers); leaves = rw placed x.leaves }
          where
            cases : (w : FileAnswer) → Err r ≡ staged w → Some (Err q) ≡ told_block s (answer w)
            cases (accept_file u ys) e = zero_one cc
            cases (refuse_file c a) e = let z : r ≡ fault_at c a = cc in rw (k, z) refl
