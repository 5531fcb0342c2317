-- 02, T-07 and T-01: what the functions on compound files answer and leave in the lent memory, for each case. Assumes nothing.
use Rattle.std.specs.Prelude.{true, List, [], ◌∷◌, ℕ, suc, ◌/◌, leb, ltb, ℤ, length, take, Option, Some, None, Result, Ok, Err}
use Rattle.std.proofs.lemmas.List.Edits.{sets}
use Rattle.terms.specs.Logic.{pick, both}
use Rattle.terms.specs.Refusals.{refusal_in}
use Rattle.label_spec.specs.Labels.{from, hashed}
use Rattle.label_spec.specs.File.{longest_file}
use Rattle.label_spec.specs.Records.{record_of, as_record}
use Rattle.file_spec.specs.File.{FileAnswer, refuse_file, accept_file, stored_file}
use Rattle.compound_spec.specs.declared.Block.{Block}
use Rattle.compound_spec.specs.Compound.{BlocksAnswer, refuse_blocks, one_block, all_blocks, in_place}
use Rattle.compound_spec.specs.Cut.{end_of}
use Rattle.label_spec.specs.declared.Span.{Span}
use Rattle.terms.specs.declared.Refusal.{Refusal}
use Rattle.compound_spec.specs.declared.Blocks.{Blocks}
use Rattle.file_spec.specs.declared.FileTable.{FileTable}

-- ---- the data blocks of a file

-- a refusal has its line and column in the file
abbrev pub told_blocks : List ℕ → BlocksAnswer → Result Blocks Refusal
told_blocks s (refuse_blocks c a) = Err (refusal_in s c a)
told_blocks s (one_block b) = Ok Blocks.One
told_blocks s (all_blocks bs) = Ok (Blocks.Compound (length bs))

-- the numbers of each block: the place of TITLE's `##`; that after END's line, so that the cut stands between the two; that after TITLE's `=`; that of END's `##`
unfoldable pub entries : List ℕ → List Block → List ℕ
entries s [] = []
entries s (b ∷ bs) = b.title ∷ end_of s b ∷ suc b.eq ∷ b.end ∷ entries s bs

-- as many whole blocks as there is room for, from the first entry on
unfoldable pub laid : List ℕ → List ℕ → List Block → List ℕ
laid s out bs = sets out 0 (entries s (take (length out / 4) bs))

-- the lent slice afterwards
abbrev pub stored_blocks : List ℕ → List ℕ → BlocksAnswer → List ℕ
stored_blocks s out (refuse_blocks c a) = out
stored_blocks s out (one_block b) = laid s out (b ∷ [])
stored_blocks s out (all_blocks bs) = laid s out bs

-- ---- a data block, read where it stands

-- its answer; or the places are none of a block in the file
pub data BlockAnswer : Type 0 where
  answer : FileAnswer → BlockAnswer
  no_block : BlockAnswer

-- the places of a block: from start up to end
unfoldable pub read_block : List ℕ → ℕ → ℕ → ℕ → BlockAnswer
read_block s space start end =
    pick (leb (length s) longest_file)
    (pick (both (leb start end) (leb end (length s))) (answer (in_place s space start end)) no_block)
    (answer (refuse_file 19 0))

abbrev pub told_block : List ℕ → BlockAnswer → Option (Result FileTable Refusal)
told_block s (answer (refuse_file c a)) = Some (Err (refusal_in s c a))
told_block s (answer (accept_file t ys)) = Some (Ok t)
told_block s no_block = None

abbrev pub stored_block : List ℤ → BlockAnswer → List ℤ
stored_block out (answer x) = stored_file out x
stored_block out no_block = out

-- ---- a record of a data block, TITLE's own among them, END's not

-- the record with the name w of the block whose TITLE's `##` stands at m and its END's at end: absent, where they are no places of a block in the file
unfoldable pub record_in_block : List ℕ → ℕ → ℕ → List ℕ → Result (Option Span) Refusal
record_in_block s m end w =
    pick (leb (length s) longest_file)
    (pick (both (leb end (length s)) (both (ltb m end) (hashed s m))) (as_record (record_of (length s) end w (from s m true))) (Ok None))
    (Err (refusal_in s 19 0))
