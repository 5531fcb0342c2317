-- 02, T-07 "Compound files": what a file of one block or of many says. Assumes nothing.
use Rattle.std.specs.Prelude.{List, map, ℕ, suc, eqb, length, Option, Some, None}
use Rattle.terms.specs.Logic.{pick}
use Rattle.label_spec.specs.declared.Span.{Span}
use Rattle.file_spec.specs.Texts.{text_in, gathered_from, mark_of}
use Rattle.file_spec.specs.Figures.{count_in}
use Rattle.file_spec.specs.File.{FileAnswer, refuse_file, by_records}
use Rattle.compound_spec.specs.declared.Block.{Block}
use Rattle.compound_spec.specs.Blocks.{Survey, refused, ended, surveyed}
use Rattle.decimal_spec.specs.declared.Count.{Count}

-- The data blocks of a file: a refusal of the whole, its number and place; or the one block that the file is; or all of a compound file, in file order.
pub data BlocksAnswer : Type 0 where
  refuse_blocks : ℕ → ℕ → BlocksAnswer
  one_block : Block → BlocksAnswer
  all_blocks : List Block → BlocksAnswer

module _ (s : List ℕ) where
  -- "32 (wrong count or not digits, placed as 26)"
  unfoldable pub by_count : Span → List Block → Option Count → BlocksAnswer
  by_count t bs None = refuse_blocks 32 (mark_of s t)
  by_count t bs (Some x) = pick (eqb x.value (length bs)) (all_blocks bs) (refuse_blocks 32 (mark_of s t))

  -- "25 (BLOCKS absent, at its END)"
  unfoldable pub by_blocks : Block → List Block → Option Span → BlocksAnswer
  by_blocks o bs None = refuse_blocks 25 o.end
  by_blocks o bs (Some x) = by_count x bs (count_in (text_in s x))

  -- a file whose outermost block is not LINK is that one data block
  unfoldable pub by_survey : Survey → BlocksAnswer
  by_survey (refused c a) = refuse_blocks c a
  by_survey (ended l o bs) = pick l.link (by_blocks o bs l.blocks) (one_block o)

  -- "We want every data block found in file order"
  unfoldable pub find_blocks : BlocksAnswer
  find_blocks = by_survey (surveyed s)

-- What a file answers: as one, where it is refused as a whole or is one data block; or each data block by itself, in file order.
pub data CompoundAnswer : Type 0 where
  whole : FileAnswer → CompoundAnswer
  each : List FileAnswer → CompoundAnswer

module _ (s : List ℕ) (space : ℕ) where
  -- "each data block has its own answer, 25 on": its records stand in the file from the place start, after its TITLE's `=`, up to its END's `##`
  unfoldable pub in_place : ℕ → ℕ → FileAnswer
  in_place start end = by_records s space end (gathered_from s start end)

  abbrev pub in_block : Block → FileAnswer
  in_block b = in_place (suc b.eq) b.end

  -- "A file that is one data block keeps its old answers"
  abbrev pub answers_of : BlocksAnswer → CompoundAnswer
  answers_of (refuse_blocks c a) = whole (refuse_file c a)
  answers_of (one_block b) = whole (in_block b)
  answers_of (all_blocks bs) = each (map in_block bs)

  -- what a file of blocks says, with room for so many ordinates in each
  unfoldable pub read_compound : CompoundAnswer
  read_compound = answers_of (find_blocks s)
