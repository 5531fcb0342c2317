-- What a C host is told of the data blocks of a file (02, T-07). Assumes nothing.
use Rattle.std.specs.Prelude.{◌≡◌, List, [], ◌∷◌, ℕ, ℤ, length, get_or}
use Rattle.terms.specs.Places.{line_of, column_of}
use Rattle.label_spec.specs.Names.{norm}
use Rattle.compound_spec.specs.Compound.{BlocksAnswer, refuse_blocks, one_block, all_blocks, find_blocks}
use Rattle.compound_spec.specs.Answers.{stored_blocks, BlockAnswer, answer, no_block, read_block, stored_block, record_in_block}
use Rattle.host_numbers.specs.Numbers.{refused_of, no_flags}
use Rattle.host_read.specs.Answers.{absent, record_numbers}
use Rattle.host_file.specs.Answers.{file_answer}

-- the data blocks of a file: refused, place, line, column, whether it is compound, how many
abbrev pub blocks_answer : List ℕ → BlocksAnswer → List ℕ
blocks_answer s (refuse_blocks c a) = c ∷ a ∷ line_of s a ∷ column_of s a ∷ 0 ∷ 0 ∷ []
blocks_answer s (one_block b) = 0 ∷ 0 ∷ 0 ∷ 0 ∷ 0 ∷ 1 ∷ []
blocks_answer s (all_blocks bs) = 0 ∷ 0 ∷ 0 ∷ 0 ∷ 1 ∷ length bs ∷ []

pub record BlocksTold (file blocks blocks' : List ℕ) (numbers' : List ℕ) (r : ℕ) : Type 0 where
  pub numbers : numbers' ≡ blocks_answer file (find_blocks file)
  pub returned : r ≡ refused_of (blocks_answer file (find_blocks file))
  pub leaves : blocks' ≡ stored_blocks file blocks (find_blocks file)

-- a data block read, as a file is; or no block
abbrev pub block_answer : List ℕ → BlockAnswer → List ℕ
block_answer s (answer x) = file_answer s x
block_answer s no_block = absent ∷ 0 ∷ 0 ∷ 0 ∷ 0 ∷ 0 ∷ 0 ∷ no_flags

-- the numbers of a block, in the header's order: from, to, start, end
abbrev pub from_of : List ℕ → ℕ
from_of block = get_or block 0 0

abbrev pub start_of : List ℕ → ℕ
start_of block = get_or block 2 0

abbrev pub end_of : List ℕ → ℕ
end_of block = get_or block 3 0

pub record BlockTold (file block : List ℕ) (out out' : List ℤ) (numbers' : List ℕ) (r : ℕ) : Type 0 where
  pub numbers : numbers' ≡ block_answer file (read_block file (length out) (start_of block) (end_of block))
  pub returned : r ≡ refused_of (block_answer file (read_block file (length out) (start_of block) (end_of block)))
  pub leaves : out' ≡ stored_block out (read_block file (length out) (start_of block) (end_of block))

pub record BlockRecordTold (file block name : List ℕ) (numbers' : List ℕ) (r : ℕ) : Type 0 where
  pub numbers : numbers' ≡ record_numbers (record_in_block file (from_of block) (end_of block) (norm name))
  pub returned : r ≡ refused_of (record_numbers (record_in_block file (from_of block) (end_of block) (norm name)))
