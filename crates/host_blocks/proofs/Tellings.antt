-- From the answers of the search for blocks and of the reader of one to what a C host is told. No place of the code is named here. Assumes nothing.
use mathlib.Core.Path.{◌≡◌, refl, ap, ◌∙◌}
use mathlib.Core.List.{List}
use Prim.Native.Nat.{ℕ}
use lib.IntN.{ℤ}
use lib.ListN.{length}
use Rattle.label_spec.specs.Names.{norm}
use Rattle.file_spec.specs.File.{refuse_file, accept_file}
use Rattle.compound_spec.specs.Compound.{BlocksAnswer, refuse_blocks, one_block, all_blocks, find_blocks}
use Rattle.compound_spec.specs.Answers.{told_blocks, BlockAnswer, answer, no_block, read_block, told_block, record_in_block}
use Rattle.compound_find.specs.Answers.{FindsBlocks}
use Rattle.compound_read.specs.Answers.{ReadsBlock}
use Rattle.host_numbers.specs.Numbers.{Told}
use Rattle.host_numbers.specs.NumberLaws.{told_as}
use Rattle.host_read.specs.Answers.{record_numbers, blocks_numbers, block_numbers}
use Rattle.host_blocks.specs.Answers.{blocks_answer, BlocksTold, block_answer, start_of, end_of, from_of, BlockTold, BlockRecordTold}
use Rattle.std.specs.Prelude.{Option, Result}
use Rattle.label_spec.specs.declared.Span.{Span}
use Rattle.terms.specs.declared.Refusal.{Refusal}
use Rattle.compound_spec.specs.declared.Blocks.{Blocks}
use Rattle.file_spec.specs.declared.FileTable.{FileTable}

-- ---- the numbers of an answer are those of what it is told as

blocks_numbers_lem : (s : List ℕ) (x : BlocksAnswer) → blocks_numbers (told_blocks s x) ≡ blocks_answer s x
blocks_numbers_lem s (refuse_blocks c a) = refl
blocks_numbers_lem s (one_block b) = refl
blocks_numbers_lem s (all_blocks bs) = refl

block_numbers_lem : (s : List ℕ) (x : BlockAnswer) → block_numbers (told_block s x) ≡ block_answer s x
block_numbers_lem s (answer (refuse_file c a)) = refl
block_numbers_lem s (answer (accept_file t ys)) = refl
block_numbers_lem s no_block = refl

-- ---- so that a host is told

pub told_blocks_lem : {file out out' : List ℕ} {x : Result Blocks Refusal} {ns : List ℕ} {r : ℕ} → FindsBlocks file out out' x → Told (blocks_numbers x) ns r → BlocksTold file out out' ns r
told_blocks_lem {file} g t =
    let z = told_as (ap blocks_numbers g.answers ∙ blocks_numbers_lem file (find_blocks file)) t in
    record { numbers = z.numbers; returned = z.returned; leaves = g.leaves }

pub told_block_lem : {file block : List ℕ} {out out' : List ℤ} {x : Option (Result FileTable Refusal)} {ns : List ℕ} {r : ℕ} → ReadsBlock file (start_of block) (end_of block) out out' x → Told (block_numbers x) ns r
    → BlockTold file block out out' ns r
told_block_lem {file} {block} {out} g t =
    let z = told_as (ap block_numbers g.answers ∙ block_numbers_lem file (read_block file (length out) (start_of block) (end_of block))) t in
    record { numbers = z.numbers; returned = z.returned; leaves = g.leaves }

pub told_block_record : {file block name ns : List ℕ} {x : Result (Option Span) Refusal} {r : ℕ} → x ≡ record_in_block file (from_of block) (end_of block) (norm name) → Told (record_numbers x) ns r
    → BlockRecordTold file block name ns r
told_block_record e t = let z = told_as (ap record_numbers e) t in record { numbers = z.numbers; returned = z.returned }
