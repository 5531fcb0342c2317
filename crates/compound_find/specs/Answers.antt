-- The public contract of finding the data blocks of a file, and that its outcome is unique; and what its inner functions ensure. Assumes nothing.
use Rattle.std.specs.Prelude.{◌≡◌, false, List, ℕ, ◌+◌, ◌≤◌, eqb, length, take, Option, Some, None, Result, Ok, Err}
use Rattle.std.proofs.Common.{sym, ◌∙◌}
use Rattle.terms.specs.Logic.{pick}
use Rattle.terms.specs.Refusals.{fault_at}
use Rattle.label_spec.specs.Labels.{from}
use Rattle.label_spec.specs.declared.Span.{Span}
use Rattle.file_spec.specs.Texts.{text_in, mark_of}
use Rattle.file_spec.specs.Figures.{count_in}
use Rattle.compound_spec.specs.declared.Block.{Block}
use Rattle.compound_spec.specs.declared.Own.{Own}
use Rattle.compound_spec.specs.Compound.{find_blocks}
use Rattle.compound_spec.specs.Answers.{told_blocks, laid, stored_blocks}
use Rattle.compound_law.specs.Flat.{plain, flat}
use Rattle.decimal_spec.specs.declared.Count.{Count}
use Rattle.terms.specs.declared.Fault.{Fault}
use Rattle.terms.specs.declared.Refusal.{Refusal}
use Rattle.compound_spec.specs.declared.Blocks.{Blocks}

-- the public contract: the file, the slice before and after, and the answer
pub record FindsBlocks (file out out' : List ℕ) (r : Result Blocks Refusal) : Type 0 where
  pub answers : r ≡ told_blocks file (find_blocks file)
  pub leaves : out' ≡ stored_blocks file out (find_blocks file)

pub outcome_unique : (file : List ℕ) {out a b : List ℕ} {r q : Result Blocks Refusal} → FindsBlocks file out a r → FindsBlocks file out b q → (r ≡ q) × (a ≡ b)
outcome_unique file x y = (x.answers ∙ sym y.answers, x.leaves ∙ sym y.leaves)

-- 32, as `by_count` has it, of n data blocks
abbrev pub count_on : List ℕ → Span → ℕ → Option Count → Result Blocks Fault
count_on s t n None = Err (fault_at 32 (mark_of s t))
count_on s t n (Some x) = pick (eqb x.value n) (Ok (Blocks.Compound n)) (Err (fault_at 32 (mark_of s t)))

unfoldable pub counted_by : List ℕ → Span → ℕ → Result Blocks Fault
counted_by s t n = count_on s t n (count_in (text_in s t))

-- 25, as `by_blocks` has it
abbrev pub blocks_on : List ℕ → ℕ → ℕ → Option Span → Result Blocks Fault
blocks_on s end n None = Err (fault_at 25 end)
blocks_on s end n (Some x) = counted_by s x n

-- the whole, as `by_survey` has it
unfoldable pub judged_by : List ℕ → ℕ → Own → ℕ → Result Blocks Fault
judged_by s end o n = pick o.link (blocks_on s end n o.blocks) (Ok Blocks.One)

-- where the flat list is that of the data blocks, as many of them as fit are stored
pub record Stores (s out : List ℕ) (m e n : ℕ) (out' : List ℕ) : Type 0 where
  pub law : (bs : List Block) → n ≡ length bs → ((k : ℕ) → k ≤ length bs → flat s (from s (e + 1) false) k (plain m e) ≡ take k bs) → out' ≡ laid s out bs
  pub same : length out' ≡ length out
