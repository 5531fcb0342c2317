-- What the functions on words ensure (02, T-07). Assumes nothing.
use Rattle.std.specs.Prelude.{true, List, ℕ, Some}
use Rattle.terms.specs.Logic.{pick}
use Rattle.label_spec.specs.Names.{sames}
use Rattle.file_spec.specs.Texts.{XYDATA}
use Rattle.compound_spec.specs.declared.Own.{Own}
use Rattle.compound_spec.specs.Blocks.{BLOCKS, says}
use Rattle.label_spec.specs.Parts.{span_of}

-- What a block has said, after a label of its own with the name v, whose text runs from a to b: as `noted` has it.
unfoldable pub note_of : List ℕ → List ℕ → ℕ → ℕ → Own → Own
note_of s v a b o =
    record {
      link = pick (says s v a b) true o.link;
      table = pick (sames v XYDATA) true o.table;
      blocks = pick (sames v BLOCKS) (Some (span_of a b)) o.blocks;
    }
