-- What a survey tells, by its parts. Assumes nothing.
use Rattle.std.specs.Prelude.{ℕ}
use Rattle.compound_spec.specs.declared.Block.{Block}
use Rattle.compound_spec.specs.declared.Own.{Own}
use Rattle.compound_spec.specs.declared.Surveyed.{Surveyed}

-- the outermost block, what its own labels said, and how many data blocks there are
abbrev pub surveyed_with : Block → Own → ℕ → Surveyed
surveyed_with a b c = record { outermost = a; own = b; count = c }
