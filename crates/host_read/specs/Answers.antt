-- What a C host is told of a file, a record and data blocks (02, T-01, T-07): the numbers of the answer's struct, in the header's order. What is not given is 0. Assumes nothing.
use Rattle.std.specs.Prelude.{List, [], ◌∷◌, ℕ, Option, Some, None, Result, Ok, Err}
use Rattle.host_numbers.specs.Numbers.{flags, no_flags, bits}
use Rattle.label_spec.specs.declared.Span.{Span}
use Rattle.terms.specs.declared.Refusal.{Refusal}
use Rattle.compound_spec.specs.declared.Blocks.{Blocks}
use Rattle.file_spec.specs.declared.FileTable.{FileTable}

-- a file: refused, place, line, column, points, first, last, what is exact
abbrev pub file_numbers : Result FileTable Refusal → List ℕ
file_numbers (Ok t) = 0 ∷ 0 ∷ 0 ∷ 0 ∷ t.points ∷ bits t.first ∷ bits t.last ∷ flags t.exact
file_numbers (Err r) = r.number ∷ r.place ∷ r.line ∷ r.column ∷ 0 ∷ 0 ∷ 0 ∷ no_flags

-- the number for a record or a block that is absent, -1 in 64 bits: no refusal has it (`host_file`, Numbers.refused-number)
abbrev pub absent : ℕ
absent = 18446744073709551615

-- a record's text: refused, place, line, column, from, to
abbrev pub record_numbers : Result (Option Span) Refusal → List ℕ
record_numbers (Ok (Some x)) = 0 ∷ 0 ∷ 0 ∷ 0 ∷ x.from ∷ x.to ∷ []
record_numbers (Ok None) = absent ∷ 0 ∷ 0 ∷ 0 ∷ 0 ∷ 0 ∷ []
record_numbers (Err r) = r.number ∷ r.place ∷ r.line ∷ r.column ∷ 0 ∷ 0 ∷ []

-- the data blocks of a file: refused, place, line, column, whether it is compound, how many
abbrev pub blocks_numbers : Result Blocks Refusal → List ℕ
blocks_numbers (Err r) = r.number ∷ r.place ∷ r.line ∷ r.column ∷ 0 ∷ 0 ∷ []
blocks_numbers (Ok Blocks.One) = 0 ∷ 0 ∷ 0 ∷ 0 ∷ 0 ∷ 1 ∷ []
blocks_numbers (Ok (Blocks.Compound n)) = 0 ∷ 0 ∷ 0 ∷ 0 ∷ 1 ∷ n ∷ []

-- a data block, as a file; or no block
abbrev pub block_numbers : Option (Result FileTable Refusal) → List ℕ
block_numbers (Some r) = file_numbers r
block_numbers None = absent ∷ 0 ∷ 0 ∷ 0 ∷ 0 ∷ 0 ∷ 0 ∷ no_flags
