-- Where the answer of the walk over a file's labels lies. Assumes nothing.
use Rattle.std.specs.Prelude.{ℕ, ◌<◌, ◌≤◌, Result, Ok, Err}
use Rattle.label_spec.specs.declared.Edges.{Edges}
use Rattle.terms.specs.declared.Fault.{Fault}

-- The places of each answer lie in the file.
abbrev pub WalkedIn : ℕ → ℕ → Result Edges Fault → Type 0
WalkedIn at len (Ok x) = (at ≤ x.mark) × (x.mark < x.eq) × (x.eq < len)
WalkedIn at len (Err r) = r.place ≤ len
