-- Bounds of the number that a text is. Assumes nothing.
use Rattle.std.specs.Prelude.{◌<◌, Option, Some, None}
use Rattle.decimal_spec.specs.Number.{bound}
use Rattle.decimal_spec.specs.declared.Count.{Count}

-- a count as it can be spelled
abbrev pub CountSmall : Option Count → Type 0
CountSmall (Some x) = x.value < bound
CountSmall None = Unit
