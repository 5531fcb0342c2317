-- A head, by its parts. Assumes nothing.
use Rattle.std.specs.Prelude.{ℕ}
use Rattle.table_lines.specs.declared.HeadRead.{HeadRead}

-- the abscissa of a head plus 10,000,000,000, its unit, and the place after it
abbrev pub head_with : ℕ → ℕ → ℕ → HeadRead
head_with a b c = record { abscissa = a; unit = b; at = c }
