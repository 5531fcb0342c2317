-- 02, T-07: "a data block cut out as a file": from its TITLE's `##` to the end of its END's line. Assumes nothing.
use Rattle.std.specs.Prelude.{List, [], ◌∷◌, ℕ, suc, ◌+◌, ◌-◌, leb, eqb, take, drop}
use Rattle.terms.specs.Logic.{pick}
use Rattle.file_spec.specs.File.{FileAnswer, refuse_file, accept_file}
use Rattle.compound_spec.specs.declared.Block.{Block}

-- How many bytes are left of a line, its end counted.
unfoldable pub rest_of_line : List ℕ → ℕ
rest_of_line [] = 0
rest_of_line (b ∷ s) = pick (eqb b 10) 1 (suc (rest_of_line s))

-- The place after END's line.
unfoldable pub end_of : List ℕ → Block → ℕ
end_of s b = b.last + rest_of_line (drop b.last s)

unfoldable pub cut_out : List ℕ → Block → List ℕ
cut_out s b = take (end_of s b - b.title) (drop b.title s)

-- "places shifted (1 and 2 at 0)"
abbrev pub shifted : ℕ → FileAnswer → FileAnswer
shifted d (refuse_file c a) = refuse_file c (pick (leb c 2) 0 (d + a))
shifted d (accept_file t ys) = accept_file t ys
