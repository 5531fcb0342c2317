-- 02, T-11: what the report says of one file, over the list of its ordinates. An ordinate y stands as y + 2^31, a missing one as 0. Assumes nothing.
use Rattle.std.specs.Prelude.{List, [], ◌∷◌, ℕ, suc, ◌+◌, ltb, eqb, ℤ, pos, ◌+ℤ◌, length, Option, Some, None, Result, Ok, Err}
use Rattle.terms.specs.Logic.{pick}
use Rattle.terms.specs.Refusals.{refusal_in}
use Rattle.table_spec.specs.Frame.{zero_ordinate, entry_for, apart}
use Rattle.file_spec.specs.File.{FileAnswer, refuse_file, accept_file}
use Rattle.night_spec.specs.declared.Account.{Account}
use Rattle.terms.specs.declared.Refusal.{Refusal}

-- the ordinates that are not missing
unfoldable pub given : List ℕ → List ℕ
given [] = []
given (u ∷ ys) = pick (eqb u 0) (given ys) (u ∷ given ys)

-- how many are missing
unfoldable pub missing : List ℕ → ℕ
missing [] = 0
missing (u ∷ ys) = pick (eqb u 0) (suc (missing ys)) (missing ys)

-- "the smallest magnitude among ordinates that are not zero or missing": those magnitudes
unfoldable pub magnitudes : List ℕ → List ℕ
magnitudes [] = []
magnitudes (u ∷ ys) = pick (eqb u 0) (magnitudes ys) (pick (eqb u zero_ordinate) (magnitudes ys) (apart u zero_ordinate ∷ magnitudes ys))

abbrev pub lesser : ℕ → Option ℕ → ℕ
lesser x None = x
lesser x (Some y) = pick (ltb y x) y x

unfoldable pub least : List ℕ → Option ℕ
least [] = None
least (x ∷ l) = Some (lesser x (least l))

abbrev pub greater : ℕ → Option ℕ → ℕ
greater x None = x
greater x (Some y) = pick (ltb x y) y x

unfoldable pub greatest : List ℕ → Option ℕ
greatest [] = None
greatest (x ∷ l) = Some (greater x (greatest l))

-- the sum, with signs
unfoldable pub sum_of : List ℕ → ℤ
sum_of [] = pos 0
sum_of (u ∷ l) = entry_for u +ℤ sum_of l

-- an ordinate, or a magnitude, as the report says it
abbrev pub ordinate_level : Option ℕ → Option ℤ
ordinate_level None = None
ordinate_level (Some u) = Some (entry_for u)

abbrev pub size_level : Option ℕ → Option ℤ
size_level None = None
size_level (Some m) = Some (pos m)

-- what the report says of a file with these ordinates
unfoldable pub account_of : List ℕ → Account
account_of ys = record {
  points = length ys;
  missing = missing ys;
  lowest = ordinate_level (least (given ys));
  highest = ordinate_level (greatest (given ys));
  sum = sum_of (given ys);
  faintest = size_level (least (magnitudes ys));
}

-- "refused (number, place), or ..": by what the reader says of the file f; a refusal has its line and column in the file too
unfoldable pub report_of : List ℕ → FileAnswer → Result Account Refusal
report_of f (refuse_file c a) = Err (refusal_in f c a)
report_of f (accept_file t ys) = Ok (account_of ys)
