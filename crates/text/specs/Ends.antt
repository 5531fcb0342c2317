-- Where counting lines stops: at the place, or at the text's end where that comes first. Assumes nothing.
use Rattle.std.specs.Prelude.{ℕ, ltb}
use Rattle.terms.specs.Logic.{pick}

abbrev pub end_for : ℕ → ℕ → ℕ
end_for n a = pick (ltb a n) a n
