-- What a C host hands over and is told, as 64-bit numbers in the header's order. Assumes nothing.
use Rattle.std.specs.Prelude.{List, [], ◌∷◌, ℕ, ◌-◌, ltb, ℤ, pos, negsuc, get_or, Option, Some, None, Result, Ok, Err}
use Rattle.terms.specs.Logic.{pick}
use Rattle.host_numbers.specs.Numbers.{bits}
use Rattle.night_spec.specs.declared.Account.{Account}
use Rattle.night_spec.specs.declared.Progress.{Progress}
use Rattle.night_spec.specs.declared.Reported.{Reported}
use Rattle.night_spec.specs.declared.Reported.TheVariants as reported
use Rattle.terms.specs.declared.Refusal.{Refusal}

-- ---- numbers with a sign, in two's complement

abbrev pub number_of : ℕ → ℤ
number_of u = pick (ltb u 9223372036854775808) (pos u) (negsuc (18446744073709551615 - u))

-- `none` is the mark of a missing ordinate, -2,147,483,648
abbrev pub none : ℕ
none = 18446744071562067968

abbrev pub level_bits : Option ℤ → ℕ
level_bits None = none
level_bits (Some x) = bits x

-- ---- how far a walk has come: at, seen, files, points, missing, sum

abbrev pub numbers_of : Progress → List ℕ
numbers_of p = p.at ∷ p.seen ∷ p.totals.files ∷ p.totals.points ∷ p.totals.missing ∷ bits p.totals.sum ∷ []

abbrev pub progress_of : List ℕ → Progress
progress_of ks =
    record { at = get_or ks 0 0; seen = get_or ks 1 0; totals = record { files = get_or ks 2 0; points = get_or ks 3 0; missing = get_or ks 4 0; sum = number_of (get_or ks 5 0) } }

-- afterwards: past the file that was reported, and at the end as it was
abbrev pub kept_by : List ℕ → Reported → List ℕ
kept_by ks (reported.File x q) = numbers_of q
kept_by ks (reported.Over t) = ks
kept_by ks (reported.Refused f t) = ks
kept_by ks reported.Strange = ks

-- ---- a step: refused, place, line, column, ended, points, missing, lowest, highest, sum, faintest

-- the number for a walk that cannot be, -1 in 64 bits: no refusal has it
abbrev pub no_walk : ℕ
no_walk = 18446744073709551615

abbrev pub end_answer : ℕ → ℕ → List ℕ
end_answer c a = c ∷ a ∷ 0 ∷ 0 ∷ 1 ∷ 0 ∷ 0 ∷ none ∷ none ∷ 0 ∷ none ∷ []

abbrev pub account_answer : Account → List ℕ
account_answer a = 0 ∷ 0 ∷ 0 ∷ 0 ∷ 0 ∷ a.points ∷ a.missing ∷ level_bits a.lowest ∷ level_bits a.highest ∷ bits a.sum ∷ level_bits a.faintest ∷ []

abbrev pub file_answer : Result Account Refusal → List ℕ
file_answer (Ok a) = account_answer a
file_answer (Err r) = r.number ∷ r.place ∷ r.line ∷ r.column ∷ 0 ∷ 0 ∷ 0 ∷ none ∷ none ∷ 0 ∷ none ∷ []

abbrev pub step_answer : Reported → List ℕ
step_answer (reported.File x q) = file_answer x
step_answer (reported.Over t) = end_answer 0 0
step_answer (reported.Refused f t) = end_answer f.number f.place
step_answer reported.Strange = end_answer no_walk 0
