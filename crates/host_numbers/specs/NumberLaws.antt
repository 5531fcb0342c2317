-- Numbers that are told. Assumes nothing.
use Rattle.std.specs.Prelude.{◌≡◌, List, ℕ}
use Rattle.std.proofs.Common.{sym, ap, ◌∙◌}
use Rattle.host_numbers.specs.Numbers.{refused_of, Told}

-- what stands in the answer, its first number returned
pub tells : {ns : List ℕ} (answer : List ℕ) → ns ≡ answer → Told ns answer (refused_of answer)
tells answer e = record { numbers = sym e; returned = ap refused_of (sym e) }

-- the same numbers under another name
pub told_as : {ns ms answer : List ℕ} {r : ℕ} → ns ≡ ms → Told ns answer r → Told ms answer r
told_as e g = record { numbers = g.numbers ∙ e; returned = g.returned ∙ ap refused_of e }
