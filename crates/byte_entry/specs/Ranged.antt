-- A range of bytes whose entry is one rule's: the rule is tested at each byte of the range by computing, and carried to a byte by one law (`ruled`). Assumes nothing.
use Rattle.std.specs.Prelude.{◌≡◌, ℕ, ◌+◌, ◌-◌, ◌≤◌, ◌<◌, T, eqb}
use Rattle.std.proofs.Common.{subst, arith, eqb→eq}
use Rattle.terms.specs.Logic.{pick}
use Rattle.alphabet_spec.specs.Entries.{entry}
use Rattle.alphabet_spec.specs.EveryLaws.{every_below, below}

-- the entry u of the byte x, the entry v of the byte y, and that of a byte outside the alphabet for any other
abbrev pub either : ℕ → ℕ → ℕ → ℕ → ℕ → ℕ
either b x u y v = pick (eqb b x) u (pick (eqb b y) v 240)

-- the n bytes from lo on have the entries that the rule f says
pub ruled : (lo n : ℕ) (f : ℕ → ℕ) → T (every_below (λ k. eqb (f (lo + k)) (entry (lo + k))) n) → (b : ℕ) → lo ≤ b → b < lo + n → f b ≡ entry b
ruled lo n f t b l h =
    let z : lo + (b - lo) ≡ b = omega arith in
    subst (λ (m : ℕ). f m ≡ entry m) z (eqb→eq (f (lo + (b - lo))) (entry (lo + (b - lo))) (below (λ k. eqb (f (lo + k)) (entry (lo + k))) n t (b - lo) (omega arith)))
