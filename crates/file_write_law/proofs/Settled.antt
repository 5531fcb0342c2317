-- No line of a written text begins with `#`, and each text ends a line: so no label ends a text too early, and each stands first on its line. Assumes nothing.
use Rattle.std.specs.Prelude.{◌≡◌, refl, Bool, true, false, List, [], ◌∷◌, ◌++◌, ℕ, eqb}
use Rattle.std.proofs.Common.{sym, subst, arith, ne_eqb}
use Rattle.terms.specs.Logic.{pick, no_way}
use Rattle.label_spec.specs.Names.{blank}
use Rattle.table_write_law.proofs.EightyBytes.{LinedOf, over, ends, byte, Inner}
use Rattle.file_write_spec.specs.Records.{crlf}
use Rattle.file_write_law.specs.Labels.{Settles}
use Rattle.file_write_law.specs.Settled.{OneLine}

-- ---- bytes and line ends

goes_on : (b : ℕ) (t : List ℕ) → (b ≡ 10 → ⊥) → Settles false t → Settles false (b ∷ t)
goes_on b t h x = subst (λ (q : Bool). Settles q t) (sym (ne_eqb b 10 h)) x

line_ends : (m : Bool) (t : List ℕ) → Settles true t → Settles m (13 ∷ 10 ∷ t)
unfolding blank
line_ends true t x = (λ e. omega arith, x)
line_ends false t x = x

pub line_settles : (t : List ℕ) → OneLine t → Settles false (t ++ crlf)
line_settles [] h = tt
line_settles (b ∷ t) h = goes_on b (t ++ crlf) h.0.1 (line_settles t h.1)

-- ---- a body, from a place after c bytes of its line; only blanks may stand before it, and do at a line's start

pub lined_settles : {c : ℕ} {t : List ℕ} → LinedOf Inner c t → (m : Bool) → (c ≡ 0 → m ≡ true) → Settles m t
lined_settles over true h = tt
lined_settles over false h = no_way (h refl)
lined_settles (ends {s = s} l x) m h = line_ends m s (lined_settles x true (λ _. refl))
lined_settles (byte {b = b} {s = s} k x) false h = let a = k.0 in goes_on b s (λ e. omega arith) (lined_settles x false (λ e. absurd (omega arith)))
lined_settles (byte {b = b} {s = s} k x) true h = (k.1, lined_settles x (pick (blank b) true (eqb b 10)) (λ e. absurd (omega arith)))
