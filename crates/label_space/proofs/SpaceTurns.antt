-- The turns over blanks, line ends and comments: no place of the code is named here.
use mathlib.Core.Path.{◌≡◌, sym, ◌∙◌}
use mathlib.Core.Bool.{Bool, true, false, not}
use mathlib.Core.List.{List}
use Prim.Native.Nat.{ℕ, ◌+◌, ◌<◌, ◌≤◌}
use native.Mathlib.Omega.{arith}
use lib.Dec.{eqb}
use lib.ListN.{length, get_or}
use Rattle.terms.specs.Logic.{no_way}
use Rattle.label_spec.specs.Space.{space, opens, past_at}
use Rattle.label_spec.specs.SpaceLaws.{past_end, past_in, past_space, past_opens, past_stop}
use Rattle.label_space.specs.Passed.{Passed}

-- Passed up to i; t: all is passed over up to the next LF.
abbrev pub Gone : List ℕ → ℕ → ℕ → Bool → Type 0
Gone s at i t = (at ≤ i) × (i ≤ length s) × (past_at s at false ≡ past_at s i t)

module _ (s : List ℕ) (at i : ℕ) where
  pub gone_end : (t : Bool) → Gone s at i t → length s ≤ i → Passed s at i
  gone_end t x h = record { low = x.0; high = x.1; is = sym (x.2 ∙ past_end s i t h) }

  module _ (h : i < length s) where
    pub gone_in : (t : Bool) → t ≡ true → Gone s at i t → Gone s at (i + 1) (not (eqb (get_or s i 0) 10))
    gone_in true e x = (omega (arith, x.0), omega arith, x.2 ∙ past_in s i h)
    gone_in false e x = no_way e

    pub gone_space : (t : Bool) → t ≡ false → space (get_or s i 0) ≡ true → Gone s at i t → Gone s at (i + 1) t
    gone_space true e g x = no_way (sym e)
    gone_space false e g x = (omega (arith, x.0), omega arith, x.2 ∙ past_space s i h g)

    module _ (g : space (get_or s i 0) ≡ false) where
      pub gone_opens : (t : Bool) → t ≡ false → opens (get_or s i 0) (get_or s (i + 1) 0) ≡ true → Gone s at i t → Gone s at (i + 1) true
      gone_opens true e o x = no_way (sym e)
      gone_opens false e o x = (omega (arith, x.0), omega arith, x.2 ∙ past_opens s i h g o)

      pub gone_stop : (t : Bool) → t ≡ false → opens (get_or s i 0) (get_or s (i + 1) 0) ≡ false → Gone s at i t → Passed s at i
      gone_stop true e o x = no_way (sym e)
      gone_stop false e o x = record { low = x.0; high = x.1; is = sym (x.2 ∙ past_stop s i h g o) }
