-- Refusal 7: does anything but the line's end follow a head? No place of the code is named here. Assumes nothing.
use mathlib.Core.Path.{◌≡◌, refl, sym, ap, ◌∙◌}
use mathlib.Core.Bool.{Bool, true, false}
use mathlib.Core.List.{List}
use Prim.Native.Nat.{ℕ, ◌<◌}
use native.Mathlib.Omega.{arith}
use lib.ListN.{get_or}
use Rattle.alphabet_spec.specs.Kinds.{tabs_too}
use Rattle.alphabet_spec.specs.Digits.{Run, long, run, digits, some}
use Rattle.alphabet_spec.specs.Bytes.{Byte, digit, lead, sign, quest, blank, point, lf, cr, dollar, other, kind}
use Rattle.alphabet_spec.specs.Entries.{code, entry_at, entry}
use Rattle.alphabet_spec.proofs.EntryLaws.{entry_in, at_entry}
use Rattle.table_spec.specs.Values.{Value, own, value_of, room}
use Rattle.table_spec.specs.Reading.{Tokens, Mode, inner, valued, inside, step, bare}
use Rattle.table_lines.specs.Seen.{behind, here, seen_step}
use Rattle.table_lines.specs.Ends.{Blanked, Ended}
use Rattle.std.specs.Prelude.{Some, None}

bare_valued : (K : ℕ → Mode → Tokens) (a : ℕ) (f : ℕ → Value) (x : Run) → bare (valued K a f x) ≡ false
bare_valued K a f long = refl
bare_valued K a f (run v n) = refl

-- a byte below a point's entry, and no blank, begins a value
bare_inside : (K : ℕ → Mode → Tokens) (a : ℕ) (t : List ℕ) (q : Bool) (c : Byte) → code c < 160 → (code c ≡ 112 → ⊥) → bare (inside K a t q c) ≡ false
unfolding inside
bare_inside K a t true (digit d) l n = bare_valued K a (own false) (digits t 9 d 0)
bare_inside K a t false (digit d) l n = refl
bare_inside K a t q (lead k d) l n = bare_valued K a (value_of k) (digits t (room k d) d 0)
bare_inside K a t q (sign m) l n = bare_valued K a (own m) (some (digits t 10 0 0))
bare_inside K a t q quest l n = refl
bare_inside K a t q blank l n = absurd (n refl)
bare_inside K a t q point l n = absurd (omega arith)
bare_inside K a t q lf l n = absurd (omega arith)
bare_inside K a t q cr l n = absurd (omega arith)
bare_inside K a t q dollar l n = absurd (omega arith)
bare_inside K a t q other l n = absurd (omega arith)

pub bare_value : (s : List ℕ) (at b : ℕ) → Blanked s at b → entry_at s b < 160 → false ≡ bare (here s at)
unfolding step entry
bare_value s at b h l =
    let i = entry_in s b (λ x. omega arith) in
    let e = at_entry s b i in
    sym (ap bare (h.within ∙ seen_step s b (inner (behind s b)) i) ∙ bare_inside _ b _ (behind s b) (kind tabs_too (get_or s b 0)) (rw e at l) (λ x. h.stops (e ∙ x)))

pub bare_end : (s : List ℕ) (at b j : ℕ) → Blanked s at b → Ended s b (Some j) → true ≡ bare (here s at)
bare_end s at b j h e = sym (ap bare (h.within ∙ e.within (behind s b)))

pub bare_bad : (s : List ℕ) (at b : ℕ) → Blanked s at b → Ended s b None → false ≡ bare (here s at)
bare_bad s at b h e = sym (ap bare (h.within ∙ e.1 (behind s b)))
