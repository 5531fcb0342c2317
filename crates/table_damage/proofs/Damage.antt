-- A damaged line is caught: the theorem. Assumes nothing.
use Rattle.std.specs.Prelude.{◌≡◌, ℕ, ◌≤◌, ℤ, length, Result, Ok, Err}
use Rattle.std.proofs.Math.Path.{refl, sym, ap}
use Rattle.std.proofs.Common.{◌∙◌, subst}
use Rattle.std.proofs.Math.Bool.{true}
use mathlib.Core.List.{List, [], ◌∷◌, ◌++◌}
use Rattle.terms.specs.Refusals.{refusal_in}
use Rattle.table_spec.specs.Frame.{Rules, rules, longest_body, abscissa}
use Rattle.table_spec.specs.Values.{Own, after}
use Rattle.table_spec.specs.Reading.{fresh, tokens, Answer, refuse, accept, push, judge, long_line, sooner, read, read_table, stored}
use Rattle.table_law.proofs.LineLengths.{sooner_accept, short_spelled, spelled_short}
use Rattle.table_law.specs.Outcome.{Allowed}
use Rattle.table_law.proofs.Outcome.{accepted_allowed, allowed_read}
use Rattle.line_law.specs.WholeLine.{reading, read_is, line_starts}
use Rattle.table_read.specs.Answers.{told, TableSays}
use Rattle.table_damage.specs.Moved.{alike_tokens}
use Rattle.table_damage.specs.Lines.{onto, place_after, lines_then, push_accept, at, Caught}
use Rattle.table_damage.proofs.Lines.{next_fails}
use Rattle.table_damage.specs.Damage.{next_value, Exchanged}
use Rattle.terms.specs.declared.Refusal.{Refusal}

module _ (R : Rules) where
  -- in what a body says
  caught : (ws : List (List ℕ)) (x y m zs : List ℕ) → Exchanged R ws x y → read R (onto (ws ++ x ∷ []) m) ≡ accept zs → Caught (next_value R (ws ++ y ∷ []) m) (read R (onto (ws ++ y ∷ []) m))
  unfolding push sooner
  caught ws x y m zs d accepted =
      let xs = ws ++ x ∷ [] in
      let ys = ws ++ y ∷ [] in
      let b = d.before in
      let n = d.now in
      let ax = place_after xs 0 in
      let ay = place_after ys 0 in
      let tx = tokens R.tabs m 0 ax fresh in
      let ty = tokens R.tabs m 0 ay fresh in
      let px = rw b.read_so at (lines_then R xs m 0 0 0 (after Own) d.whole) in
      let w = push_accept b.points (reading R m ax b.count b.last (after b.form)) zs (sym px ∙ sym (read_is R (onto xs m)) ∙ accepted) in
      let k = sooner_accept (long_line true ax m) (judge R tx b.count b.last (after b.form)) w.0 w.1 in
      let q = line_starts R.tabs m ax in
      let alike = alike_tokens R.tabs m 0 ax ay fresh in
      let r = next_fails R b.count b.last n.last d.another_ordinate tx ty b.form n.form w.0 alike q.0 q.1 d.in_dif d.also_in_dif k.1 in
      let same : b.count ≡ n.count = d.same_number in
      let py = rw n.read_so at (lines_then R ys m 0 0 0 (after Own) d.whole_now) in
      let ends : push n.points (reading R m ay n.count n.last (after n.form)) ≡ refuse 10 r.0 =
      rw (← same, spelled_short (short_spelled ax m k.0) ay, r.2) refl in
      (r.0, r.1, read_is R (onto ys m) ∙ py ∙ ends)

module _ (f l : ℤ) (n : ℕ) (out : List ℤ) where
  -- the rules that F, L and N make
  abbrev R : Rules
  R = rules (abscissa f) (abscissa l) n

  abbrev Accepting : Result ℕ Refusal → Type 0
  Accepting (Ok k) = Unit {0}
  Accepting (Err r) = ⊥

  accepts : (s : List ℕ) (k : ℕ) (a : Answer) → read_table f l n s (length out) ≡ a → Ok k ≡ told n s a → (zs : List ℕ) × (read_table f l n s (length out) ≡ accept zs)
  accepts s k (refuse c b) e h = absurd (subst Accepting h tt)
  accepts s k (accept zs) e h = (zs, e)

  -- THE THEOREM. A body that the reader accepts, of the lines ws, the line x and the rest m, with the line y in x's place, within the length limit of a body: the reader
  -- refuses it with 10, at the first value of the next line that is neither blank nor comment, with its line and column, and no entry of the lent slice is altered.
  pub damaged_line_caught : (ws : List (List ℕ)) (x y m : List ℕ) (out₁ out₂ : List ℤ) (k : ℕ) (r : Result ℕ Refusal) → Exchanged R ws x y
      → TableSays f l n (onto (ws ++ x ∷ []) m) out out₁ (Ok k)
      → length (onto (ws ++ y ∷ []) m) ≤ longest_body
      → TableSays f l n (onto (ws ++ y ∷ []) m) out out₂ r
      → (c : ℕ) × (next_value R (ws ++ y ∷ []) m ≡ at c) × (r ≡ Err (refusal_in (onto (ws ++ y ∷ []) m) 10 c)) × (out₂ ≡ out)
  unfolding stored
  damaged_line_caught ws x y m out₁ out₂ k r d old short new =
      let sx = onto (ws ++ x ∷ []) m in
      let sy = onto (ws ++ y ∷ []) m in
      let z = accepts sx k (read_table f l n sx (length out)) refl old.answers in
      let h = accepted_allowed f l n sx (length out) z.0 z.1 in
      let g : Allowed f l n sy (length out) = record { frame = h.frame; body = short; room = h.room } in
      let t = caught R ws x y m z.0 d (sym (allowed_read f l n sx (length out) h) ∙ z.1) in
      let e = allowed_read f l n sy (length out) g ∙ t.2 in
      (t.0, t.1, new.answers ∙ ap (told n sy) e, new.leaves ∙ ap (stored out) e)
