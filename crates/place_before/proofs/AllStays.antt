-- All before the place of a refusal can stay, or is one of the two exceptions: the theorems, in what a body says. Assumes nothing.
use Rattle.std.specs.Prelude.{◌≡◌, refl, Bool, List, [], ◌++◌, ℕ, suc, ◌+◌, ◌≤◌, length, take}
use Rattle.std.proofs.Common.{sym, ◌∙◌, append_assoc, arith, length-append, take_at}
use Rattle.std.proofs.Math.Path.{ap}
use Rattle.terms.specs.Logic.{no_way}
use Rattle.table_spec.specs.Frame.{Rules, longest_line}
use Rattle.table_spec.specs.Values.{Own, after}
use Rattle.table_spec.specs.Reading.{refuse, dif_before, read, line_length}
use Rattle.line_law.specs.WholeLine.{Done, read_is}
use Rattle.plain_law.specs.Single.{Single}
use Rattle.plain_law.specs.Lines.{cut}
use Rattle.place_before.specs.Before.{Writable, AfterHead, is_3, is_5, is_8, is_9, is_10, is_11, Elsewhere, is_4, is_6, is_7, is_12, is_13, is_16, CanStay, Before, can_stay, but_full, but_narrow}
use Rattle.place_before.proofs.Completes.{completes}
use Rattle.place_before.specs.ValueLaws.{dif_owed}
use Rattle.place_before.specs.OneLine.{bytes_before, bytes_all, no_lf_end}
use Rattle.place_before.proofs.LineStops.{FaultIn, Stops, at_fault, at_end, Fate, closes, head_only, line_fate}
use Rattle.place_before.specs.Lines.{Behind, Stopped, faulty, over_there, Where, at_start, on_a_line, find}
use Rattle.place_before.proofs.Stays.{lines_stay, line_stays, head_stays}

module _ (R : Rules) (W : Writable R) (kept : List ℕ) (b : Behind R kept 0 0 0 (after Own)) where
  -- where a line stops, there is room for what closes it
  room : {c z e : ℕ} {t : List ℕ} {d : Done} (k r : List ℕ) → t ≡ k ++ r → Single t → line_length t ≤ longest_line → Stops R e d r → Stopped c z e t d
      → (z + length r ≡ e) × (length k ≤ longest_line) × ((due : Bool) → FaultIn due d → AfterHead due c × (suc (length k) ≤ longest_line))
  room k r x g n (at_fault h m) faulty =
      let y = bytes_before k r (rw x at g) m in
      let v : line_length (k ++ r) ≤ longest_line = rw x at n in
      (h, omega (arith, y, v), λ _ q. (q, omega (arith, y, v)))
  room {t = t} k r x g n (at_end h) (over_there m e) =
      let y = h (no_lf_end k r (rw x at m)) in
      let v = bytes_all t m in
      let q = ap length x in
      let p = ap length y in
      (omega (arith, e, p), omega (arith, v, q, n, length-append k r), λ _ f. absurd f)

  -- what stands before the place on its line
  on_line_stays : {c z e : ℕ} {t : List ℕ} {d : Done} → Single t → line_length t ≤ longest_line → Stopped c z e t d → Fate R e b.count b.last (dif_before b.spot) t d
      → (k : List ℕ) × (r : List ℕ) × (t ≡ k ++ r) × (z + length r ≡ e) × Before R c (kept ++ k)
  on_line_stays g n q (closes us j l due k r x st y o f) =
      let m = room k r x g n st q in
      let w = completes R W j l due y o in
      (k, r, x, m.0, can_stay (line_stays R W kept b (dif_before b.spot) refl k [] w.text (us ++ w.ordinates) (omega (arith, m.1)) (f w.ordinates w.text w.body) w.short))
  on_line_stays {c = c} g n q (head_only k r x st y h f) =
      let m = room k r x g n st q in
      (k, r, x, m.0, head_stays R W kept b c k (dif_before b.spot) refl f h (m.2 (dif_before b.spot) y).0 (m.2 (dif_before b.spot) y).1)

-- THE THEOREM, of what a body says: for rules whose heads can be written, and every refusal
pub before_place : (R : Rules) → Writable R → (s : List ℕ) (c z : ℕ) → read R s ≡ refuse c z → Before R c (take z s)
before_place R W s c z e = stays (find R (cut s) 0 0 0 (after Own) c z (omega arith) (λ f. no_way f) (sym (read_is R s) ∙ e))
  where
    stays : Where R s c z 0 0 0 (after Own) → Before R c (take z s)
    stays (at_start kept rest f b y) = rw (f, take_at kept rest z (omega (arith, y, b.place_is))) (can_stay (lines_stay R W kept b))
    stays (on_a_line kept t rest f b g n q) =
        let x = on_line_stays R W kept b g n q (line_fate R t b.place b.count b.last b.spot g b.fits (λ v. b.owes (dif_owed b.spot v))) in
        let k = x.0 in
        let r = x.1 in
        let y : s ≡ (kept ++ k) ++ (r ++ rest) = f ∙ ap (λ (v : List ℕ). kept ++ (v ++ rest)) x.2 ∙ ap (λ (v : List ℕ). kept ++ v) (append_assoc k r rest) ∙ sym (append_assoc kept k (r ++ rest)) in
        let m = ap length x.2 in
        let l : length (kept ++ k) ≡ z = omega (arith, x.3, b.place_is, m, length-append k r, length-append kept k) in
        rw (y, take_at (kept ++ k) (r ++ rest) z l) x.4

-- no value gets them
elsewhere : {c : ℕ} → Elsewhere c → (c ≡ 3 → ⊥) × (c ≡ 5 → ⊥) × (c ≡ 8 → ⊥) × (c ≡ 9 → ⊥) × (c ≡ 10 → ⊥) × (c ≡ 11 → ⊥)
elsewhere is_4 = (λ e. omega arith, λ e. omega arith, λ e. omega arith, λ e. omega arith, λ e. omega arith, λ e. omega arith)
elsewhere is_6 = (λ e. omega arith, λ e. omega arith, λ e. omega arith, λ e. omega arith, λ e. omega arith, λ e. omega arith)
elsewhere is_7 = (λ e. omega arith, λ e. omega arith, λ e. omega arith, λ e. omega arith, λ e. omega arith, λ e. omega arith)
elsewhere is_12 = (λ e. omega arith, λ e. omega arith, λ e. omega arith, λ e. omega arith, λ e. omega arith, λ e. omega arith)
elsewhere is_13 = (λ e. omega arith, λ e. omega arith, λ e. omega arith, λ e. omega arith, λ e. omega arith, λ e. omega arith)
elsewhere is_16 = (λ e. omega arith, λ e. omega arith, λ e. omega arith, λ e. omega arith, λ e. omega arith, λ e. omega arith)

not_after_head : {due : Bool} {c : ℕ} → Elsewhere c → AfterHead due c → ⊥
not_after_head n is_3 = (elsewhere n).0 refl
not_after_head n is_5 = (elsewhere n).1 refl
not_after_head n is_8 = (elsewhere n).2 refl
not_after_head n is_9 = (elsewhere n).3 refl
not_after_head n is_10 = (elsewhere n).4 refl
not_after_head n is_11 = (elsewhere n).5 refl

-- with them there is no exception
pub all_stays : (R : Rules) → Writable R → (s : List ℕ) (c z : ℕ) → read R s ≡ refuse c z → Elsewhere c → CanStay R (take z s)
all_stays R W s c z e n = only (before_place R W s c z e)
  where
    only : Before R c (take z s) → CanStay R (take z s)
    only (can_stay x) = x
    only (but_full m x) = absurd (not_after_head n m)
    only (but_narrow m x) = absurd (not_after_head n m)
