-- One line: from its head, its first value and the rest of its row to what it did. No place of the code is named here. Assumes nothing.
use mathlib.Core.Path.{◌≡◌, refl, sym, ap, ◌∙◌, subst}
use mathlib.Core.Bool.{Bool, true, false}
use mathlib.Core.List.{List, [], ◌∷◌}
use Prim.Native.Nat.{ℕ, ◌+◌, ◌-◌, ◌≤◌, ◌<◌}
use native.Mathlib.Omega.{arith}
use native.Mathlib.Numerals.{add-one}
use lib.Dec.{ltb, eqb}
use lib.IntN.{ℤ}
use lib.ListN.{drop, set}
use borrow.Author.Tests.{lt-ltb, le-ltb, eq-eqb, ne_eqb}
use Rattle.terms.specs.Logic.{pick, both, by_case, no_way}
use Rattle.alphabet_spec.specs.Kinds.{tabs_too}
use Rattle.table_spec.specs.Frame.{passes, entry_for}
use Rattle.table_spec.specs.Values.{Form, Dup, is_dif, Spot, first, index}
use Rattle.table_spec.specs.Reading.{head, fresh, says, adds, Answer, refuse, push, judge}
use Rattle.table_lines.specs.Seen.{seen, behind, here}
use Rattle.table_lines.specs.Heads.{Topped}
use Rattle.table_spec.specs.ReadingLaws.{push_push}
use Rattle.frame.specs.declared.Frame.{Frame}
use Rattle.table_pass.specs.Rows.{frame_rules, Between, LineSays}
use Rattle.table_values.specs.declared.Row.{Row}
use Rattle.plain_spec.specs.Plain.{ordinates}
use Rattle.plain_law.specs.Within.{Within, tokens_within}
use Rattle.plain_law.specs.Rowwise.{spot_of, spot_dif, after_row, beyond_line, row_says, Headed, row_bare, row_checked, row_opened}
use Rattle.plain_law.specs.Growing.{values_first, first_one}
use Rattle.plain_values.specs.Means.{form_of, Right, points_of}
use Rattle.plain_expand.specs.Grows.{NextSays, rest_of, Done, ExpandSays, Expands}
use Rattle.plain_rows.specs.Rows.{after_head, after_rest}
use Rattle.plain_values.specs.declared.Form.{Form as Kept}
use Rattle.plain_values.specs.declared.Form.TheVariants as form
use Rattle.plain_values.specs.declared.Points.{Points}
use Rattle.plain_expand.specs.declared.Grows.{Grows}
use Rattle.std.specs.Prelude.{Result, Ok, Err}
use Rattle.terms.specs.declared.Fault.{Fault}
use Rattle.plain_expand.specs.declared.Next.{Next}
use Rattle.terms.specs.Refusals.{fault_at}

here_within : (s : List ℕ) (b : ℕ) → Within (here s b)
unfolding seen
here_within s b = tokens_within tabs_too (drop b s) 0 b (behind s b)

both_not : (t : Bool) → both t false ≡ false
both_not true = refl
both_not false = refl

-- in DIF form the last ordinate is not missing
dif_some : (f : Kept) {q : ℕ} → Right f q → is_dif (form_of f) ≡ true → 0 < q
dif_some form.Own h e = no_way e
dif_some form.Missing h e = no_way e
dif_some (form.Dif m d) h e = h.0
dif_some (form.Dup b) h e = h e

module _ (fr : Frame) (s : List ℕ) (r : Row) (at : ℕ) {h u j : ℕ} (t : Topped s at h u j) (few : r.k ≤ fr.points) where
  -- the head passes
  abbrev pub ok : Bool
  ok = passes fr.first fr.last fr.points h u (index r.dif r.k)

  abbrev Says : ℕ → Spot → Answer → Type 0
  Says p w x = Headed (frame_rules fr) at h u r.k p w few (here s j) x

  opened : (p : ℕ) (w : Spot) → judge (frame_rules fr) (seen s at fresh) r.k p w ≡ judge (frame_rules fr) (head at h u (here s j)) r.k p w
  opened p w = rw (t.law, t.clear) refl

  told : (x : Answer) (p : ℕ) (w : Spot) → Between r p w → Says p w x → judge (frame_rules fr) (seen s at fresh) r.k p w ≡ pick ok x (refuse 6 at)
  told x p w b g = opened p w ∙ g ∙ ap (λ (d : Bool). pick (passes fr.first fr.last fr.points h u (index d r.k)) x (refuse 6 at)) b.form

  refused_line : (n a : ℕ) → ((p : ℕ) (w : Spot) → Between r p w → Says p w (refuse n a)) → (pb : Bool) → pb ≡ ok → (out out' : List ℤ)
      → LineSays (frame_rules fr) s r at out out' (after_head pb at n a)
  refused_line n a g pb z out out' =
      rw z (by_case (λ y. ok ≡ y → LineSays (frame_rules fr) s r at out out' (after_head y at n a)) ok
      (λ _ e p w b. told (refuse n a) p w b (g p w b) ∙ rw e refl) (λ _ e p w b. told (refuse n a) p w b (g p w b) ∙ rw e refl) refl)

  -- 7
  pub bare_line : {i : ℕ} → NextSays s j 0 (Dup false) (Ok (Next.End i)) → (pb : Bool) → pb ≡ ok → (out out' : List ℤ) → LineSays (frame_rules fr) s r at out out' (after_head pb at 7 at)
  bare_line {i} g = refused_line 7 at (λ p w b. rw g.2 (row_bare (frame_rules fr) at h u r.k p w few (seen s i fresh)))

  -- the fault of the first value
  pub bad_line : {n a : ℕ} → NextSays s j 0 (Dup false) (Err (fault_at n a)) → (pb : Bool) → pb ≡ ok → (out out' : List ℤ) → LineSays (frame_rules fr) s r at out out' (after_head pb at n a)
  bad_line {n} {a} g =
      refused_line n a (λ p w b. row_says (frame_rules fr) at h u (here s j) (here_within s j) r.k p w few ∙ rw (g.1, values_first (here s j), g.0) refl)

  module _ {p₀ : Points} {a b : ℕ} (g : NextSays s j 0 (Dup false) (Ok (Next.Gives p₀ a b))) where
    -- the form of the first value
    abbrev f₀ : Form
    f₀ = form_of p₀.form

    one : says (first false) 0 g.3.0 ≡ adds (p₀.last ∷ []) f₀
    one = first_one g.3.0 (points_of p₀) f₀ g.3.2.is ∙ ap (λ (u : ℕ). adds (u ∷ []) f₀) g.3.2.last

    -- the row after its first ordinate, at the index k
    abbrev pub start : ℕ → Grows
    start k = record { at = b; k = k; q = p₀.last; form = p₀.form }

    abbrev further : ℕ → ℕ → Answer
    further k p = after_row (frame_rules fr) (beyond_line (frame_rules fr) (here s b)) (rest_of fr.points s (start k)) k p

    -- the rest of the row, as it was expanded
    further_bad : (k p n c : ℕ) (out out' : List ℤ) → ExpandSays fr.points s (start k) out out' (Err (fault_at n c)) → further k p ≡ refuse n c
    further_bad k p n c out out' e = rw e refl

    further_done : (k i : ℕ) (c : Grows) {out out' : List ℤ} → Done fr.points s (start k) out out' c i
        → further k p₀.last ≡ push (ordinates (rest_of fr.points s (start k))) (judge (frame_rules fr) (seen s i fresh) c.k c.q (spot_of (is_dif (form_of c.form))))
    further_done k i c d = rw (d.fine, ← d.count, d.last, d.form, d.beyond) refl

    between : (i : ℕ) (c : Grows) → (is_dif (form_of c.form) ≡ true → 0 < c.q)
        → Between (record { at = i; k = c.k; q = c.q; dif = is_dif (form_of c.form) }) c.q (spot_of (is_dif (form_of c.form)))
    between i c o = record { form = spot_dif (is_dif (form_of c.form)); last = λ e. (refl, o e) }

    -- ---- a check line

    module _ (d : r.dif ≡ true) where
      checked_says : (p : ℕ) (w : Spot) → Between r p w → Says p w (pick (both (ltb 0 p₀.last) (eqb p₀.last p)) (further r.k p) (refuse 10 a))
      checked_says p w y = rw g.3.1 (row_checked (frame_rules fr) at h u r.k p w few a p₀.last f₀ g.3.0 (here s b) (here_within s b) one (y.form ∙ d))

      -- 10
      pub unequal_line : (p₀.last ≡ r.q → ⊥) → (pb : Bool) → pb ≡ ok → (out out' : List ℤ) → LineSays (frame_rules fr) s r at out out' (after_head pb at 10 a)
      unequal_line o =
          refused_line 10 a (λ p w y. rw (both_not (ltb 0 p₀.last)) at (rw (ne_eqb p₀.last p (λ e. o (e ∙ (y.last d).0))) at (checked_says p w y)))

      equal_says : p₀.last ≡ r.q → (p : ℕ) (w : Spot) → Between r p w → Says p w (further r.k p₀.last)
      equal_says o p w y =
          let z = y.last d in
          let e : p ≡ p₀.last = z.0 ∙ sym o in
          let l : 0 < p₀.last = rw o z.1 in
          subst (λ (i : ℕ). Says p w (further r.k i)) e (rw (lt-ltb 0 p₀.last l, eq-eqb p₀.last p (sym e)) at (checked_says p w y))

      pub equal_line : p₀.last ≡ r.q → (rest : Result (Grows × ℕ) Fault) (out out' : List ℤ) → Expands fr.points s (start r.k) out out' rest → (pb : Bool) → pb ≡ ok
          → LineSays (frame_rules fr) s r at out out' (after_rest pb at rest)
      equal_line o (Err t) out out' x pb z =
          refused_line t.number t.place (λ p w y. subst (λ (i : Answer). Says p w i) (further_bad r.k p₀.last t.number t.place out out' x.says) (equal_says o p w y)) pb z out out'
      equal_line o (Ok (c, i)) out out' x pb z =
          rw z (by_case (λ y. ok ≡ y → LineSays (frame_rules fr) s r at out out' (after_rest y at (Ok (c, i)))) ok
          (λ _ e. let l = t.low in let m = g.0 in let n = x.says.1 in let v = x.says.3 in (
            omega arith,
            record { high = x.says.0; small = x.says.2.small; few = x.says.2.few },
            λ p w y. record {
              points = ordinates (rest_of fr.points s (start r.k));
              ordinate = c.q;
              spot = spot_of (is_dif (form_of c.form));
              between = between i c (dif_some c.form x.says.2.right);
              count = v.count;
              stored = v.laid;
              law = told _ p w y (equal_says o p w y) ∙ rw e (further_done r.k i c v);
            },
          ))
          (λ _ e p w y. told _ p w y (equal_says o p w y) ∙ rw e refl) refl)

    -- ---- another line

    module _ (d : r.dif ≡ false) where
      opened_says : (p : ℕ) (w : Spot) → Between r p w → Says p w (pick (ltb r.k fr.points) (push (p₀.last ∷ []) (further (r.k + 1) p₀.last)) (refuse 11 a))
      opened_says p w y =
          rw (g.3.1, add-one r.k) (row_opened (frame_rules fr) at h u r.k p w few a p₀.last f₀ g.3.0 (here s b) (here_within s b) one (y.form ∙ d))

      -- 11
      pub full_line : fr.points ≤ r.k → (pb : Bool) → pb ≡ ok → (out out' : List ℤ) → LineSays (frame_rules fr) s r at out out' (after_head pb at 11 a)
      full_line l = refused_line 11 a (λ p w y. rw (le-ltb r.k fr.points l) at (opened_says p w y))

      more_says : r.k < fr.points → (p : ℕ) (w : Spot) → Between r p w → Says p w (push (p₀.last ∷ []) (further (r.k + 1) p₀.last))
      more_says l p w y = rw (lt-ltb r.k fr.points l) at (opened_says p w y)

      pub more_line : r.k < fr.points → (rest : Result (Grows × ℕ) Fault) (out mid out' : List ℤ) → mid ≡ set out r.k (entry_for p₀.last) → Expands fr.points s (start (r.k + 1)) mid out' rest
          → (pb : Bool) → pb ≡ ok → LineSays (frame_rules fr) s r at out out' (after_rest pb at rest)
      unfolding push
      more_line l (Err t) out mid out' q x pb z =
          refused_line t.number t.place (λ p w y. subst (λ (i : Answer). Says p w (push (p₀.last ∷ []) i)) (further_bad (r.k + 1) p₀.last t.number t.place mid out' x.says) (more_says l p w y)) pb z out out'
      more_line l (Ok (c, i)) out mid out' q x pb z =
          rw z (by_case (λ y. ok ≡ y → LineSays (frame_rules fr) s r at out out' (after_rest y at (Ok (c, i)))) ok
          (λ _ e. let lo = t.low in let m = g.0 in let n = x.says.1 in let v = x.says.3 in let count = v.count in
          let us = ordinates (rest_of fr.points s (start (r.k + 1))) in (
            omega arith,
            record { high = x.says.0; small = x.says.2.small; few = x.says.2.few },
            λ p w y. record {
              points = p₀.last ∷ us;
              ordinate = c.q;
              spot = spot_of (is_dif (form_of c.form));
              between = between i c (dif_some c.form x.says.2.right);
              count = omega arith;
              stored = v.laid ∙ rw (q, add-one r.k) refl;
              law = told _ p w y (more_says l p w y)
                  ∙ rw e (ap (push (p₀.last ∷ [])) (further_done (r.k + 1) i c v)
                  ∙ push_push (p₀.last ∷ []) us (judge (frame_rules fr) (seen s i fresh) c.k c.q (spot_of (is_dif (form_of c.form)))));
            },
          ))
          (λ _ e p w y. told _ p w y (more_says l p w y) ∙ rw e refl) refl)
