-- The turns from line to line, to the next label: no place of the code is named here.
use mathlib.Core.Path.{◌≡◌, refl, sym, ap, ◌∙◌}
use mathlib.Core.Bool.{Bool, true, false, not, ◌&&◌, ◌||◌, and-true}
use mathlib.Core.List.{List, [], ◌∷◌}
use Prim.Native.Nat.{ℕ, ◌+◌, ◌<◌, ◌≤◌}
use native.Mathlib.Omega.{arith}
use lib.Dec.{eqb, ltb}
use lib.ListN.{length, get_or, take}
use Rattle.std.specs.List.{prefix_len, starts_with}
use Rattle.text.proofs.Passing.{differs, equals, differ, equal, turned, rest, get_or_rest, passed}
use borrow.Author.Tests.{eqb-true, eqb-false, ltb-true, ltb-false}
use mathlib.Core.Logic.{inl, inr}
use Rattle.terms.specs.Logic.{pick, no_way, by_case}
use Rattle.terms.specs.Places.{inside}
use Rattle.label_spec.specs.Names.{name_in, blank}
use Rattle.label_spec.specs.Labels.{longest_name, from, hashed}
use Rattle.label_spec.specs.LabelLaws.{eq_at, spot_yes, spot_no, eq_end, eq_here, eq_line, eq_on, from_end, skip_on, skip_line, blank_on, no_label, hash_in, resume, label_none, label_long, label_at}
use Rattle.label_spec.specs.declared.Label.{Label}
use Rattle.label_lines.specs.Post.{NameEnd, Within, LineEnd, Unblanked, Marked, Met, MetIn}

-- The line's first `=`, sought from a, has not come up to i.
abbrev pub Sought : List ℕ → ℕ → ℕ → Type 0
Sought s a i = (a ≤ i) × (i ≤ length s) × (eq_at s a ≡ eq_at s i) × (from s a false ≡ from s i false)

module _ (s : List ℕ) (a i : ℕ) (x : Sought s a i) where
  sought_end : length s ≤ i → NameEnd s a i
  sought_end h = record { low = x.0; high = x.1; is = x.2 ∙ eq_end s i h; same = x.3 }

  module _ (h : i < length s) where
    sought_here : get_or s i 0 ≡ 61 → NameEnd s a i
    sought_here e = record { low = x.0; high = x.1; is = x.2 ∙ eq_here s i h e; same = x.3 }

    sought_line : get_or s i 0 ≡ 10 → NameEnd s a i
    sought_line e = record { low = x.0; high = x.1; is = x.2 ∙ eq_line s i h e; same = x.3 }

    sought_on : (get_or s i 0 ≡ 61 → ⊥) → (get_or s i 0 ≡ 10 → ⊥) → Sought s a (i + 1)
    sought_on m n = (omega (arith, x.0), omega arith, x.2 ∙ eq_on s i h m n, x.3 ∙ skip_on s i h n)

-- of the bytes that the search passes over, none is `=` or LF
pub sought_passed : (s : List ℕ) (a : ℕ) (h : a ≤ length s) (n : ℕ) → n ≡ length (take (prefix_len (λ b. not (eqb b 61) && not (eqb b 10)) (rest s a)) (rest s a)) → NameEnd s a (a + n)
sought_passed s a h n e =
    let p = passed s a (length s) h (omega arith) (Sought s a) (λ b. not (eqb b 61) && not (eqb b 10)) (omega arith, h, refl, refl)
    (λ i l m t x. let d = differ (get_or s i 0) 61 10 t in sought_on s a i x m d.0 d.1) n e in
    by_case (λ t. ltb (a + n) (length s) ≡ t → NameEnd s a (a + n)) (ltb (a + n) (length s))
    (λ _ q. let l = ltb-true (a + n) (length s) q in
    elim (equal (get_or s (a + n) 0) 61 10 (p.stops l)) [ inl y ↦ sought_here s a (a + n) p.kept l y | inr y ↦ sought_line s a (a + n) p.kept l y ])
    (λ _ q. sought_end s a (a + n) p.kept (ltb-false (a + n) (length s) q)) refl

-- No LF has come from a up to i.
abbrev pub Along : List ℕ → ℕ → ℕ → Type 0
Along s a i = (a ≤ i) × (i ≤ length s) × (from s a false ≡ from s i false)

pub along_on : (s : List ℕ) (a i : ℕ) → Along s a i → i < length s → (get_or s i 0 ≡ 10 → ⊥) → Along s a (i + 1)
along_on s a i x h n = (omega (arith, x.0), omega arith, x.2 ∙ skip_on s i h n)

module _ (s : List ℕ) (a i : ℕ) (x : Along s a i) where
  pub along_end : length s ≤ i → LineEnd s a (length s)
  along_end h =
      let e : i ≡ length s = omega (arith, x.1, h) in
      record { low = omega (arith, x.0, x.1); high = omega arith; same = x.2 ∙ ap (λ (k : ℕ). from s k false) e; stops = λ l. absurd (omega arith) }

  pub along_stop : get_or s i 0 ≡ 10 → LineEnd s a i
  along_stop e = record { low = x.0; high = x.1; same = x.2; stops = λ l. e }

pub along_passed : (s : List ℕ) (a : ℕ) (h : a ≤ length s) (n : ℕ) → n ≡ length (take (prefix_len (λ b. not (eqb b 10)) (rest s a)) (rest s a)) → LineEnd s a (a + n)
along_passed s a h n e =
    let p = passed s a (length s) h (omega arith) (Along s a) (λ b. not (eqb b 10)) (omega arith, h, refl) (λ i l m t x. along_on s a i x m (differs (get_or s i 0) 10 t)) n e in
    record { low = p.low; high = p.high; same = p.kept.2; stops = λ l. equals (get_or s (a + n) 0) 10 (p.stops l) }

-- Bytes that are looked at together: none, and one more, the one at j.
within_none : (s : List ℕ) (i : ℕ) → Within s i i false
within_none s i = record { some = λ e. no_way e; none = λ e. refl }

within_on : (s : List ℕ) (i j k : ℕ) (t : Bool) → Within s i j t → i ≤ j → j < length s → k ≡ j + 1 → Within s i k (t || eqb (get_or s j 0) 10)
within_on s i j k true w l h e = record { some = w.some; none = λ n. no_way (sym n) }
within_on s i j k false w l h e = record {
  some = λ n. record { place = j; low = l; high = h; is = eqb-true (get_or s j 0) 10 n };
  none = λ n. w.none refl ∙ skip_on s j h (eqb-false (get_or s j 0) 10 n) ∙ ap (λ (x : ℕ). from s x false) (sym e);
}

module _ (s : List ℕ) (i : ℕ) (h : i + 8 ≤ length s) where
  abbrev lf : ℕ → Bool
  lf j = eqb (get_or s j 0) 10

  next : (k : ℕ) → k < 8 → (t : Bool) → Within s i (i + k) t → Within s i (i + (k + 1)) (t || lf (i + k))
  next k l t w = within_on s i (i + k) (i + (k + 1)) t w (omega arith) (omega arith) (omega arith)

  pub within_eight : Within s i (i + 8) (((((((lf i || lf (i + 1)) || lf (i + 2)) || lf (i + 3)) || lf (i + 4)) || lf (i + 5)) || lf (i + 6)) || lf (i + 7))
  within_eight =
      next 7 (omega arith) _ (next 6 (omega arith) _ (next 5 (omega arith) _ (next 4 (omega arith) _
      (next 3 (omega arith) _ (next 2 (omega arith) _ (next 1 (omega arith) _
      (within_on s i i (i + 1) false (within_none s i) (omega arith) (omega arith) (omega arith))))))))

-- Only blanks stand from a up to i.
abbrev pub Blanks : List ℕ → ℕ → ℕ → Type 0
Blanks s a i = (a ≤ i) × (i ≤ length s) × (from s a true ≡ from s i true)

pub blanks_on : (s : List ℕ) (a i : ℕ) → Blanks s a i → i < length s → blank (get_or s i 0) ≡ true → Blanks s a (i + 1)
blanks_on s a i x h e = (omega (arith, x.0), omega arith, x.2 ∙ blank_on s i h e)

module _ (s : List ℕ) (a i : ℕ) (x : Blanks s a i) where
  pub blanks_end : length s ≤ i → Unblanked s a (length s)
  blanks_end h =
      let e : i ≡ length s = omega (arith, x.1, h) in
      record { low = omega (arith, x.0, x.1); high = omega arith; same = x.2 ∙ ap (λ (k : ℕ). from s k true) e; stops = λ l. absurd (omega arith) }

  pub blanks_stop : blank (get_or s i 0) ≡ false → Unblanked s a i
  blanks_stop e = record { low = x.0; high = x.1; same = x.2; stops = λ l. e }

pub blanks_passed : (s : List ℕ) (a : ℕ) (h : a ≤ length s) (n : ℕ) → n ≡ length (take (prefix_len blank (rest s a)) (rest s a)) → Unblanked s a (a + n)
blanks_passed s a h n e =
    let p = passed s a (length s) h (omega arith) (Blanks s a) blank (omega arith, h, refl) (λ i l m t x. blanks_on s a i x m t) n e in
    record { low = p.low; high = p.high; same = p.kept.2; stops = p.stops }

-- The label whose `##` stands at i; e is its name's end.
module _ (s : List ℕ) (i : ℕ) (y : hashed s i ≡ true) (e : ℕ) (q : NameEnd s (i + 2) e) where
  pub here_none : (get_or s e 0 ≡ 61 → ⊥) → Met s i true (Label.Bad i)
  here_none n = record {
    good = (omega arith, omega (arith, hash_in s i y));
    law = label_none s i y (q.is ∙ spot_no s e n);
  }

  module _ (g : get_or s e 0 ≡ 61) (n : ℕ) (k : n ≡ length (name_in s (i + 2) e)) where
    pub here_long : longest_name < n → Met s i true (Label.Bad i)
    here_long l = record {
      good = (omega arith, omega (arith, hash_in s i y));
      law = label_long s i y e (q.is ∙ spot_yes s e g) (rw k at l);
    }

    pub here_at : n ≤ longest_name → Met s i true (Label.At i (i + 2) e)
    here_at l =
        let h : e < length s = inside s e 61 g (omega arith) in
        let z : get_or s e 0 ≡ 10 → ⊥ = λ f. omega arith in record {
          good = (omega arith, refl, q.low, h);
          law = label_at s i y e (q.is ∙ spot_yes s e g) (q.same ∙ skip_on s e h z) (rw k at l);
        }

-- The next `##` that is first on a line: up to i there is none, j is its line's end, k is the first byte of the next line that is no blank.
module _ (s : List ℕ) (at i j : ℕ) (x : Along s at i) (p : LineEnd s i j) where
  pub mark_over : length s ≤ j → Marked s at j
  mark_over h = record {
    low = omega (arith, x.0, p.low);
    high = p.high;
    same = x.2 ∙ p.same ∙ from_end s j false h ∙ sym (from_end s j true h);
    stops = λ l. absurd (omega arith);
  }

  module _ (h : j < length s) (k : ℕ) (q : Unblanked s (j + 1) k) where
    come : from s at false ≡ from s k true
    come = x.2 ∙ p.same ∙ skip_line s j h (p.stops h) ∙ q.same

    rise : at ≤ k
    rise = omega (arith, x.0, p.low, q.low)

    pub mark_none : length s ≤ k → Marked s at k
    mark_none l = record { low = rise; high = q.high; same = come; stops = λ y. absurd (omega arith) }

    pub mark_here : hashed s k ≡ true → Marked s at k
    mark_here y = record { low = rise; high = q.high; same = come; stops = λ l. y }

    pub mark_on : k < length s → hashed s k ≡ false → Along s at k
    mark_on l n = (rise, q.high, come ∙ no_label s k l (q.stops l) n)

lower : (a k n : ℕ) (r : Label) → a ≤ k → MetIn k n r → MetIn a n r
lower a k n (Label.At m o e) h x = (omega (arith, x.0), x.1, x.2, x.3)
lower a k n (Label.Bad m) h x = (omega (arith, x.0), x.1)
lower a k n Label.None h x = tt

-- The next label.
module _ (s : List ℕ) (at k : ℕ) (q : Marked s at k) where
  pub next_none : length s ≤ k → Met s at false Label.None
  unfolding resume
  next_none h = record { good = tt; law = q.same ∙ from_end s k true h }

  pub next_here : (r : Label) → Met s k true r → Met s at false r
  next_here r x = record { good = lower at k (length s) r q.low x.good; law = q.same ∙ x.law }

-- `##`, as the text from a place on begins with it
pub hash_starts : (s : List ℕ) (i : ℕ) → starts_with eqb (rest s i) (35 ∷ 35 ∷ []) ≡ hashed s i
unfolding hashed
hash_starts s i = two (rest s i) (get_or s i 0) (get_or s (i + 1) 0) (get_or_rest s i 0 ∙ ap (λ (k : ℕ). get_or s k 0) (omega arith)) (get_or_rest s i 1)
  where
    two : (ys : List ℕ) (a b : ℕ) → get_or ys 0 0 ≡ a → get_or ys 1 0 ≡ b → starts_with eqb ys (35 ∷ 35 ∷ []) ≡ pick (eqb a 35) (eqb b 35) false
    two [] a b p q = rw (sym p) refl
    two (x ∷ []) a b p q = rw (sym p, sym q, turned 35 x) (by_case (λ t. (t && false) ≡ pick t false false) (eqb x 35) (λ _. refl) (λ _. refl))
    two (x ∷ y ∷ zs) a b p q = rw (sym p, sym q, turned 35 x, turned 35 y) (by_case (λ t. (t && (eqb y 35 && true)) ≡ pick t (eqb y 35) false) (eqb x 35) (λ _. and-true (eqb y 35)) (λ _. refl))
