-- Which bytes of a text of one line count to the line's length (02, T-06). Assumes nothing.
use Rattle.std.specs.Prelude.{◌≡◌, refl, true, false, List, [], ◌∷◌, ◌++◌, ℕ, suc, ◌+◌, ◌≤◌, eqb, length}
use Rattle.std.proofs.Common.{sym, ap, ◌∙◌, arith, eqb-true}
use Rattle.terms.specs.Logic.{both, by_case, no_way}
use Rattle.table_spec.specs.Reading.{starts, line_length}
use Rattle.line_law.specs.Linewise.{NoLf}
use Rattle.plain_law.specs.Single.{Single, single_tail}

-- nothing stands behind its LF
none_left : (b : ℕ) (s : List ℕ) → Single (b ∷ s) → eqb b 10 ≡ true → s ≡ []
none_left b [] g e = refl
none_left b (c ∷ t) g e = no_way (sym g.0 ∙ e)

-- a byte is there
no_cons : {A : Type 0} {b : ℕ} {s : List ℕ} → b ∷ s ≡ [] → A
no_cons e = let n = ap length e in absurd (omega (arith, n))

-- a byte is one of the line, or its end begins there
pub data Begins : ℕ → List ℕ → Type 0 where
  lf_only : Begins 10 []
  cr_lf_only : Begins 13 (10 ∷ [])
  counts : {b : ℕ} {s : List ℕ} → line_length (b ∷ s) ≡ suc (line_length s) → Begins b s

cr_begins : (b : ℕ) (s : List ℕ) → Single (b ∷ s) → eqb b 10 ≡ false → b ≡ 13 → Begins b s
unfolding line_length
cr_begins b [] g n e = counts {b = b} {s = []} (rw (n, e) refl)
cr_begins b (c ∷ s) g n e =
    by_case (λ t. eqb c 10 ≡ t → Begins b (c ∷ s)) (eqb c 10)
    (λ _ f. rw (e, eqb-true c 10 f, none_left c s g.1 f) cr_lf_only) (λ _ f. counts {b = b} {s = c ∷ s} (rw (n, e, f) refl)) refl

pub begins : (b : ℕ) (s : List ℕ) → Single (b ∷ s) → Begins b s
unfolding line_length
begins b s g =
    by_case (λ t. eqb b 10 ≡ t → Begins b s) (eqb b 10) (λ _ e. rw (eqb-true b 10 e, none_left b s g e) lf_only)
    (λ _ n. by_case (λ t. eqb b 13 ≡ t → Begins b s) (eqb b 13) (λ _ e. cr_begins b s g n (eqb-true b 13 e)) (λ _ e. counts {b = b} {s = s} (rw (n, e) refl)) refl) refl

-- what stands before a byte of the line are bytes of the line
empty_before : (k r : List ℕ) → [] ≡ k ++ r → 1 ≤ line_length r → ⊥
unfolding line_length
empty_before [] r e n = let z : 1 ≤ line_length [] = rw (sym e) at n in omega arith
empty_before (c ∷ k) r e n = no_cons (sym e)

counted : {b : ℕ} {s : List ℕ} → Begins b s → (k r : List ℕ) → s ≡ k ++ r → 1 ≤ line_length r → line_length (b ∷ s) ≡ suc (line_length s)
unfolding line_length
counted lf_only k r e n = absurd (empty_before k r e n)
counted cr_lf_only [] r e n = let z : 1 ≤ line_length (10 ∷ []) = rw (sym e) at n in absurd (omega arith)
counted cr_lf_only (c ∷ k) r e n = let z : [] ≡ k ++ r = cc in absurd (empty_before k r z n)
counted (counts h) k r e n = h

pub bytes_before : (k r : List ℕ) → Single (k ++ r) → 1 ≤ line_length r → line_length (k ++ r) ≡ length k + line_length r
bytes_before [] r g n = omega arith
bytes_before (b ∷ k) r g n =
    let z = bytes_before k r (single_tail b (k ++ r) g) n in
    let y = counted (begins b (k ++ r) g) k r refl n in
    omega (arith, z, y)

-- where there is no LF all bytes are
no_cr_lf : (b : ℕ) (s : List ℕ) → NoLf s → both (eqb b 13) (starts 10 s) ≡ false
no_cr_lf b [] h = by_case (λ x. both x false ≡ false) (eqb b 13) (λ _. refl) (λ _. refl)
no_cr_lf b (c ∷ s) h = by_case (λ x. both x (eqb c 10) ≡ false) (eqb b 13) (λ _. h.0) (λ _. refl)

pub no_lf_end : (k r : List ℕ) → NoLf (k ++ r) → NoLf r
no_lf_end [] r h = h
no_lf_end (b ∷ k) r h = no_lf_end k r h.1

pub bytes_all : (t : List ℕ) → NoLf t → line_length t ≡ length t
unfolding line_length
bytes_all [] h = refl
bytes_all (b ∷ t) h = rw (h.0, no_cr_lf b t h.1) (ap suc (bytes_all t h.1))
