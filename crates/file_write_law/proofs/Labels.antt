-- The walk over written records meets exactly their labels, in order (01, "The file"; 02, T-04). Assumes nothing.
use Rattle.std.specs.Prelude.{◌≡◌, refl, Bool, true, false, List, [], ◌∷◌, ◌++◌, ℕ, suc, ◌+◌, ◌-◌, eqb, leb, length, Some}
use Rattle.std.proofs.Common.{sym, ap, ◌∙◌, append_assoc, arith, add-zero, ne_eqb}
use Rattle.std.proofs.Math.Seq.{take-append_seam}
use Rattle.terms.specs.Logic.{pick, both, both_true, no_way}
use Rattle.label_spec.specs.Names.{blank, norm, sames}
use Rattle.label_spec.specs.NameLaws.{sames_eq}
use Rattle.label_spec.specs.Labels.{label, longest_name, eq_in, headed, step, walk}
use Rattle.file_write_spec.specs.Records.{Entry, entry_text, entries_text}
use Rattle.file_write_law.specs.Labels.{Settles, plain, named, size, Good, AllGood, labels}

-- the walk passes over such a text, to the start of a line
pub walk_settles : (m : Bool) (t rest : List ℕ) (i : ℕ) → Settles m t → walk (t ++ rest) i m ≡ walk rest (i + length t) true
unfolding walk step
walk_settles true [] rest i h = ap (λ (k : ℕ). walk rest k true) (sym (add-zero i))
walk_settles false [] rest i h = absurd h
walk_settles false (b ∷ t) rest i h =
    let e : i + 1 + length t ≡ i + suc (length t) = omega arith in walk_settles (eqb b 10) t rest (i + 1) h ∙ ap (λ (k : ℕ). walk rest k true) e
walk_settles true (b ∷ t) rest i h =
    let e : i + 1 + length t ≡ i + suc (length t) = omega arith in
    rw (ne_eqb b 35 h.0) (on (blank b) h.1 (λ m. walk_settles m t rest (i + 1)) ∙ ap (λ (k : ℕ). walk rest k true) e)
  where
    on : (q : Bool) → Settles (pick q true (eqb b 10)) t → ((m : Bool) → Settles m t → walk (t ++ rest) (i + 1) m ≡ walk rest (i + 1 + length t) true)
        → pick q (walk (t ++ rest) (i + 1) true) (walk (t ++ rest) (i + 1) (eqb b 10)) ≡ walk rest (i + 1 + length t) true
    on true s k = k true s
    on false s k = k (eqb b 10) s

plain_cons : (b : ℕ) (v : List ℕ) → plain (b ∷ v) ≡ true → (eqb b 61 ≡ false) × (eqb b 10 ≡ false) × (plain v ≡ true)
unfolding plain
plain_cons b v = cases (eqb b 61) (eqb b 10)
  where
    cases : (q r : Bool) → pick q false (pick r false (plain v)) ≡ true → (q ≡ false) × (r ≡ false) × (plain v ≡ true)
    cases true r h = no_way h
    cases false true h = no_way h
    cases false false h = (refl, refl, h)

-- its line's first `=` stands right after it,
equals_after : (v u : List ℕ) (i : ℕ) → plain v ≡ true → eq_in (v ++ 61 ∷ u) i ≡ Some (i + length v)
unfolding eq_in
equals_after [] u i h = ap Some (sym (add-zero i))
equals_after (b ∷ v) u i h =
    let k = plain_cons b v h in
    let e : i + 1 + length v ≡ i + suc (length v) = omega arith in
    rw (k.0, k.1) (equals_after v u (i + 1) k.2 ∙ ap Some e)

-- and the walk passes over both
walk_name : (v u : List ℕ) (i : ℕ) → plain v ≡ true → walk (v ++ 61 ∷ u) i false ≡ walk u (i + length v + 1) false
unfolding walk step
walk_name [] u i h = ap (λ (k : ℕ). walk u (k + 1) false) (sym (add-zero i))
walk_name (b ∷ v) u i h =
    let k = plain_cons b v h in
    let e : i + 1 + length v + 1 ≡ i + suc (length v) + 1 = omega arith in
    ap (λ (q : Bool). walk (v ++ 61 ∷ u) (i + 1) q) k.1 ∙ walk_name v u (i + 1) k.2 ∙ ap (λ (j : ℕ). walk u j false) e

-- a label with its name, at the place i
named_walk : (v u : List ℕ) (i : ℕ) → named v ≡ true → walk (35 ∷ 35 ∷ (v ++ 61 ∷ u)) i true ≡ label i (i + 2) (i + 2 + length v) v (walk u (i + 2 + length v + 1) false)
unfolding walk step headed blank named
named_walk v u i h =
    let a = both_true (sames (norm v) v) (both (leb (length v) longest_name) (plain v)) h in
    let b = both_true (leb (length v) longest_name) (plain v) a.1 in
    let e : i + 2 + length v - (i + 2) ≡ length v = omega arith in
    let f : i + 1 + 1 ≡ i + 2 = omega arith in
    rw (equals_after v u (i + 2) b.1, e, take-append_seam v (61 ∷ u), sames_eq (norm v) v a.0, b.0, f, walk_name v u (i + 2) b.1) refl

-- what the walk meets in a record, and then the rest of the text
pub record_walk : (r : Entry) (rest : List ℕ) (i : ℕ) → Good r → walk (entry_text r ++ rest) i true ≡ label i (i + 2) (i + 2 + length r.name) r.name (walk rest (i + size r) true)
unfolding entry_text
record_walk r rest i h =
    let v = r.name in
    let e : i + 2 + length v + 1 + length r.text ≡ i + size r = omega arith in
    rw (
      append_assoc v (61 ∷ r.text) rest,
      named_walk v (r.text ++ rest) i h.named,
      walk_settles false r.text rest (i + 2 + length v + 1) h.settles,
      e,
    ) refl

pub records_walk : (rs : List Entry) (i : ℕ) → AllGood rs → walk (entries_text rs) i true ≡ labels rs i
unfolding entries_text walk
records_walk [] i h = refl
records_walk (r ∷ rs) i h = rw (record_walk r (entries_text rs) i h.0, records_walk rs (i + size r) h.1) refl
