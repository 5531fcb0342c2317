-- The labels and records of a data block, in place and in the cut: the same, each place further on.
use Rattle.std.specs.Prelude.{◌≡◌, Bool, true, false, List, [], ◌∷◌, ◌++◌, ℕ, ◌+◌, ◌-◌, ◌<◌, ◌≤◌, ltb, length, take, drop, Option, Some, None}
use Rattle.std.proofs.Math.Path.{refl}
use Rattle.std.proofs.Common.{inl, inr, arith}
use Rattle.std.proofs.Math.Nat.{add_assoc}
use borrow.Author.Tests.{ltb-true, ltb-false, lt-ltb, le-ltb}
use Rattle.terms.specs.Logic.{pick}
use Rattle.label_spec.specs.Names.{sames}
use Rattle.label_spec.specs.Labels.{Walk, over, bad, label}
use Rattle.label_spec.specs.Records.{mark_of, record_of}
use Rattle.compound_law.specs.Shift.{shift}
use Rattle.compound_law.specs.Graft.{graft}
use Rattle.compound_law.specs.Standing.{Standing, Sound}
use Rattle.compound_law.specs.Above.{Above, from_above}
use Rattle.compound_law.specs.Plain.{Own, Plain}
use Rattle.label_spec.specs.declared.Span.{Span}
use Rattle.label_spec.specs.Parts.{span_of}

-- A text of a record, further on by d.
abbrev pub shift_found : ℕ → Option Span → Option Span
shift_found d (Some x) = Some (span_of (d + x.from) (d + x.to))
shift_found d None = None

-- It lies in a text of this length.
abbrev pub found_in : ℕ → Option Span → Type 0
found_in len (Some x) = (x.from ≤ x.to) × (x.to ≤ len)
found_in len None = Unit

pub pick_found : (d : ℕ) (t : Bool) (p q : Option Span) → pick t (shift_found d p) (shift_found d q) ≡ shift_found d (pick t p q)
pick_found d true p q = refl
pick_found d false p q = refl

in_pick : (len : ℕ) (t : Bool) (p q : Option Span) → found_in len p → found_in len q → found_in len (pick t p q)
in_pick len true p q a b = a
in_pick len false p q a b = b

ltb_add : (m a b : ℕ) → ltb (m + a) (m + b) ≡ ltb a b
ltb_add m a b = cases (ltb a b) refl
  where
    cases : (t : Bool) → ltb a b ≡ t → ltb (m + a) (m + b) ≡ t
    cases true e = let h = ltb-true a b e in lt-ltb (m + a) (m + b) (omega arith)
    cases false e = let h = ltb-false a b e in le-ltb (m + a) (m + b) (omega arith)

-- END stands no earlier than the labels do.
plain_above : (s : List ℕ) (done : List (List ℕ)) (m lo x q : ℕ) (k : Walk) → Above lo k → Plain s done (shift m k) (m + x) q → lo ≤ x
plain_above s done m lo x q over a p = absurd p
plain_above s done m lo x q (bad y rest) a p = absurd p
plain_above s done m lo x q (label y n e v rest) a (inl p) = omega (arith, a.0, p.mark)
plain_above s done m lo x q (label y n e v rest) a (inr p) = plain_above s (done ++ v ∷ []) m lo x q rest a.1 p.1

-- The file s holds the text u from m on; k is what follows the walk over u. END stands in u, at x, its `=` at q.
module _ (s u : List ℕ) (m : ℕ) (k : Walk) (x q : ℕ)
    (text : (a b : ℕ) → a ≤ length u → b ≤ length u → take (m + b - (m + a)) (drop (m + a) s) ≡ take (b - a) (drop a u))
    (a : Above (length u) k) (low : x < length u) where
  -- What ends a text before END.
  pub next_mark : (done : List (List ℕ)) (rest : Walk) → Sound u rest → Plain s done (shift m (graft rest k)) (m + x) (m + q)
      → (mark_of (length s) (shift m (graft rest k)) ≡ m + mark_of (length u) rest) × (mark_of (length u) rest ≤ length u)
  unfolding mark_of
  next_mark done over d p = absurd (let z = plain_above s done m (length u) x (m + q) k a p in omega arith)
  next_mark done (bad y rest) d p = absurd p
  next_mark done (label y n e v rest) d p = (refl, omega (arith, d.0.low, d.0.high))

  -- The labels of the block, in the cut.
  own_cut : (done : List (List ℕ)) (y n e : ℕ) (v : List ℕ) (rest : Walk) → Standing u y n e v rest → Sound u rest
      → Plain s (done ++ v ∷ []) (shift m (graft rest k)) (m + x) (m + q)
      → Own s done (m + e) v (mark_of (length s) (shift m (graft rest k))) → Own u done e v (mark_of (length u) rest)
  own_cut done y n e v rest d g p o =
      let z = next_mark (done ++ v ∷ []) rest g p in
      let i = rw (z.0, add_assoc m e 1) at o.no_link in
      record { no_end = o.no_end; no_title = o.no_title; once = o.once; no_link = rw (text (e + 1) (mark_of (length u) rest) (omega (arith, d.high)) z.1) at i }

  pub plain_cut : (done : List (List ℕ)) (b : Walk) → Sound u b → Plain s done (shift m (graft b k)) (m + x) (m + q) → Plain u done b x q
  plain_cut done over d p = absurd (let z = plain_above s done m (length u) x (m + q) k a p in omega arith)
  plain_cut done (bad y rest) d p = absurd p
  plain_cut done (label y n e v rest) d (inl p) = inl (record { is_end = p.is_end; mark = omega (arith, p.mark); eq = omega (arith, p.eq) })
  plain_cut done (label y n e v rest) d (inr p) = inr (own_cut done y n e v rest d.0 d.1 p.1 p.0, plain_cut (done ++ v ∷ []) rest d.1 p.1)

  -- The records of the block, in the cut.
  module _ (w : List ℕ) where
    pub record_cut : (done : List (List ℕ)) (b : Walk) → Sound u b → Plain s done (shift m (graft b k)) (m + x) (m + q)
        → record_of (length s) (m + x) w (shift m (graft b k)) ≡ shift_found m (record_of (length u) x w b)
    unfolding record_of
    record_cut done over d p = absurd (let z = plain_above s done m (length u) x (m + q) k a p in omega arith)
    record_cut done (bad y rest) d p = absurd p
    record_cut done (label y n e v rest) d (inl p) =
        let z : y ≡ x = omega (arith, p.mark) in
        rw (ltb_add m y x, le-ltb y x (omega arith)) refl
    record_cut done (label y n e v rest) d (inr p) =
        rw (
          ltb_add m y x,
          (next_mark (done ++ v ∷ []) rest d.1 p.1).0,
          record_cut (done ++ v ∷ []) rest d.1 p.1,
          add_assoc m e 1,
          pick_found m (sames v w) (Some (span_of (e + 1) (mark_of (length u) rest))) (record_of (length u) x w rest),
          pick_found m (ltb y x) (pick (sames v w) (Some (span_of (e + 1) (mark_of (length u) rest))) (record_of (length u) x w rest)) None,
        ) refl

mark_above : (len lo : ℕ) (k : Walk) → Above lo k → lo ≤ len → lo ≤ mark_of len k
unfolding mark_of
mark_above len lo over a h = h
mark_above len lo (bad y rest) a h = a.0
mark_above len lo (label y n e v rest) a h = a.0

mark_in : (u : List ℕ) (done : List (List ℕ)) (x q : ℕ) (k : Walk) → Sound u k → Plain u done k x q → mark_of (length u) k ≤ length u
unfolding mark_of
mark_in u done x q over d p = absurd p
mark_in u done x q (bad y rest) d p = absurd p
mark_in u done x q (label y n e v rest) d p = omega (arith, d.0.low, d.0.high)

-- A record that is found lies in the text.
pub record_in_lem : (u w : List ℕ) (x q : ℕ) (done : List (List ℕ)) (b : Walk) → Sound u b → Plain u done b x q → found_in (length u) (record_of (length u) x w b)
unfolding record_of
record_in_lem u w x q done over d p = absurd p
record_in_lem u w x q done (bad y rest) d p = absurd p
record_in_lem u w x q done (label y n e v rest) d (inl p) = rw (le-ltb y x (omega (arith, p.mark))) tt
record_in_lem u w x q done (label y n e v rest) d (inr p) =
    in_pick (length u) (ltb y x) _ _ (in_pick (length u) (sames v w) _ _
    (mark_above (length u) (e + 1) rest (rw d.0.on (from_above u (e + 1) false)) (omega (arith, d.0.high)), mark_in u (done ++ v ∷ []) x q rest d.1 p.1)
    (record_in_lem u w x q (done ++ v ∷ []) rest d.1 p.1)) tt
