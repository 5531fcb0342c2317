-- What the loops over differences that stand alone need, counted or stored. No place of the code is named here. Assumes nothing.
use mathlib.Core.Path.{◌≡◌, refl, sym, ap, ◌∙◌}
use mathlib.Core.Bool.{Bool, true, false}
use mathlib.Core.List.{List, [], ◌∷◌, ◌++◌, append-nil}
use Prim.Native.Nat.{ℕ, zero, suc, ◌+◌, ◌-◌, ◌≤◌, ◌<◌}
use native.Mathlib.Omega.{arith}
use lib.Dec.{ltb, leb, eqb}
use lib.ListN.{length, get_or, drop, length-append}
use lib.Seq.{drop-cons, length-sets}
use borrow.Author.Tests.{eqb-true, eqb-false, eq-eqb, ne_eqb, ltb-true, ltb-false, leb-true, leb-false}
use Rattle.terms.specs.Logic.{pick, by_case}
use Rattle.alphabet_spec.specs.Kinds.{sqz}
use Rattle.table_spec.specs.Frame.{apart, zero_ordinate}
use Rattle.table_spec.specs.Values.{is_dif}
use Rattle.table_spec.specs.Numerals.{numeral}
use Rattle.table_spec.specs.Groups.{form, sqz_text, token_text, many, dup_text, group}
use Rattle.table_spec.specs.Writing.{put, open_line, go_on, text}
use Rattle.table_spec.specs.declared.Style.TheVariants.{Difdup}
use Rattle.text_tokens.specs.declared.Token.{Token}
use Rattle.text_tokens.specs.declared.Group.{Group}
use Rattle.text_openings.specs.declared.State.{State}
use Rattle.table_text.specs.Digits.{further}
use Rattle.table_text.specs.Pieces.{Ahead, number}
use Rattle.table_text.proofs.NumberSteps.{dup_none}
use Rattle.text_tokens.specs.Tokens.{run, lead_of, TokenFor, Found, group_at, lone}
use Rattle.text_openings.specs.Lines.{from, next_state, after, opening, Started, Counted, Going, difference_state}
use Rattle.text_tokens.proofs.TokenSteps.{found, again_not, dif_up, dif_same, dif_down, lead_down, lead_same, lead_up}
use Rattle.text_openings.proofs.TextSteps.{from_fits, from_break}
use Rattle.table_write_law.specs.Tokens.{form_cases}
use Rattle.text_differences.specs.Small.{Over}
use Rattle.text_differences.specs.Stored.{Stored}
use Rattle.text_differences.proofs.SmallSteps.{ahead_over}

-- ---- what is left of a text has its line's end, and a byte more where points are left

token_least : (p y : ℕ) → 1 ≤ length (token_text Difdup (form p y) y)
unfolding token_text sqz_text numeral
token_least p y =
    form_cases (λ r. 1 ≤ length (token_text Difdup r y)) p y (λ _. omega arith)
    (λ _ _. by_case (λ t. 1 ≤ length (pick t (numeral (sqz false) (y - zero_ordinate)) (numeral (sqz true) (zero_ordinate - y)))) (leb zero_ordinate y) (λ _. omega arith) (λ _. omega arith))
    (λ _ _ _. omega arith) (λ _ _ _. omega arith)

group_least : (p y : ℕ) (ys : List ℕ) → 1 ≤ length (group Difdup p y ys)
unfolding group
group_least p y ys = omega (arith, token_least p y, length-append (token_text Difdup (form p y) y) (dup_text (many (form p y) y ys)))

module _ (hd : ℕ → List ℕ) where
  text_least : (zs : List ℕ) (n i p : ℕ) (dif : Bool) (col : ℕ) → 2 ≤ length (text Difdup hd zs n i p dif col)
  unfolding text go_on put
  text_least [] n i p dif col = omega arith
  text_least (y ∷ ys) zero i p dif col =
      let g = group Difdup p y ys in
      let c = col + length g in
      let m = many (form p y) y ys in
      let d = is_dif (form p y) in
      by_case (λ t. 2 ≤ length (pick t (g ++ text Difdup hd ys m (suc i) y d c) (13 ∷ 10 ∷ open_line Difdup hd (text Difdup hd ys) dif i p y ys))) (leb c 80)
      (λ _. omega (arith, length-append g (text Difdup hd ys m (suc i) y d c), text_least ys m (suc i) y d c)) (λ _. omega arith)
  text_least (y ∷ ys) (suc n) i p dif col = text_least ys n (suc i) y dif col

  from_least : (ys : List ℕ) (s : State) → 2 ≤ length (from hd ys s)
  unfolding from
  from_least ys s = text_least (drop s.given ys) 0 s.given s.last s.dif s.column

  after_least : (ys : List ℕ) (i p col : ℕ) → 3 ≤ length (after hd ys i p col)
  unfolding after
  after_least ys i p col =
      let r = next_state hd ys i p 0 col in
      omega (arith, length-append (group_at ys i p) (from hd ys r), from_least ys r, group_least p (get_or ys i 0) (drop (i + 1) ys))

  from_some : (ys : List ℕ) (s : State) → s.given < length ys → 3 ≤ length (from hd ys s)
  from_some ys s h =
      let c = s.column + length (group_at ys s.given s.last) in
      by_case (λ _. 3 ≤ length (from hd ys s)) (leb c 80)
      (λ e. rw (from_fits hd ys s h (leb-true c 80 e)) (after_least ys s.given s.last s.column))
      (λ e. let o = opening hd s.dif s.given s.last in
      let a = after hd ys s.given (pick s.dif s.last 0) (length o) in
      rw (from_break hd ys s h (leb-false c 80 e)) (omega (arith, length-append o a, after_least ys s.given (pick s.dif s.last 0) (length o))))

-- ---- the width of a lone difference

module _ (p y z : ℕ) where
  pub lone_gap : y ≡ 0 → 81 ≡ lone p y z
  unfolding lone
  lone_gap e = rw (eq-eqb y 0 e) refl

  pub lone_again : (y ≡ 0 → ⊥) → p + z ≡ y + y → 81 ≡ lone p y z
  unfolding lone
  lone_again n e = rw (ne_eqb y 0 n, eq-eqb (p + z) (y + y) e) refl

  pub lone_alone : (y ≡ 0 → ⊥) → (p + z ≡ y + y → ⊥) → 1 + further 9 (apart p y) ≡ lone p y z
  unfolding lone
  lone_alone n e = rw (ne_eqb y 0 n, ne_eqb (p + z) (y + y) e) refl

  lone_pos : (w : ℕ) → w ≡ lone p y z → w ≤ 80 → 0 < y
  lone_pos w g m =
      by_case (λ t. eqb y 0 ≡ t → 0 < y) (eqb y 0) (λ _ c. absurd (omega (arith, lone_gap (eqb-true y 0 c))))
      (λ _ c. let x = eqb-false y 0 c in omega (arith, x)) refl

-- a group of one point in DIF form, of w bytes
record Alone (ys : List ℕ) (i p y w : ℕ) : Type 0 where
  group : Group
  found : Found ys i p group
  single : group.more ≡ 0
  bytes : group.width ≡ w
  dif_is : group.dif ≡ true
  base_is : group.base ≡ lead_of p y
  size_is : group.size ≡ apart p y

module _ (ys : List ℕ) (i p y z : ℕ) (h : 0 < p) (a : p < 4294967296) (b : y < 4294967296) (e : y ≡ get_or ys i 0) (f : z ≡ get_or ys (i + 1) 0) (l : i + 1 < length ys) where
  -- no point after it has its token
  none_more : (t : Token) → (y + t.up ≡ z + t.down → ⊥) → 0 ≡ run t y (drop (i + 1) ys)
  unfolding run
  none_more t n = rw (drop-cons ys (i + 1) 0 l, ← f, ← again_not t y z n) refl

  alone : (t : Token) → TokenFor p y t → t.size ≡ apart p y → t.dif ≡ true → t.base ≡ lead_of p y → (y + t.up ≡ z + t.down → ⊥) → Alone ys i p y (1 + further 9 (apart p y))
  alone t k s d q n =
      let g : Found ys i p (record { base = t.base; size = t.size; digits = further 9 t.size; more = 0; width = 1 + further 9 t.size + 0; dif = t.dif }) =
      found ys i p y 0 (further 9 t.size) 0 t e k (none_more t n) (omega arith) refl (unfold dup_text in refl, omega arith) in
      record { group = _; found = g; single = refl; bytes = rw s (omega arith); dif_is = d; base_is = q; size_is = s }

  module _ (k : 0 < y) (n : p + z ≡ y + y → ⊥) where
    down : y < p → Alone ys i p y (1 + further 9 (apart p y))
    down g = alone _ (dif_down p y h a k b g) (omega arith) refl (lead_down p y g) (λ q. n (omega arith))

    up : p < y → Alone ys i p y (1 + further 9 (apart p y))
    up g = alone _ (dif_up p y h a k b g) (omega arith) refl (lead_up p y g) (λ q. n (omega arith))

    same : y ≡ p → Alone ys i p y (1 + further 9 (apart p y))
    same g = alone _ (dif_same p y h a k b g) (omega arith) refl (lead_same p y g) (λ q. n (omega arith))

    lone_some : Alone ys i p y (1 + further 9 (apart p y))
    lone_some =
        by_case (λ _. Alone ys i p y (1 + further 9 (apart p y))) (ltb y p) (λ c. down (ltb-true y p c))
        (λ c. by_case (λ _. Alone ys i p y (1 + further 9 (apart p y))) (ltb p y) (λ d. up (ltb-true p y d))
        (λ d. same (omega (arith, ltb-false y p c, ltb-false p y d))))

  lone_found : (w : ℕ) → w ≡ lone p y z → w ≤ 80 → Alone ys i p y w
  unfolding lone
  lone_found w g m = by_zero (eqb y 0) refl
    where
      by_sum : (t : Bool) → eqb y 0 ≡ false → eqb (p + z) (y + y) ≡ t → Alone ys i p y w
      by_sum true c d = let x : w ≡ 81 = g ∙ rw (c, d) refl in absurd (omega arith)
      by_sum false c d =
          let x : w ≡ 1 + further 9 (apart p y) = g ∙ rw (c, d) refl in
          let k = eqb-false y 0 c in rw x (lone_some (omega (arith, k)) (eqb-false (p + z) (y + y) d))

      by_zero : (t : Bool) → eqb y 0 ≡ t → Alone ys i p y w
      by_zero true c = let x : w ≡ 81 = g ∙ rw c refl in absurd (omega arith)
      by_zero false c = by_sum (eqb (p + z) (y + y)) c refl

-- ---- counting

module _ (ys : List ℕ) where
  pub counted_none : (s : State) → Started s → s.given ≤ length ys → s.column ≤ s.at → Counted ys s s
  counted_none s b i c = record { law = λ hd. refl; later = omega arith; on = omega arith; inside = i; most = omega arith; line = omega arith; column_most = c; started = b }

  pub stored_none : (s : State) (o : List ℕ) → Started s → s.given ≤ length ys → s.column ≤ s.at → Stored ys s o o s
  stored_none s o b i c = record { counted = counted_none s b i c; law = λ hd x n a. a; same = refl }

  pub counted_then : {s t r : State} → Counted ys s t → Counted ys t r → Counted ys s r
  counted_then a b =
      let a₁ = a.later in let b₁ = b.later in let a₂ = a.on in let b₂ = b.on in let a₃ = a.most in let b₃ = b.most in let a₄ = a.line in let b₄ = b.line in
      record {
        law = λ hd. b.law hd
            ∙ a.law hd;
        later = omega arith;
        on = omega arith;
        inside = b.inside;
        most = omega arith;
        line = omega arith;
        column_most = b.column_most;
        started = b.started;
      }

  -- a group that fits
  module _ (s : State) (g : Group) (h : Found ys s.given s.last g) (l : s.column + g.width ≤ 80) (c : s.column ≤ s.at) (last : ℕ)
      (f : last ≡ get_or ys (s.given + g.more) 0) (b : last < 4294967296) where
    abbrev group_state : State
    group_state = record { given = s.given + g.more + 1; at = s.at + g.width; column = s.column + g.width; last = last; dif = g.dif }

    left : (hd : ℕ → List ℕ) → from hd ys group_state ≡ from hd ys (next_state hd ys s.given s.last 0 s.column)
    unfolding from
    left hd = rw (f, h.more_is, h.width_is, h.dif_is) refl

    is : (hd : ℕ → List ℕ) → from hd ys s ≡ group_at ys s.given s.last ++ from hd ys (next_state hd ys s.given s.last 0 s.column)
    unfolding after
    is hd = let inside = h.inside in let width = h.width_is in from_fits hd ys s (omega arith) (omega arith)

    law : (hd : ℕ → List ℕ) → s.at + g.width + length (from hd ys group_state) ≡ s.at + length (from hd ys s)
    law hd =
        let rest = next_state hd ys s.given s.last 0 s.column in
        let width = h.width_is in
        omega (arith, ap length (left hd), ap length (is hd), length-append (group_at ys s.given s.last) (from hd ys rest))

    pub counted_group : Counted ys s group_state × (s.given < s.given + g.more + 1)
    counted_group =
        let inside = h.inside in let slim = h.slim in (
          record {
            law = law;
            later = omega arith;
            on = omega arith;
            inside = omega arith;
            most = omega arith;
            line = omega arith;
            column_most = omega arith;
            started = record { some = λ _. omega arith; small = b };
          },
          omega arith,
        )

    -- the same group, all of it its number, stored with bytes after it that what is left is stored over
    pub stored_group : {x o o' : List ℕ} {n : ℕ} (hd : ℕ → List ℕ) → Over o s.at o' (number g.base g.size) → g.more ≡ 0 → group_state.given < length ys
        → Ahead x n o s.at (from hd ys s) → Ahead x n o' (s.at + g.width) (from hd ys group_state)
    stored_group {x = x} {o = o} {o' = o'} {n = n} hd v m k a =
        let t : group_at ys s.given s.last ≡ number g.base g.size = h.text ∙ rw (dup_none g.more m) (append-nil (number g.base g.size)) in
        let e : from hd ys s ≡ number g.base g.size ++ from hd ys group_state =
        is hd ∙ rw (left hd) (ap (λ (l : List ℕ). l ++ from hd ys (next_state hd ys s.given s.last 0 s.column)) t) in
        let w : length (number g.base g.size) ≡ g.width = ap length (sym t) ∙ sym h.width_is in
        let b : Ahead x n o s.at (number g.base g.size ++ from hd ys group_state) = rw e at a in
        let z : Ahead x n o' (s.at + length (number g.base g.size)) (from hd ys group_state) = ahead_over (from hd ys group_state) v (from_some hd ys group_state k) b in
        rw w at z

-- ---- the loop over lone differences

pub record LoneTo (ys : List ℕ) (s : State) (i p column y next : ℕ) : Type 0 where
  pub counted : Counted ys s (difference_state s i p column)
  pub some : 0 < p
  pub here : y ≡ get_or ys i 0
  pub small : y < 4294967296
  pub next_is : next ≡ i + 1
  pub inside : i < length ys
  pub low : s.column ≤ column
  pub high : column ≤ s.column + 80

module _ (ys : List ℕ) (s : State) where
  start_law : s.dif ≡ true → (hd : ℕ → List ℕ)
      → s.at + (s.column - s.column) + length (from hd ys (difference_state s s.given s.last s.column)) ≡ s.at + length (from hd ys s)
  unfolding from
  start_law d hd = let z : s.at + (s.column - s.column) ≡ s.at = omega arith in rw (z, d) refl

  pub lone_start : (y : ℕ) → Started s → s.dif ≡ true → 0 < s.last → s.given < length ys → s.column ≤ s.at → y ≡ get_or ys s.given 0 → y < 4294967296
      → LoneTo ys s s.given s.last s.column y (s.given + 1)
  lone_start y b d p l c e m =
      record {
        counted = record {
          law = start_law d;
          later = omega arith;
          on = omega arith;
          inside = omega arith;
          most = omega arith;
          line = omega arith;
          column_most = omega arith;
          started = record { some = λ _. b.some d; small = b.small };
        };
        some = p;
        here = e;
        small = m;
        next_is = refl;
        inside = l;
        low = omega arith;
        high = omega arith;
      }

  -- nothing is stored yet
  pub stored_start : (o : List ℕ) → s.dif ≡ true → Counted ys s (difference_state s s.given s.last s.column) → Stored ys s o o (difference_state s s.given s.last s.column)
  unfolding from
  stored_start o d c = record { counted = c; law = λ hd x n a. (let z : s.at + (s.column - s.column) ≡ s.at = omega arith in rw (z, ← d) a); same = refl }

  module _ {i p column y next : ℕ} (t : LoneTo ys s i p column y next) where
    pub lone_next : (z w : ℕ) → next < length ys → z ≡ get_or ys next 0 → z < 4294967296 → w ≡ lone p y z → column + w ≤ 80 → LoneTo ys s next y (column + w) z (next + 1)
    lone_next z w l e b k m =
        let n = t.next_is in
        let x = lone_found ys i p y z t.some t.counted.started.small t.small t.here (rw n at e) (omega arith) w k (omega arith) in
        let single = x.single in
        let here : y ≡ get_or ys (i + x.group.more) 0 = t.here ∙ ap (λ (j : ℕ). get_or ys j 0) (omega arith) in
        let g = (counted_group ys (difference_state s i p column) x.group x.found (let bytes = x.bytes in omega arith) t.counted.column_most y here t.small).0 in
        record {
          counted = counted_then ys t.counted (counted_on x n g);
          some = lone_pos p y z w k (omega arith);
          here = e;
          small = b;
          next_is = refl;
          inside = l;
          low = let low = t.low in omega arith;
          high = omega arith;
        }
      where
        counted_on : (x : Alone ys i p y w) → next ≡ i + 1
            → Counted ys (difference_state s i p column) (record {
              given = i + x.group.more + 1;
              at = s.at + (column - s.column) + x.group.width;
              column = column + x.group.width;
              last = y;
              dif = x.group.dif;
            })
            → Counted ys (difference_state s i p column) (difference_state s next y (column + w))
        counted_on x n g =
            let low = t.low in
            let u : i + x.group.more + 1 ≡ next = let single = x.single in omega arith in
            let v : s.at + (column - s.column) + w ≡ s.at + (column + w - s.column) = omega arith in
            rw (u, x.bytes, x.dif_is, v) at g

    -- the same, stored
    pub lone_stored : {o₀ o o' : List ℕ} (z w v base : ℕ) → Stored ys s o₀ o (difference_state s i p column) → next < length ys → z ≡ get_or ys next 0 → z < 4294967296
        → w ≡ lone p y z → column + w ≤ 80 → v ≡ apart p y → base ≡ lead_of p y
        → Over o (s.at + (column - s.column)) o' (number base v) → Stored ys s o₀ o' (difference_state s next y (column + w))
    lone_stored {o₀ = o₀} {o = o} {o' = o'} z w v base d l e b k m f q u =
        let n = t.next_is in
        let x = lone_found ys i p y z t.some t.counted.started.small t.small t.here (rw n at e) (omega arith) w k (omega arith) in
        let single = x.single in
        let here : y ≡ get_or ys (i + x.group.more) 0 = t.here ∙ ap (λ (j : ℕ). get_or ys j 0) (omega arith) in
        let c = lone_next z w l e b k m in
        record { counted = c.counted; law = λ hd a g. law x single here hd a g; same = ap length u.stored ∙ length-sets o (s.at + (column - s.column)) (number base v ++ u.rest) ∙ d.same }
      where
        law : (x : Alone ys i p y w) → x.group.more ≡ 0 → y ≡ get_or ys (i + x.group.more) 0 → (hd : ℕ → List ℕ) (a : List ℕ) (g : ℕ)
            → Ahead a g o₀ s.at (from hd ys s) → Ahead a g o' (s.at + (column + w - s.column)) (from hd ys (difference_state s next y (column + w)))
        law x single here hd a g h =
            let low = t.low in let n = t.next_is in
            let j : i + x.group.more + 1 ≡ next = omega arith in
            let c : s.at + (column - s.column) + w ≡ s.at + (column + w - s.column) = omega arith in
            let over : Over o (s.at + (column - s.column)) o' (number x.group.base x.group.size) = rw (x.base_is, x.size_is, ← f, ← q) u in
            let y' = stored_group ys (difference_state s i p column) x.group x.found (let bytes = x.bytes in omega arith) t.counted.column_most y here t.small hd
            over single (omega arith) (d.law hd a g h) in
            rw (j, x.bytes, x.dif_is, c) at y'

-- ---- what was stored, within the pass

pub goes_on : {hd : ℕ → List ℕ} {ys o₀ o o' : List ℕ} {s₀ s r : State} {i : ℕ} → Going hd ys o₀ s₀ o s i → Stored ys s o o' r → Going hd ys o₀ s₀ o' r r.given
goes_on {hd = hd} g l =
    let c = l.counted in
    let on = c.on in let most = c.most in let most₀ = g.most in
    record {
      is = refl;
      law = λ x n q. l.law hd x n (g.law x n q);
      same = l.same ∙ g.same;
      inside = c.inside;
      most = omega arith;
      column_most = c.column_most;
      started = c.started;
    }
