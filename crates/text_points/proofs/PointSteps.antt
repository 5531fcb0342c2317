-- What counting point by point needs: the group so far, by its token, and that it is whole where the next point has another. No place of the code is named here. Assumes nothing.
use mathlib.Core.Path.{◌≡◌, refl, sym, ap, ◌∙◌}
use mathlib.Core.Bool.{Bool, true, false}
use mathlib.Core.List.{List}
use Prim.Native.Nat.{ℕ, ◌+◌, ◌-◌, ◌≤◌, ◌<◌}
use native.Mathlib.Omega.{arith}
use lib.Dec.{ltb, eqb}
use lib.IntN.{ℤ}
use lib.ListN.{length, length-map, get_or}
use borrow.Author.Tests.{ltb-true, ltb-false, eqb-true, eqb-false, lt-ltb}
use Rattle.terms.specs.Logic.{pick, by_case}
use Rattle.table_spec.specs.Frame.{apart, ordinate_of}
use Rattle.table_spec.specs.Groups.{dup_text}
use Rattle.text_tokens.specs.declared.Token.{Token}
use Rattle.text_tokens.specs.declared.Group.{Group}
use Rattle.text_openings.specs.declared.State.{State}
use Rattle.table_text.specs.Digits.{further}
use Rattle.table_text.specs.Pieces.{ordinates}
use Rattle.table_text.specs.DigitLaws.{further_le}
use Rattle.table_text.proofs.SmallSteps.{further_one, further_two}
use Rattle.table_text.proofs.NumberSteps.{dup_none, dup_length}
use Rattle.text_tokens.specs.Tokens.{again, TokenFor, Found}
use Rattle.text_tokens.proofs.TokenSteps.{found, again_not, again_so, dif_either, Copies, copies_start, copies_more, copies_stop}
use Rattle.text_openings.specs.Lines.{Started, Countable, Counted, difference_state}
use Rattle.text_differences.proofs.LoneSteps.{counted_none, counted_then, counted_group, lone_start}
use Rattle.text_points.specs.Points.{Opens}

-- ---- the bytes of a DUP

dup_one : (m : ℕ) → 0 < m → m < 9 → 1 ≡ length (dup_text m)
dup_one m l h = dup_length m 0 (λ e. omega arith) (sym (further_one (m + 1) (omega arith)))

dup_two : (m : ℕ) → 9 ≤ m → m < 99 → 2 ≡ length (dup_text m)
dup_two m l h = dup_length m 1 (λ e. omega arith) (sym (further_two (m + 1) (omega arith) (omega arith)))

pub dup_first : (m : ℕ) → m ≡ 0 → length (dup_text (m + 1)) ≡ length (dup_text m) + 1
dup_first m e = omega (arith, ap length (dup_none m e), dup_one (m + 1) (omega arith) (omega arith))

pub dup_second : (m : ℕ) → m ≡ 8 → length (dup_text (m + 1)) ≡ length (dup_text m) + 1
dup_second m e = omega (arith, dup_one m (omega arith) (omega arith), dup_two (m + 1) (omega arith) (omega arith))

pub dup_same : (m : ℕ) → (m ≡ 0 → ⊥) → (m ≡ 8 → ⊥) → m ≤ 97 → length (dup_text (m + 1)) ≡ length (dup_text m) + 0
dup_same m n k l =
    by_case (λ _. length (dup_text (m + 1)) ≡ length (dup_text m) + 0) (ltb m 8)
    (λ e. let h = ltb-true m 8 e in omega (arith, n, dup_one m (omega (arith, n)) (omega arith), dup_one (m + 1) (omega arith) (omega arith)))
    (λ e. let h = ltb-false m 8 e in omega (arith, k, dup_two m (omega (arith, k)) (omega arith), dup_two (m + 1) (omega arith) (omega arith)))

dup_short : (m : ℕ) → length (dup_text m) ≤ 10
dup_short m =
    by_case (λ _. length (dup_text m) ≤ 10) (eqb m 0)
    (λ e. omega (arith, ap length (dup_none m (eqb-true m 0 e))))
    (λ e. omega (arith, dup_length m (further 9 (m + 1)) (eqb-false m 0 e) refl, further_le 9 (m + 1)))

-- ---- the token of y after p in DIF form, and that it leads from the one to the other

record DifToken (p y : ℕ) : Type 0 where
  token : Token
  for : TokenFor p y token
  size_is : token.size ≡ apart p y
  dif_is : token.dif ≡ true
  leads : p + token.up ≡ y + token.down

dif_token : (p y : ℕ) → 0 < p → p < 4294967296 → 0 < y → y < 4294967296 → DifToken p y
dif_token p y h a k b = record { token = _; for = dif_either p y h a k b; size_is = omega arith; dif_is = refl; leads = omega arith }

pub pick_most : (r : Bool) (a b : ℕ) → a ≤ 81 → b ≤ 10 → pick r a b ≤ 81
pick_most true a b h k = h
pick_most false a b h k = omega arith

-- ---- nothing is done

pub counted_here : (es : List ℤ) (s : State) (far : ℕ) → Countable far es s → s.given < length es → Counted (ordinates es) s s × (s.given < length es)
counted_here es s far c h = (counted_none (ordinates es) s c.started (omega (arith, length-map es ordinate_of)) c.column_most, h)

-- ---- the loop over points: all before the last group is counted, and what of the group was met ends at the column

pub record PointsTo (ys : List ℕ) (s : State) (p y before start column more next : ℕ) : Type 0 where
  group : ℕ
  first : ℕ
  token : Token
  pub counted : Counted ys s (difference_state s (next - 1 - more) before start)
  pub next_is : next ≡ group + 1 + more
  here : first ≡ get_or ys group 0
  for : TokenFor before first token
  dif_is : token.dif ≡ true
  copies : Copies ys (group + 1) token first y next
  leads : p + token.up ≡ y + token.down
  last : y ≡ get_or ys (group + more) 0
  some : 0 < y
  pub p_small : p < 4294967296
  pub y_small : y < 4294967296
  wide : column ≡ start + (1 + further 9 token.size) + length (dup_text more)
  pub fits : column ≤ 80
  pub low : s.column ≤ start
  pub high : start ≤ column
  pub inside : next ≤ length ys

pub points_reach : {ys : List ℕ} {s : State} {p y before start column more next : ℕ} → PointsTo ys s p y before start column more next → more + 1 ≤ next
points_reach t = let n = t.next_is in omega arith

module _ (ys : List ℕ) (s : State) where
  pub points_start : (y wide : ℕ) → Started s → s.dif ≡ true → 0 < s.last → s.given < length ys → s.column ≤ s.at → Opens ys s y wide
      → PointsTo ys s s.last y s.last s.column wide 0 (s.given + 1)
  points_start y wide b d p l c o =
      let z = lone_start ys s y b d p l c o.here o.small in
      let t = dif_token s.last y p b.small o.some o.small in
      let e : s.given + 1 - 1 - 0 ≡ s.given = omega arith in
      let f : s.given + 0 ≡ s.given = omega arith in
      record {
        group = s.given;
        first = y;
        token = t.token;
        counted = rw e z.counted;
        next_is = omega arith;
        here = o.here;
        for = t.for;
        dif_is = t.dif_is;
        copies = copies_start ys (s.given + 1) t.token y o.small (omega arith);
        leads = t.leads;
        last = rw f o.here;
        some = o.some;
        p_small = b.small;
        y_small = o.small;
        wide = omega (arith, o.wide_is, ap (further 9) t.size_is, ap length (dup_none 0 refl));
        fits = o.fits;
        low = omega arith;
        high = omega (arith, o.wide_is);
        inside = omega arith;
      }

  module _ {p y before start column more next : ℕ} (t : PointsTo ys s p y before start column more next)
      (z : ℕ) (l : next < length ys) (e : z ≡ get_or ys next 0) (b : z < 4294967296) (k : 0 < z) where
    again_is : p + z ≡ y + y → again t.token y z ≡ true
    again_is h =
        let leads = t.leads in
        sym (again_so t.token y z (omega arith)) ∙ rw (t.dif_is, lt-ltb 0 z k) refl

    -- one point more in the group
    more_points : (w : ℕ) → p + z ≡ y + y → length (dup_text (more + 1)) ≡ length (dup_text more) + w → column + w ≤ 80
        → PointsTo ys s y z before start (column + w) (more + 1) (next + 1)
    more_points w h d m =
        let n = t.next_is in let leads = t.leads in let wide = t.wide in let high = t.high in
        let g : next + 1 - 1 - (more + 1) ≡ next - 1 - more = omega arith in
        let i : group_place ≡ next = omega arith in
        record {
          group = t.group;
          first = t.first;
          token = t.token;
          counted = rw g t.counted;
          next_is = omega arith;
          here = t.here;
          for = t.for;
          dif_is = t.dif_is;
          copies = copies_more ys (t.group + 1) t.token t.first t.copies z l e b (again_is h);
          leads = omega arith;
          last = rw i e;
          some = k;
          p_small = t.y_small;
          y_small = b;
          wide = omega arith;
          fits = m;
          low = t.low;
          high = omega arith;
          inside = omega arith;
        }
      where
        group_place : ℕ
        group_place = t.group + (more + 1)

    -- the next point has another token, so that the group is whole
    module _ (h : p + z ≡ y + y → ⊥) where
      abbrev the_group : Group
      the_group =
          record {
            base = t.token.base;
            size = t.token.size;
            digits = further 9 t.token.size;
            more = more;
            width = 1 + further 9 t.token.size + length (dup_text more);
            dif = t.token.dif;
          }

      whole : Found ys t.group before the_group
      whole =
          let leads = t.leads in let n = t.next_is in
          let c = copies_stop ys (t.group + 1) t.token t.first t.copies z l e (sym (again_not t.token y z (λ q. h (omega arith)))) in
          found ys t.group before t.first more (further 9 t.token.size) (length (dup_text more)) t.token t.here t.for
          (omega (arith, c.0)) (omega (arith, c.1)) refl (refl, dup_short more)

      pub counted_whole : Counted ys s (difference_state s next y column)
      counted_whole =
          let wide = t.wide in let fits = t.fits in let low = t.low in let n = t.next_is in
          let u : next - 1 - more ≡ t.group = omega arith in
          let c : Counted ys s (difference_state s t.group before start) = rw u at t.counted in
          let g = (counted_group ys (difference_state s t.group before start) the_group whole (omega arith) c.column_most y t.last t.y_small).0 in
          let i : t.group + more + 1 ≡ next = omega arith in
          let w : start + (1 + further 9 t.token.size + length (dup_text more)) ≡ column = omega arith in
          let v : s.at + (start - s.column) + (1 + further 9 t.token.size + length (dup_text more)) ≡ s.at + (column - s.column) = omega arith in
          counted_then ys c (rw (i, w, v, t.dif_is) at g)

      next_group : (w : ℕ) → w ≡ 1 + further 9 (apart y z) → column + w ≤ 80 → PointsTo ys s y z y column (column + w) 0 (next + 1)
      next_group w q m =
          let x = dif_token y z t.some t.y_small k b in
          let g : next + 1 - 1 - 0 ≡ next = omega arith in
          let i : next + 0 ≡ next = omega arith in
          let low = t.low in let high = t.high in
          record {
            group = next;
            first = z;
            token = x.token;
            counted = rw g counted_whole;
            next_is = omega arith;
            here = e;
            for = x.for;
            dif_is = x.dif_is;
            copies = copies_start ys (next + 1) x.token z b (omega arith);
            leads = x.leads;
            last = rw i e;
            some = k;
            p_small = t.y_small;
            y_small = b;
            wide = omega (arith, ap (further 9) x.size_is, ap length (dup_none 0 refl));
            fits = m;
            low = omega arith;
            high = omega arith;
            inside = omega arith;
          }

    -- the state before the group that z is in, whichever it is
    pub points_counted : (r : Bool) → eqb (p + z) (y + y) ≡ r
        → Counted ys s (difference_state s (next - pick r (more + 1) 0) (pick r before y) (pick r start column)) × (s.column ≤ pick r start column)
        × (pick r start column ≤ 80) × (pick r (more + 1) 0 ≤ next)
    points_counted true q =
        let n = t.next_is in let fits = t.fits in let high = t.high in
        let g : next - (more + 1) ≡ next - 1 - more = omega arith in
        (rw g t.counted, t.low, omega arith, omega arith)
    points_counted false q =
        let low = t.low in let high = t.high in
        let g : next - 0 ≡ next = omega arith in
        (rw g (counted_whole (eqb-false (p + z) (y + y) q)), omega arith, t.fits, omega arith)

    pub points_next : (r : Bool) (c w : ℕ) → eqb (p + z) (y + y) ≡ r → (c ≤ 80 → length (dup_text (more + 1)) ≡ length (dup_text more) + c) → w ≡ 1 + further 9 (apart y z)
        → column + pick r c w ≤ 80 → PointsTo ys s y z (pick r before y) (pick r start column) (column + pick r c w) (pick r (more + 1) 0) (next + 1)
    points_next true c w q d a m = more_points c (eqb-true (p + z) (y + y) q) (d (omega arith)) m
    points_next false c w q d a m = next_group (eqb-false (p + z) (y + y) q) w a m
