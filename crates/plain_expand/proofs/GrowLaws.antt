-- What stands next on a line, and how a row grows by it. No place of the code is named here. Assumes nothing.
use Rattle.terms.specs.declared.Reason.{Reason}
use mathlib.Core.Path.{◌≡◌, refl, ap, ◌∙◌}
use mathlib.Core.List.{List, [], ◌∷◌, ◌++◌, append-nil, map}
use Prim.Native.Nat.{ℕ, ◌+◌, ◌-◌, ◌≤◌, ◌<◌}
use native.Mathlib.Omega.{arith}
use lib.IntN.{ℤ}
use lib.ListN.{length, length-append}
use lib.Seq.{sets}
use Rattle.table_spec.specs.Frame.{entry_for}
use Rattle.table_spec.specs.Values.{Value, Form, By, is_dif, after, last_or}
use Rattle.table_spec.specs.Reading.{Tokens, fault, value}
use Rattle.table_lines.specs.Seen.{behind, here}
use Rattle.table_lines.specs.Ends.{Blanked, Ended}
use Rattle.table_numbers.specs.Numbers.{Token}
use Rattle.table_ordinates.proofs.Moves.{copies_length}
use Rattle.table_value.proofs.Turns.{stored_then}
use Rattle.plain_spec.specs.Rows.{Row, done, values}
use Rattle.plain_spec.specs.Plain.{ordinates, in_dif}
use Rattle.plain_law.specs.Within.{beyond}
use Rattle.plain_law.specs.Growing.{hold, fault_of, Grown, grown_none, grown_then, value_adds, value_over}
use Rattle.plain_values.specs.Means.{form_of, points_of, Means}
use Rattle.plain_values.specs.declared.Points.{Points}
use Rattle.plain_expand.specs.Grows.{NextSays, Stands, rest_of, ExpandSays}
use Rattle.plain_expand.specs.declared.Grows.{Grows}
use Rattle.std.specs.Prelude.{Some, Ok, Err}
use Rattle.plain_expand.specs.declared.Next.{Next}
use Rattle.terms.specs.Refusals.{fault_at, reason_number}

-- ---- what stands next

module _ (s : List ℕ) (from at q : ℕ) (f : Form) (b : Blanked s from at) where
  pub next_end : (j : ℕ) → Ended s at (Some j) → NextSays s from q f (Ok (Next.End j))
  next_end j h = let x = b.low in let y = h.low in (omega arith, h.high, b.within ∙ h.within (behind s at))

  pub next_fault : (c a : ℕ) → here s at ≡ fault c a → NextSays s from q f (Err (fault_at c a))
  unfolding values
  next_fault c a h = let z = b.within ∙ h in (rw z refl, rw z refl)

  module _ {x : Value} {j : ℕ} (t : Token s at x j) where
    pub next_not : (c : Reason) → Means q f x (Err c) → NextSays s from q f (Err (fault_at (reason_number c) at))
    unfolding values
    next_not c h = let z = b.within ∙ t.law in (rw (z, h) refl, rw z refl)

    pub next_gives : (p : Points) → Means q f x (Ok p) → NextSays s from q f (Ok (Next.Gives p at j))
    next_gives p h = let l = b.low in let g = t.low in (omega arith, t.high, h.0, (x, b.within ∙ t.law, h.1))

-- ---- how a row grows

pub record Growing (N : ℕ) (s : List ℕ) (c : Grows) (out out' : List ℤ) (r : Grows) : Type 0 where
  pub stands : Stands N s r
  pub low : c.at ≤ r.at
  pub same : length out' ≡ length out
  pub points : List ℕ
  pub grown : Grown (rest_of N s c) (rest_of N s r) points
  pub count : r.k ≡ c.k + length points
  pub last : last_or c.q points ≡ r.q
  pub laid : out' ≡ sets out c.k (map entry_for points)
  pub ahead : beyond (here s c.at) ≡ beyond (here s r.at)

pub growing_none : (N : ℕ) (s : List ℕ) (c : Grows) (out : List ℤ) → Stands N s c → Growing N s c out out c
growing_none N s c out h =
    record { stands = h; low = omega arith; same = refl; points = []; grown = grown_none _; count = omega arith; last = refl; laid = refl; ahead = refl }

last_append : (p : ℕ) (us vs : List ℕ) → last_or p (us ++ vs) ≡ last_or (last_or p us) vs
last_append p [] vs = refl
last_append p (u ∷ us) vs = last_append u us vs

module _ (N : ℕ) (s : List ℕ) (c : Grows) (out mid : List ℤ) (r : Grows) (g : Growing N s c out mid r) where
  module _ (p : Points) (a j : ℕ) (h : NextSays s r.at r.q (form_of r.form) (Ok (Next.Gives p a j))) where
    counted : length (points_of p) ≡ p.n
    counted = copies_length p.n (By p.minus p.d) p.q

    -- 11
    pub grow_over : N < r.k + p.n → ExpandSays N s c out mid (Err (fault_at 11 a))
    grow_over l =
        let n = counted in
        g.grown.fault
        ∙ ap (λ (t : Tokens). fault_of (hold (values t (after (form_of r.form)) r.q) (N - r.k))) h.3.1
        ∙ value_over a r.q (N - r.k) (form_of r.form) h.3.0 (here s j) h.3.2.is (let e = g.stands.few in omega arith)

    -- its points are laid
    pub grow_on : (out' : List ℤ) → r.k + p.n ≤ N → length out' ≡ length mid → out' ≡ sets mid r.k (map entry_for (points_of p))
        → Growing N s c out out' (record { at = j; k = r.k + p.n; q = p.last; form = p.form })
    grow_on out' l same laid =
        let i = g.low in let j₀ = h.0 in
        let vs = points_of p in
        let n : length vs ≡ p.n = counted in
        let e : N - r.k - length vs ≡ N - (r.k + p.n) = omega arith in
        let count = g.count in
        let z : Grown (hold (values (value a h.3.0 (here s j)) (after (form_of r.form)) r.q) (N - r.k))
        (hold (values (here s j) (after (form_of p.form)) (last_or r.q vs)) (N - r.k - length vs)) vs =
        value_adds a r.q (N - r.k) (form_of r.form) h.3.0 (here s j) h.3.2.is (omega arith) in
        record {
          stands = record { some = omega arith; high = h.1; small = h.2.end; right = h.2.right; few = l };
          low = omega arith;
          same = same ∙ g.same;
          points = g.points ++ vs;
          grown = grown_then g.grown (rw h.3.1 (rw (h.3.2.last, e) at z));
          count = omega (arith, length-append g.points vs);
          last = last_append c.q g.points vs ∙ ap (λ (q : ℕ). last_or q vs) g.last ∙ h.3.2.last;
          laid = laid ∙ rw (g.laid, count) (stored_then g.points vs out c.k);
          ahead = g.ahead ∙ ap beyond h.3.1;
        }

  -- the fault of a value, or of what is no value
  pub grow_bad : (n a : ℕ) → NextSays s r.at r.q (form_of r.form) (Err (fault_at n a)) → ExpandSays N s c out mid (Err (fault_at n a))
  grow_bad n a h = g.grown.fault ∙ ap (λ (q : Row). fault_of (hold q (N - r.k))) h.0

  -- the line's end
  pub grow_end : (j : ℕ) → NextSays s r.at r.q (form_of r.form) (Ok (Next.End j)) → ExpandSays N s c out mid (Ok (r, j))
  unfolding values
  grow_end j h =
      let i = g.low in let l = h.0 in
      let q : rest_of N s r ≡ done (is_dif (form_of r.form)) = rw h.2 refl in
      let all : ordinates (rest_of N s c) ≡ g.points = g.grown.points ∙ ap (λ (x : Row). g.points ++ ordinates x) q ∙ append-nil g.points in (
        h.1,
        omega arith,
        g.stands,
        record {
          fine = g.grown.fault ∙ ap fault_of q;
          count = rw all g.count;
          last = rw all g.last;
          form = g.grown.dif ∙ ap in_dif q;
          beyond = g.ahead ∙ ap beyond h.2;
          laid = rw all g.laid;
        },
      )
