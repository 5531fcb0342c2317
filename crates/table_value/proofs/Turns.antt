-- From a value to what it does to the state of reading. No place of the code is named here. Assumes nothing.
use mathlib.Core.Path.{◌≡◌, refl, sym, subst}
use mathlib.Core.List.{List, [], ◌∷◌, ◌++◌, map}
use Prim.Native.Nat.{ℕ, suc, ◌+◌, ◌≤◌, ◌<◌}
use native.Mathlib.Omega.{arith}
use native.Mathlib.Nat.{add-zero, add-suc, suc-add}
use lib.IntN.{ℤ}
use lib.ListN.{length, set}
use lib.Seq.{sets}
use borrow.Author.Tests.{le-leb, lt-leb}
use Rattle.table_spec.specs.Frame.{entry_for}
use Rattle.table_spec.specs.Values.{Value, Form, Spot, after, last_or}
use Rattle.table_spec.specs.Reading.{adds, refuses, says}
use Rattle.table_lines.specs.Seen.{here}
use Rattle.table_numbers.specs.Numbers.{Clear, Token}
use Rattle.table_value.specs.LineValues.{broken, taken, line_says}
use Rattle.table_value.specs.States.{Holds, Sits, Reads, Gone, Stepped}
use Rattle.table_value.specs.declared.Cur.{Cur}
use Rattle.std.specs.Prelude.{Ok}
use Rattle.table_value.specs.declared.Step.{Step}

-- ---- points, one part after the other

pub stored_then : (us vs : List ℕ) (out : List ℤ) (k : ℕ) → sets (sets out k (map entry_for us)) (k + length us) (map entry_for vs) ≡ sets out k (map entry_for (us ++ vs))
stored_then [] vs out k = rw (add-zero k) refl
stored_then (u ∷ us) vs out k = rw (add-suc k (length us), ← suc-add k (length us)) (stored_then us vs (set out k (entry_for u)) (suc k))

-- ---- a value that was read

module _ (N : ℕ) (s : List ℕ) {at j : ℕ} {x : Value} (t : Token s at x j) (k p : ℕ) (w : Spot) where
  -- it is refused by what it says
  pub value_not : (n : ℕ) → says w p x ≡ refuses n → line_says N (here s at) k p w ≡ broken [] n at
  unfolding line_says taken
  value_not n e = rw (t.law, e) refl

  -- it stands for more points than are left
  pub value_full : (us : List ℕ) (g : Form) → says w p x ≡ adds us g → N < k + length us → line_says N (here s at) k p w ≡ broken [] 11 at
  unfolding line_says taken
  value_full us g e l = rw (t.law, e, lt-leb (k + length us) N l) refl

  -- it adds its points
  pub value_adds : (us : List ℕ) (g : Form) (out out' : List ℤ) (r : Cur) → says w p x ≡ adds us g → k + length us ≤ N → r.at ≡ j → r.k ≡ k + length us
      → Holds r.q r.want r.step r.form (last_or p us) (after g) → out' ≡ sets out k (map entry_for us) → Gone N s at k p w out out' r
  unfolding line_says taken
  value_adds us g out out' r e l a b h o =
      record {
        points = us;
        ordinate = last_or p us;
        spot = after g;
        holds = h;
        count = b;
        stored = o;
        law = rw (t.law, e, le-leb (k + length us) N l, a, b) refl;
      }

-- the state after it
pub value_stepped : {N : ℕ} {s : List ℕ} {c r : Cur} {out out' : List ℤ} {j : ℕ} {x : Value} → Token s c.at x j → r.at ≡ j → Sits N s r
    → Reads c (λ p w. Gone N s c.at c.k p w out out' r) → Stepped N s c out out' (Ok (Step.Go r))
value_stepped {s = s} {c} t e h f =
    let l = t.low in
    (omega arith, record { low = omega arith; clear = subst (λ (n : ℕ). Clear s c.at n) (sym e) t.clear; sits = h; law = f })

-- the state after a value
pub sits_next : {N : ℕ} {s : List ℕ} {i j : ℕ} {x : Value} → Token s i x j → (k q want d form : ℕ) → q < 4294967296 → d < 10000000000 → k ≤ N
    → Sits N s (record { at = j; k = k; q = q; want = want; step = d; form = form })
sits_next t k q want d form a b l = let z = t.low in record { some = omega arith; high = t.high; small = a; size = b; few = l }
