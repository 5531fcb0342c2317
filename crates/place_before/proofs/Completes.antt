-- Every state between lines can be completed to a table: its check line if one is due, then a line with a missing ordinate for each point still to come (01, "Spelling of a body"). Assumes nothing.
use Rattle.std.specs.Prelude.{◌≡◌, refl, Bool, true, false, List, [], ◌∷◌, ◌++◌, ℕ, zero, suc, ◌+◌, ◌-◌, ◌≤◌, ◌<◌, length}
use Rattle.std.proofs.Common.{sym, append_assoc, arith, not-suc-le-zero, le_of_suc-le-suc, length-append}
use Rattle.terms.specs.Logic.{no_way}
use Rattle.alphabet_spec.specs.Kinds.{sqz}
use Rattle.table_spec.specs.Frame.{Rules, longest_line}
use Rattle.table_spec.specs.Values.{own}
use Rattle.table_spec.specs.Numerals.{numeral}
use Rattle.table_spec.specs.Groups.{sqz_text}
use Rattle.table_law.specs.Spelling.{Spelled, missing, Ordinate, Sized, check, gap_first, lf, done, value, own_not, gap_not, last_given, next_point, Body, end, row}
use Rattle.table_law.specs.Spelling.{Short, over as short-over, lf as short-lf, byte}
use Rattle.table_write_law.specs.Numbers.{Spellable, numeral_spelled}
use Rattle.table_write_law.specs.Tokens.{by_sign}
use Rattle.table_write_law.specs.Lengths.{sqz_most}
use Rattle.place_before.specs.Before.{Writable}

-- the text t is the ordinate p, of some sign and size, before every text, after a blank or not
abbrev pub TextOf : ℕ → List ℕ → Type 0
TextOf p t = (m : Bool) × (v : ℕ) × Sized m v p × ((q : Bool) (s : List ℕ) → Spelled q (own m v) (t ++ s) s)

-- 01, "Values": every ordinate has a spelling as SQZ
pub as_sqz : (p : ℕ) → Ordinate p → TextOf p (sqz_text p)
unfolding sqz_text
as_sqz p o =
    by_sign (TextOf p) (numeral (sqz false)) (numeral (sqz true)) p o.low o.high
    (λ v l z. (false, v, z, λ q s. let k : Spellable (sqz false) v = record { short = omega arith; some = λ e. no_way (sym e) } in numeral_spelled (sqz false) v k))
    (λ v g l z. (true, v, z, λ q s. let k : Spellable (sqz true) v = record { short = omega arith; some = λ e. g } in numeral_spelled (sqz true) v k))

-- a line of at most m bytes with its LF, before short lines
pub short_line : (w s : List ℕ) (m : ℕ) → length w ≤ m → Short longest_line s → Short m (w ++ 10 ∷ s)
short_line [] s m l r = short-lf r
short_line (b ∷ w) s zero l r = absurd (not-suc-le-zero l)
short_line (b ∷ w) s (suc m) l r = byte (short_line w s m (le_of_suc-le-suc l) r)

-- a text that goes on to a table after i points, the last of them p; true: a check line is due
pub record Goes (R : Rules) (i p : ℕ) (due : Bool) : Type 0 where
  pub text : List ℕ
  pub ordinates : List ℕ
  pub body : Body R i p due ordinates text
  pub short : Short longest_line text

module _ (R : Rules) (W : Writable R) where
  -- a line of a head and a missing ordinate
  missing_row : (i p : ℕ) → i < R.points → Goes R (i + 1) 0 false → Goes R i p false
  missing_row i p l z =
      let h = W.head_for i l in
      let k = h.passing (63 ∷ 10 ∷ z.text) in
      let e : (h.text ++ 63 ∷ []) ++ 10 ∷ z.text ≡ h.text ++ 63 ∷ 10 ∷ z.text = append_assoc h.text (63 ∷ []) (10 ∷ z.text) in
      record {
        text = h.text ++ 63 ∷ 10 ∷ z.text;
        ordinates = 0 ∷ z.ordinates;
        body = row k.spelled next_point k.passes (value missing gap_first (done lf)) gap_not z.body;
        short = rw e at (short_line (h.text ++ 63 ∷ []) z.text longest_line (omega (arith, h.fits, length-append h.text (63 ∷ []))) z.short);
      }

  -- n points still to come, each of them missing
  fill : (n i p : ℕ) → i + n ≡ R.points → Goes R i p false
  fill zero i p e =
      let f : i ≡ R.points = omega arith in
      record { text = []; ordinates = []; body = rw f end; short = short-over }
  fill (suc n) i p e = missing_row i p (omega arith) (fill n (i + 1) 0 (omega arith))

  -- a check line of a head and the last ordinate
  check_row : (i p : ℕ) → i ≤ R.points → Ordinate p → Goes R i p false → Goes R i p true
  check_row i p l o z =
      let h = W.head_for (i - 1) (omega (arith, W.some_point)) in
      let q = as_sqz p o in
      let k = h.passing (sqz_text p ++ 10 ∷ z.text) in
      let e : (h.text ++ sqz_text p) ++ 10 ∷ z.text ≡ h.text ++ (sqz_text p ++ 10 ∷ z.text) = append_assoc h.text (sqz_text p) (10 ∷ z.text) in
      let g : i ≡ i + 0 = omega arith in
      record {
        text = h.text ++ (sqz_text p ++ 10 ∷ z.text);
        ordinates = z.ordinates;
        body = row k.spelled last_given k.passes (value (q.3 false (10 ∷ z.text)) (check q.2) (done lf)) own_not (rw g at z.body);
        short = rw e at (short_line (h.text ++ sqz_text p) z.text longest_line (omega (arith, h.fits, sqz_most p, length-append h.text (sqz_text p))) z.short);
      }

  -- THE LAW: every state can be completed
  pub completes : (i p : ℕ) (due : Bool) → i ≤ R.points → (due ≡ true → Ordinate p) → Goes R i p due
  completes i p false l o = fill (R.points - i) i p (omega arith)
  completes i p true l o = check_row i p l (o refl) (fill (R.points - i) i p (omega arith))
