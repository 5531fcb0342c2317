-- Which texts spell which ordinates, said from the ordinates to the bytes (01, "Spelling of a body"). Nothing here runs a reader or takes a text apart. Assumes nothing.
-- `R x t s`: the text t is x, spelled, and then s. With reading this shares the names of values, forms and spots, the frame's rules (how many points, which heads of which unit
-- pass, is a tab a blank) and the longest line; every other rule is said here once more, in its own words.
use Rattle.std.specs.Prelude.{◌≡◌, Bool, true, false, List, [], ◌∷◌, ◌++◌, ℕ, zero, suc, ◌+◌, ◌-◌, ◌*◌, ◌≤◌, ◌<◌, length}
use Rattle.alphabet_spec.specs.Kinds.{sqz, dif, dup, Pseudo, Blank}
use Rattle.alphabet_spec.specs.SpelledDigits.{SpelledDigits}
use Rattle.table_spec.specs.Frame.{Rules, longest_line, zero_abscissa, zero_ordinate}
use Rattle.table_spec.specs.Values.{Value, own, gap, by, times, Form, Own, Gap, By, Dup, Spot, first, after}

-- ---- "Head. Optional sign, 1 to 7 digits, then optionally a point and 0 to 3 digits"

-- "its last written place" (02, T-03), after so many digits behind the point: what it is worth in thousandths. "A head with no digit after the point has unit 1"
pub data LastPlace : ℕ → ℕ → Type 0 where
  ones : LastPlace 0 1000
  tenths : LastPlace 1 100
  hundredths : LastPlace 2 10
  thousandths : LastPlace 3 1

-- whole thousandths, without a sign, and the unit
pub data Magnitude : ℕ → ℕ → List ℕ → List ℕ → Type 0 where
  whole : {n w x : ℕ} {t s : List ℕ} → 0 < n → n ≤ 7 → SpelledDigits n 0 w t s → LastPlace 0 x → Magnitude (w * x) x t s
  pointed : {n k w v x : ℕ} {t u s : List ℕ} → 0 < n → n ≤ 7 → SpelledDigits n 0 w t (46 ∷ u) → SpelledDigits k w v u s → LastPlace k x → Magnitude (v * x) x t s

-- the abscissa x, as x + 10^10, and the unit
pub data Head : ℕ → ℕ → List ℕ → List ℕ → Type 0 where
  unsigned : {h x : ℕ} {t s : List ℕ} → Magnitude h x t s → Head (zero_abscissa + h) x t s
  positive : {h x : ℕ} {t s : List ℕ} → Magnitude h x t s → Head (zero_abscissa + h) x (43 ∷ t) s
  negative : {h x : ℕ} {t s : List ℕ} → Magnitude h x t s → Head (zero_abscissa - h) x (45 ∷ t) s

-- ---- "Values": the kinds and how they are spelled. True: directly after a blank

pub data Spelled : Bool → Value → List ℕ → List ℕ → Type 0 where
  -- AFFN and PAC: "sign and 1 to 10 digits, or 1 to 10 digits directly after a blank"
  plus : {q : Bool} {n v : ℕ} {t s : List ℕ} → 0 < n → n ≤ 10 → SpelledDigits n 0 v t s → Spelled q (own false v) (43 ∷ t) s
  minus : {q : Bool} {n v : ℕ} {t s : List ℕ} → 0 < n → n ≤ 10 → SpelledDigits n 0 v t s → Spelled q (own true v) (45 ∷ t) s
  plain : {n v : ℕ} {t s : List ℕ} → 0 < n → n ≤ 10 → SpelledDigits n 0 v t s → Spelled true (own false v) t s
  -- SQZ and DIF: a pseudo-digit and at most 9 digits, but none after `@` and `%`
  sqz_zero : {q : Bool} {s : List ℕ} → Spelled q (own false 0) (64 ∷ s) s
  sqz_more : {q m : Bool} {n d b v : ℕ} {t s : List ℕ} → Pseudo (sqz m) d b → 0 < d → n ≤ 9 → SpelledDigits n d v t s → Spelled q (own m v) (b ∷ t) s
  dif_zero : {q : Bool} {s : List ℕ} → Spelled q (by false 0) (37 ∷ s) s
  dif_more : {q m : Bool} {n d b v : ℕ} {t s : List ℕ} → Pseudo (dif m) d b → 0 < d → n ≤ 9 → SpelledDigits n d v t s → Spelled q (by m v) (b ∷ t) s
  -- DUP: a pseudo-digit and at most 4 digits
  dup_more : {q : Bool} {n d b v : ℕ} {t s : List ℕ} → Pseudo dup d b → n ≤ 4 → SpelledDigits n d v t s → Spelled q (times v) (b ∷ t) s
  missing : {q : Bool} {s : List ℕ} → Spelled q gap (63 ∷ s) s

-- ---- "Meaning": the points that a value adds at a spot, after the ordinate p; its form there, and the ordinate after it. An ordinate y is y + 2^31, a missing one 0

-- -2,147,483,647 to 2,147,483,647
pub record Ordinate (u : ℕ) : Type 0 where
  pub low : 0 < u
  pub high : u < 4294967296

-- an ordinate of its own, by its sign (true: minus) and size
pub data Sized : Bool → ℕ → ℕ → Type 0 where
  size_up : {v : ℕ} → v ≤ 2147483647 → Sized false v (zero_ordinate + v)
  size_down : {v : ℕ} → v ≤ 2147483647 → Sized true v (zero_ordinate - v)

-- "DIF adds to the ordinate before it": from p by a difference of this sign and size
pub data Step : Bool → ℕ → ℕ → ℕ → Type 0 where
  up : {d p : ℕ} → Step false d p (p + d)
  down : {d p : ℕ} → Step true d p (p - d)

-- n further copies of a difference after p, each of them a step from the one before, and the last ordinate
pub data Steps (m : Bool) (d : ℕ) : ℕ → ℕ → List ℕ → ℕ → Type 0 where
  no_step : {p : ℕ} → Steps m d 0 p [] p
  one_step : {n p u e : ℕ} {us : List ℕ} → Step m d p u → Ordinate u → Steps m d n u us e → Steps m d (suc n) p (u ∷ us) e

-- n further copies of an ordinate
abbrev pub same : ℕ → ℕ → List ℕ
same zero u = []
same (suc n) u = u ∷ same n u

-- "The first value of a line is AFFN, SQZ or missing. DIF does not follow a missing ordinate; DUP does not follow DUP." A check line's first value equals the last point and adds none.
-- "DUP with count c stands for c-1 further copies of the value before it (of the difference, if that was DIF); c is at least 2"
pub data Stands : Spot → ℕ → Value → List ℕ → Form → ℕ → Type 0 where
  check : {m : Bool} {p v : ℕ} → Sized m v p → Stands (first true) p (own m v) [] Own p
  own_first : {m : Bool} {p u v : ℕ} → Sized m v u → Stands (first false) p (own m v) (u ∷ []) Own u
  own_after : {m : Bool} {p u v : ℕ} {r : Form} → Sized m v u → Stands (after r) p (own m v) (u ∷ []) Own u
  gap_first : {p : ℕ} → Stands (first false) p gap (0 ∷ []) Gap 0
  gap_after : {p : ℕ} {r : Form} → Stands (after r) p gap (0 ∷ []) Gap 0
  dif_after : {m : Bool} {p d u : ℕ} {r : Form} → 0 < p → Step m d p u → Ordinate u → Stands (after r) p (by m d) (u ∷ []) (By m d) u
  dup_own : {p n : ℕ} → 1 ≤ n → Stands (after Own) p (times (suc n)) (same n p) (Dup false) p
  dup_gap : {p n : ℕ} → 1 ≤ n → Stands (after Gap) p (times (suc n)) (same n p) (Dup false) p
  dup_dif : {m : Bool} {p d n e : ℕ} {us : List ℕ} → 1 ≤ n → Steps m d n p us e → Stands (after (By m d)) p (times (suc n)) us (Dup true) e

-- ---- comments and ends of lines

-- the rest of a comment, of any bytes but LF; and the lines after it
pub data Comment : List ℕ → List ℕ → Type 0 where
  cut : Comment [] []
  ends : {s : List ℕ} → Comment (10 ∷ s) s
  any : {b : ℕ} {t s : List ℕ} → (b ≡ 10 → ⊥) → Comment t s → Comment (b ∷ t) s

-- LF, CR LF, the end of the body, or a comment with its line's end
pub data LineEnd : List ℕ → List ℕ → Type 0 where
  over : LineEnd [] []
  lf : {s : List ℕ} → LineEnd (10 ∷ s) s
  cr_lf : {s : List ℕ} → LineEnd (13 ∷ 10 ∷ s) s
  comment : {t s : List ℕ} → Comment t s → LineEnd (36 ∷ 36 ∷ t) s

-- ---- lines

-- the values of a line, at least one, with blanks before, between and after, from a spot after the ordinate p: the points that they add, the last form and the last ordinate
pub data Line (tabs : Bool) : Bool → Spot → ℕ → List ℕ → Form → ℕ → List ℕ → List ℕ → Type 0 where
  done : {q : Bool} {r : Form} {p : ℕ} {t s : List ℕ} → LineEnd t s → Line tabs q (after r) p [] r p t s
  blank : {q : Bool} {w : Spot} {p e b : ℕ} {vs t s : List ℕ} {r : Form} → Blank tabs b → Line tabs true w p vs r e t s → Line tabs q w p vs r e (b ∷ t) s
  value : {q : Bool} {w : Spot} {p y e : ℕ} {x : Value} {us vs t u s : List ℕ} {f r : Form}
      → Spelled q x t u → Stands w p x us f y → Line tabs false (after f) y vs r e u s → Line tabs q w p (us ++ vs) r e t s

-- "A DUP has the form of what it repeats": does a line end in DIF form, if its last value has this one?
pub data EndsInDif : Form → Bool → Type 0 where
  own_not : EndsInDif Own false
  gap_not : EndsInDif Gap false
  dif_does : {m : Bool} {d : ℕ} → EndsInDif (By m d) true
  dup_as : {b : Bool} → EndsInDif (Dup b) b

-- "Checks": the index that a head belongs to after i points: on a check line (true) that of the last one given, else that of the next
pub data Belongs : Bool → ℕ → ℕ → Type 0 where
  last_given : {i : ℕ} → Belongs true i (i - 1)
  next_point : {i : ℕ} → Belongs false i i

-- the lines of a body after i points, the last of them p; true: the line before ended in DIF form, so the next one is a check line. It ends with N points and not in DIF form
pub data Body (R : Rules) : ℕ → ℕ → Bool → List ℕ → List ℕ → Type 0 where
  end : {p : ℕ} → Body R R.points p false [] []
  indent : {i p b : ℕ} {c : Bool} {ys s : List ℕ} → Blank R.tabs b → Body R i p c ys s → Body R i p c ys (b ∷ s)
  passed : {i p : ℕ} {c : Bool} {ys t s : List ℕ} → LineEnd t s → Body R i p c ys s → Body R i p c ys t
  row : {i j p e h x : ℕ} {c d : Bool} {vs ys t u s : List ℕ} {r : Form}
      → Head h x t u → Belongs c i j → R.passing h x j ≡ true
      → Line R.tabs false (first c) p vs r e u s → EndsInDif r d
      → Body R (i + length vs) e d ys s
      → Body R i p c (vs ++ ys) t

-- ---- "Eighty bytes is the rule" (02, T-06)

-- every line has at most 80 bytes before its end, LF, CR LF or the end of the body; the first one has at most m
pub data Short : ℕ → List ℕ → Type 0 where
  over : {m : ℕ} → Short m []
  lf : {m : ℕ} {s : List ℕ} → Short longest_line s → Short m (10 ∷ s)
  cr_lf : {m : ℕ} {s : List ℕ} → Short longest_line s → Short m (13 ∷ 10 ∷ s)
  byte : {m b : ℕ} {s : List ℕ} → Short m s → Short (suc m) (b ∷ s)

-- these bytes are a spelling of these ordinates under these rules
pub record Spells (R : Rules) (ys s : List ℕ) : Type 0 where
  pub body : Body R 0 0 false ys s
  pub short : Short longest_line s
