-- What reading a number of a value ensures (01, "Values"). Assumes nothing.
use Rattle.std.specs.Prelude.{◌≡◌, true, false, List, ◌⊎◌, ℕ, ◌+◌, ◌%◌, ◌<◌, ◌≤◌, ltb, leb, length, Option, Some, None}
use Rattle.terms.specs.Logic.{pick}
use Rattle.alphabet_spec.specs.Kinds.{Lead, sqz, dif, dup}
use Rattle.alphabet_spec.specs.Entries.{entry_at}
use Rattle.alphabet.specs.Ran.{AllDigits, Ran}
use Rattle.table_spec.specs.Values.{Value, own, room, value_of}
use Rattle.table_spec.specs.Reading.{value, fault}
use Rattle.table_lines.specs.Seen.{here}

-- the kind of value that a pseudo-digit's entry begins
abbrev pub lead_of : ℕ → Lead
lead_of e = pick (ltb e 32) dup (pick (ltb e 48) (dif false) (pick (ltb e 64) (dif true) (pick (ltb e 80) (sqz false) (sqz true))))

-- how many digits may follow the pseudo-digit with the entry e
abbrev pub most : ℕ → ℕ
most e = room (lead_of e) (e % 16)

-- the value that begins with an entry e and has the number v: a digit or a sign begins an ordinate of its own
abbrev pub value_at : ℕ → ℕ → Value
value_at e v = pick (ltb e 16) (own false v) (pick (ltb e 96) (value_of (lead_of e) v) (own (leb 144 e) v))

-- from the place i up to j stand only blanks, digits, pseudo-digits, signs and `?`: no line's end, no comment, and no byte that cannot stand there
abbrev pub Clear : List ℕ → ℕ → ℕ → Type 0
Clear s i j = (k : ℕ) → i ≤ k → k < j → entry_at s k < 160

-- the value x stands at the place i, and what is left of the line at j
pub record Token (s : List ℕ) (i : ℕ) (x : Value) (j : ℕ) : Type 0 where
  pub low : i < j
  pub clear : Clear s i j
  pub high : j ≤ length s
  pub law : here s i ≡ value i x (here s j)

-- the number of a value that begins with the entry e has at most ten digits, a DUP's at most five
abbrev pub below : ℕ → ℕ
below e = pick (ltb e 16) 10000000000 (pick (ltb e 32) 100000 10000000000)

-- the number v of the value that begins at the place i with the entry e: digits follow up to j, where no digit stands
pub record NumberAt (s : List ℕ) (i e v j : ℕ) : Type 0 where
  pub small : v < below e
  pub token : Token s i (value_at e v) j
  pub digits : AllDigits s (i + 1) j
  pub over : 16 ≤ entry_at s j

-- a number was read; or it is misspelled
abbrev pub Numbered : List ℕ → ℕ → ℕ → Option (ℕ × ℕ) → Type 0
Numbered s i e (Some (v, j)) = NumberAt s i e v j
Numbered s i e None = here s i ≡ fault 5 i

-- ten digits at most are taken from the place i on: there is none, or one too many
pub record NotPlain (s : List ℕ) (i : ℕ) : Type 0 where
  pub number : ℕ
  pub place : ℕ
  pub run : Ran s i 0 10 number place (entry_at s place)
  pub wrong : place ≡ i ⊎ entry_at s place < 16

-- the number v of the digits from the place i up to j, where no digit stands; or it is misspelled
abbrev pub Plain : List ℕ → ℕ → Option (ℕ × ℕ) → Type 0
Plain s i (Some (v, j)) = Ran s i 0 10 v j (entry_at s j) × (i < j) × (16 ≤ entry_at s j)
Plain s i None = NotPlain s i
