-- The state of the code within a line, how it keeps what the definition of reading keeps, and what the functions on one value ensure. Assumes nothing.
use Rattle.std.specs.Prelude.{◌≡◌, true, false, List, [], map, ◌⊎◌, ℕ, ◌+◌, ◌<◌, ◌≤◌, leb, ℤ, length, Some, Result, Ok, Err}
use Rattle.std.proofs.lemmas.List.Edits.{sets}
use Rattle.alphabet_spec.specs.Entries.{entry_at}
use Rattle.table_spec.specs.Frame.{entry_for}
use Rattle.table_spec.specs.Values.{times, Form, Own, Gap, By, Dup, Spot, first, after}
use Rattle.table_spec.specs.Reading.{line, fresh}
use Rattle.table_lines.specs.Seen.{seen, here}
use Rattle.table_lines.specs.Ends.{end_at}
use Rattle.table_numbers.specs.Numbers.{value_at, Clear, Token, below}
use Rattle.table_value.specs.LineValues.{broken, given, line_says}
use Rattle.table_value.specs.declared.Cur.{Cur}
use Rattle.terms.specs.declared.Reason.{Reason}
use Rattle.table_value.specs.declared.Step.{Step}
use Rattle.terms.specs.Refusals.{reason_number}

-- how the code keeps the form of the value before, whose ordinate is q: 0 and 1 after a DUP; 2 for one of its own; 32 to 63 and its size for a difference, from 48 on for one that is minus
pub data Codes : ℕ → ℕ → ℕ → Form → Type 0 where
  own : {q d : ℕ} → Codes 2 d q Own
  gap : {q d : ℕ} → Codes 2 d q Gap
  dif : {e q d : ℕ} → 32 ≤ e → e < 64 → 0 < q → Codes e d q (By (leb 48 e) d)
  dup_not : {q d : ℕ} → Codes 0 d q (Dup false)
  dup_dif : {q d : ℕ} → 0 < q → Codes 1 d q (Dup true)

-- how it keeps the ordinate before and the spot, in q, want, step and form
pub data Holds : ℕ → ℕ → ℕ → ℕ → ℕ → Spot → Type 0 where
  opening : {p d : ℕ} → Holds 0 0 d 0 p (first false)
  checking : {p d : ℕ} → 0 < p → Holds 0 p d 0 p (first true)
  going : {q d e : ℕ} {f : Form} → Codes e d q f → Holds q 0 d e q (after f)

-- a state that is right for the text, with at most N points
pub record Sits (N : ℕ) (s : List ℕ) (c : Cur) : Type 0 where
  pub some : 0 < c.at
  pub high : c.at ≤ length s
  pub small : c.q < 4294967296
  pub size : c.step < 10000000000
  pub few : c.k ≤ N

-- a value that begins with the entry e and has the number v stands where the state is, in a table of at most 65,536 points: the entry is below a point's, and neither a missing mark's nor a blank's
pub record Valued (N : ℕ) (s : List ℕ) (c : Cur) (e v j : ℕ) : Type 0 where
  pub sits : Sits N s c
  pub most : N ≤ 65536
  pub before_point : e < 160
  pub kind : e < 96 ⊎ 128 ≤ e
  pub small : v < below e
  pub token : Token s c.at (value_at e v) j

-- a DUP that adds n copies stands where the state is, within a table of at most 65,536 points
pub record Again (N : ℕ) (s : List ℕ) (c : Cur) (n j : ℕ) : Type 0 where
  pub sits : Sits N s c
  pub most : N ≤ 65536
  pub some : 1 ≤ n
  pub small : n < 100000
  pub token : Token s c.at (times (n + 1)) j

-- what holds for each ordinate before and spot that the state keeps
abbrev pub Reads : Cur → (ℕ → Spot → Type 0) → Type 0
Reads c P = (p : ℕ) (w : Spot) → Holds c.q c.want c.step c.form p w → P p w

-- from a state of reading to a state of the code: the points between, which were stored, and what is left to read
pub record Gone (N : ℕ) (s : List ℕ) (at k p : ℕ) (w : Spot) (out out' : List ℤ) (r : Cur) : Type 0 where
  pub points : List ℕ
  pub ordinate : ℕ
  pub spot : Spot
  pub holds : Holds r.q r.want r.step r.form ordinate spot
  pub count : r.k ≡ k + length points
  pub stored : out' ≡ sets out k (map entry_for points)
  pub law : line_says N (here s at) k p w ≡ given points (line_says N (here s r.at) r.k ordinate spot)

-- the state r is reached from c, and what was stored on the way
pub record Went (N : ℕ) (s : List ℕ) (c r : Cur) (out out' : List ℤ) : Type 0 where
  pub low : c.at ≤ r.at
  pub clear : Clear s c.at r.at
  pub sits : Sits N s r
  pub law : Reads c (λ p w. Gone N s c.at c.k p w out out' r)

-- the line's end stands where the state is, and the next line at j; nothing was stored
pub record AtEnd (s : List ℕ) (c : Cur) (j : ℕ) (out out' : List ℤ) : Type 0 where
  pub low : c.at ≤ j
  pub high : j ≤ length s
  pub same : out' ≡ out
  pub ends : 160 ≤ entry_at s c.at
  pub next : end_at s c.at ≡ Some j
  pub law : here s c.at ≡ line (seen s j fresh)

-- one token: a value, or blanks; the line's end; or a refusal at the token, and nothing was stored
abbrev pub Stepped : ℕ → List ℕ → Cur → List ℤ → List ℤ → Result Step Reason → Type 0
Stepped N s c out out' (Ok (Step.Go r)) = (c.at < r.at) × Went N s c r out out'
Stepped N s c out out' (Ok (Step.Line j)) = AtEnd s c j out out'
Stepped N s c out out' (Err x) = (out' ≡ out) × Reads c (λ p w. line_says N (here s c.at) c.k p w ≡ broken [] (reason_number x) c.at)
