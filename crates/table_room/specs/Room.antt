-- What writing answers by the room that there is, and the ceiling of a text (02, T-10). Assumes nothing.
use Rattle.std.specs.Prelude.{◌≡◌, List, ℕ, ◌+◌, ◌*◌, ◌≤◌, length}
use Rattle.table_spec.specs.Writing.{Outcome, declined, fitted}

-- the ceiling of document 02 for DIFDUP: "never more than 34·N + 24 bytes, line ends counted"
abbrev pub ceiling : ℕ → ℕ
ceiling n = 34 * n + 24

-- what writing answers in each room: one refusal in all, which is not 15; or one text of at most so many bytes, and 15 where the room is less than the text
pub data ByRoom : (ℕ → Outcome) → ℕ → Type 0 where
  refuses : {x : ℕ → Outcome} {most : ℕ} (k : ℕ) → (k ≡ 15 → ⊥) → ((space : ℕ) → x space ≡ declined k) → ByRoom x most
  writes : {x : ℕ → Outcome} {most : ℕ} (t : List ℕ) → length t ≤ most → ((space : ℕ) → x space ≡ fitted space t) → ByRoom x most
