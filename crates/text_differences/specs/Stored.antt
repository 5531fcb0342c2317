-- What the loop over differences ensures (01, "The written text"). Assumes nothing.
use Rattle.std.specs.Prelude.{◌≡◌, List, ℕ, length}
use Rattle.table_text.specs.Pieces.{Ahead}
use Rattle.text_openings.specs.declared.State.{State}
use Rattle.text_openings.specs.Lines.{from, Counted}

-- groups were stored from the state s on: r is the state after them, and what is left of the text then makes the same text
pub record Stored (ys : List ℕ) (s : State) (o o' : List ℕ) (r : State) : Type 0 where
  pub counted : Counted ys s r
  pub law : (hd : ℕ → List ℕ) (x : List ℕ) (n : ℕ) → Ahead x n o s.at (from hd ys s) → Ahead x n o' r.at (from hd ys r)
  pub same : length o' ≡ length o
