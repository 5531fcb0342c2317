-- 02, T-12: a damaged line is caught, in the terms of the public reader's outcome; and each of the last three conditions is needed. Assumes nothing.
use Rattle.std.specs.Prelude.{◌≡◌, ℕ}
use Rattle.std.proofs.Math.Bool.{true}
use mathlib.Core.List.{List, [], ◌∷◌, ◌++◌}
use Rattle.table_spec.specs.Frame.{Rules}
use Rattle.table_spec.specs.Values.{Form, Own, is_dif, after}
use Rattle.table_spec.specs.Reading.{fresh, tokens}
use Rattle.line_law.specs.WholeLine.{went}
use Rattle.table_damage.specs.Lines.{Whole, place_after, lines_do, Stands, first_value}

module _ (R : Rules) where
  -- lines at a body's start that are read without fault: the points that they give, how many, the last one, and the form of their last value
  pub record Given (ws : List (List ℕ)) : Type 0 where
    pub points : List ℕ
    pub count : ℕ
    pub last : ℕ
    pub form : Form
    pub read_so : lines_do R ws 0 0 0 (after Own) ≡ went points count last (after form)

  -- the first value of the next line that is neither blank nor comment, in a text m that stands after the lines
  abbrev pub next_value : List (List ℕ) → List ℕ → Stands
  next_value ws m = first_value (tokens R.tabs m 0 (place_after ws 0) fresh)

  -- "exchange one line ending in DIF form for another that is itself read without fault in its place, adds the same number of points, also ends in DIF form, but ends on
  -- another ordinate": the line x after the lines ws, and the line y in its place
  pub record Exchanged (ws : List (List ℕ)) (x y : List ℕ) : Type 0 where
    pub whole : Whole (ws ++ x ∷ [])
    pub whole_now : Whole (ws ++ y ∷ [])
    pub before : Given (ws ++ x ∷ [])
    pub now : Given (ws ++ y ∷ [])
    pub in_dif : is_dif before.form ≡ true
    pub same_number : before.count ≡ now.count
    pub also_in_dif : is_dif now.form ≡ true
    pub another_ordinate : before.last ≡ now.last → ⊥
