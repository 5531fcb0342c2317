-- The tokens of a body from within a line on: values, the line's end, and what lies beyond. Assumes nothing.
use Rattle.std.specs.Prelude.{◌≡◌, refl, Bool, List, ℕ, ◌+◌, length}
use Rattle.std.proofs.Common.{ap, arith}
use Rattle.table_spec.specs.Values.{Form, Spot, after, last_or}
use Rattle.table_spec.specs.Reading.{Tokens, over, fault, head, value, line, inner, tokens, Says, adds, refuses, says, bare}
use Rattle.line_law.specs.Every.{every}
use Rattle.line_law.specs.Linewise.{and_then}
use Rattle.line_law.specs.WholeLine.{Closed, HeadsClosed, Starts}
use Rattle.plain_spec.specs.Rows.{Row, points, given, values, row_of}
use Rattle.plain_law.specs.Along.{Inside}

-- what is left after the line
abbrev pub beyond : Tokens → Tokens
beyond (over a) = over a
beyond (fault c a) = fault c a
beyond (head a h u r) = head a h u r
beyond (value a v r) = beyond r
beyond (line r) = r

abbrev pub Within : Tokens → Type 0
Within (over a) = ⊥
Within (fault c a) = Unit {0}
Within (head a h u r) = ⊥
Within (value a v r) = Within r
Within (line r) = Starts r

-- after a head
pub tokens_within : (tabs : Bool) (s : List ℕ) (n a : ℕ) (q : Bool) → Within (tokens tabs s n a (inner q))
tokens_within tabs s n a q =
    every a (a + length s) Starts Within
    (record {
      s_over = tt;
      s_fault = λ c b n x. tt;
      s_head = λ b h u r x y. tt;
      i_fault = λ c b n x. tt;
      i_value = λ b v r x y. y;
      i_line = λ r x. x;
    }) tabs s n a (inner q) (omega arith) refl

pub starts_beyond : (r : Tokens) → Within r → Starts (beyond r)
starts_beyond (over a) h = absurd h
starts_beyond (fault c a) h = tt
starts_beyond (head a g u r) h = absurd h
starts_beyond (value a v r) h = starts_beyond r h
starts_beyond (line r) h = h

-- ---- the rest of the line, alone: it has the same row

abbrev pub to_end : Tokens → Tokens
to_end (over a) = over a
to_end (fault c a) = fault c a
to_end (head a h u r) = head a h u r
to_end (value a v r) = value a v (to_end r)
to_end (line r) = line (over 0)

pub end_beyond : (r : Tokens) → Within r → and_then (to_end r) (beyond r) ≡ r
end_beyond (over a) h = absurd h
end_beyond (fault c a) h = refl
end_beyond (head a g u r) h = absurd h
end_beyond (value a v r) h = ap (value a v) (end_beyond r h)
end_beyond (line r) h = refl

pub end_inside : (r : Tokens) → Within r → Inside 0 (to_end r)
end_inside (over a) h = absurd h
end_inside (fault c a) h = tt
end_inside (head a g u r) h = absurd h
end_inside (value a v r) h = end_inside r h
end_inside (line r) h = refl

heads_closed : (r : Tokens) → Within r → HeadsClosed (to_end r)
heads_closed (over a) h = absurd h
heads_closed (fault c a) h = tt
heads_closed (head a g u r) h = absurd h
heads_closed (value a v r) h = heads_closed r h
heads_closed (line r) h = tt

pub end_closed : (r : Tokens) → Within r → Closed (to_end r) × HeadsClosed (to_end r)
end_closed (over a) h = absurd h
end_closed (fault c a) h = (tt, tt)
end_closed (head a g u r) h = absurd h
end_closed (value a v r) h = (tt, heads_closed r h)
end_closed (line r) h = (tt, tt)

given_same : (f g : Form → ℕ → Row) (a p : ℕ) (x : Says) → ((e : Form) (q : ℕ) → f e q ≡ g e q) → given f a p x ≡ given g a p x
given_same f g a p (refuses c) h = refl
given_same f g a p (adds us e) h = ap (points a us) (h e (last_or p us))

end_values : (r : Tokens) (w : Spot) (p : ℕ) → values (to_end r) w p ≡ values r w p
unfolding values
end_values (over a) w p = refl
end_values (fault c a) w p = refl
end_values (head a g u r) w p = refl
end_values (value a v r) w p = given_same (λ f q. values (to_end r) (after f) q) (λ f q. values r (after f) q) a p (says w p v) (λ f q. end_values r (after f) q)
end_values (line r) w p = refl

end_bare : (r : Tokens) → bare (to_end r) ≡ bare r
end_bare (over a) = refl
end_bare (fault c a) = refl
end_bare (head a g u r) = refl
end_bare (value a v r) = refl
end_bare (line r) = refl

pub end_row : (a : ℕ) (r : Tokens) → row_of a (to_end r) ≡ row_of a r
end_row a r = rw (end_bare r, end_values r _ 0) refl
