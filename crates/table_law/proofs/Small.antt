-- Every ordinate that is spelled is below 2^32: as y + 2^31, or 0 for a missing one (01, "The frame of a table"). Assumes nothing.
use Rattle.std.specs.Prelude.{Bool, List, [], ◌∷◌, ◌++◌, ℕ, zero, suc, ◌<◌}
use Rattle.std.proofs.Common.{arith}
use Rattle.table_spec.specs.Frame.{Rules}
use Rattle.table_spec.specs.Values.{Value, Form, Spot}
use Rattle.table_law.specs.Spelling.{Sized, size_up, size_down, Steps, no_step, one_step, same}
use Rattle.table_law.specs.Spelling.{Stands, check, own_first, own_after, gap_first, gap_after, dif_after, dup_own, dup_gap, dup_dif}
use Rattle.table_law.specs.Spelling.{Line, done, blank, value, Body, end, indent, passed, row, Spells}
use Rattle.table_law.specs.Small.{ordinates_end, Small}

joined : (us vs : List ℕ) → Small us → Small vs → Small (us ++ vs)
joined [] vs h k = k
joined (u ∷ us) vs h k = (h.0, joined us vs h.1 k)

same_small : (n u : ℕ) → u < ordinates_end → Small (same n u)
same_small zero u h = tt
same_small (suc n) u h = (h, same_small n u h)

steps_small : {m : Bool} {d n p e : ℕ} {us : List ℕ} → Steps m d n p us e → p < ordinates_end → Small us × (e < ordinates_end)
steps_small no_step l = (tt, l)
steps_small (one_step s o r) l = let z = steps_small r o.high in ((o.high, z.0), z.1)

sized_small : {m : Bool} {v u : ℕ} → Sized m v u → u < ordinates_end
sized_small (size_up h) = omega arith
sized_small (size_down h) = omega arith

-- a value adds such points only, and the ordinate after it is such
stands_small : {w : Spot} {p e : ℕ} {x : Value} {us : List ℕ} {f : Form} → Stands w p x us f e → p < ordinates_end → Small us × (e < ordinates_end)
stands_small (check h) l = (tt, l)
stands_small (own_first h) l = let z = sized_small h in ((z, tt), z)
stands_small (own_after h) l = let z = sized_small h in ((z, tt), z)
stands_small gap_first l = ((omega arith, tt), omega arith)
stands_small gap_after l = ((omega arith, tt), omega arith)
stands_small (dif_after h s o) l = ((o.high, tt), o.high)
stands_small (dup_own {p = p} {n = n} h) l = (same_small n p l, l)
stands_small (dup_gap {p = p} {n = n} h) l = (same_small n p l, l)
stands_small (dup_dif h s) l = steps_small s l

-- a line adds such points only, and its last one is such
line_small : {tabs q : Bool} {w : Spot} {p e : ℕ} {vs t s : List ℕ} {r : Form} → Line tabs q w p vs r e t s → p < ordinates_end → Small vs × (e < ordinates_end)
line_small (done h) l = (tt, l)
line_small (blank h r) l = line_small r l
line_small (value {us = us} {vs = vs} h m r) l =
    let a = stands_small m l in
    let z = line_small r a.1 in
    (joined us vs a.0 z.0, z.1)

body_small : {R : Rules} {i p : ℕ} {c : Bool} {ys t : List ℕ} → Body R i p c ys t → p < ordinates_end → Small ys
body_small end l = tt
body_small (indent h r) l = body_small r l
body_small (passed h r) l = body_small r l
body_small (row {vs = vs} {ys = ys} h b g v d r) l = let z = line_small v l in joined vs ys z.0 (body_small r z.1)

pub spells_small : {R : Rules} {ys s : List ℕ} → Spells R ys s → Small ys
spells_small r = body_small r.body (omega arith)
