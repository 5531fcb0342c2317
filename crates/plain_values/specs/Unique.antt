-- What a value stands for is determined (01, "What the contracts say"): two answers that meet the contract on one input have the same ordinates, last one and form, or the same refusal number. Left
-- open: how the ordinates are kept as steps. Assumes nothing.
use Rattle.std.specs.Prelude.{◌≡◌, ℕ, Result, Ok, Err}
use Rattle.std.proofs.Common.{sym, ap, ◌∙◌}
use Rattle.terms.specs.Logic.{zero_one}
use Rattle.table_spec.specs.Values.{Value, Form, last_or}
use Rattle.plain_values.specs.Means.{form_of, points_of, Means}
use Rattle.terms.specs.declared.Reason.{Reason}
use Rattle.plain_values.specs.declared.Points.{Points}
use Rattle.terms.specs.Refusals.{reason_number}

abbrev pub Alike : Result Points Reason → Result Points Reason → Type 0
Alike (Ok p) (Ok t) = (points_of p ≡ points_of t) × (p.last ≡ t.last) × (form_of p.form ≡ form_of t.form)
Alike (Ok p) (Err x) = ⊥
Alike (Err x) (Ok t) = ⊥
Alike (Err x) (Err y) = (reason_number x) ≡ (reason_number y)

pub stands_unique : (q : ℕ) (f : Form) (x : Value) (a b : Result Points Reason) → Means q f x a → Means q f x b → Alike a b
stands_unique q f x (Ok p) (Ok t) m n =
    let z = sym m.1.is ∙ n.1.is in
    let us : points_of p ≡ points_of t = cc in let g : form_of p.form ≡ form_of t.form = cc in
    (us, sym m.1.last ∙ ap (last_or q) us ∙ n.1.last, g)
stands_unique q f x (Ok p) (Err y) m n = let z = sym m.1.is ∙ n in zero_one cc
stands_unique q f x (Err y) (Ok t) m n = let z = sym n.1.is ∙ m in zero_one cc
stands_unique q f x (Err y) (Err t) m n = let z = sym m ∙ n in cc
