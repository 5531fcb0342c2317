-- Laws about the answers of reading and the length of lines, for the proofs above; nothing here defines what a table says. Assumes nothing.
use Rattle.std.specs.Prelude.{◌≡◌, refl, true, false, List, [], ◌∷◌, ◌++◌, ℕ, ◌≤◌, ltb}
use Rattle.std.proofs.Common.{sym, ap, append_assoc, le-ltb}
use Rattle.terms.specs.Logic.{zero_one, no_way}
use Rattle.table_spec.specs.Frame.{longest_line}
use Rattle.table_spec.specs.Reading.{Answer, refuse, accept, push, line_length, long_at, long_line}

pub no_accept : {A : Type 0} {c a : ℕ} {ys : List ℕ} → refuse c a ≡ accept ys → A
no_accept e = zero_one cc

pub push_none : (x : Answer) → x ≡ push [] x
unfolding push
push_none (refuse c a) = refl
push_none (accept ys) = refl

pub push_push : (us vs : List ℕ) (x : Answer) → push us (push vs x) ≡ push (us ++ vs) x
unfolding push
push_push us vs (refuse c a) = refl
push_push us vs (accept ys) = ap accept (sym (append_assoc us vs ys))

-- ---- where a line begins: it is too long, or its bytes are gone over as within a line

pub long_first : (a : ℕ) (s : List ℕ) → ltb longest_line (line_length s) ≡ true → long_line true a s ≡ long_at a
unfolding long_line line_length
long_first a [] e = no_way e
long_first a (b ∷ s) e = rw e refl

pub begun : (a : ℕ) (s : List ℕ) → line_length s ≤ longest_line → long_line true a s ≡ long_line false a s
unfolding long_line
begun a [] l = refl
begun a (b ∷ s) l = rw (le-ltb longest_line (line_length (b ∷ s)) l) refl
