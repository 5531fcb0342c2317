-- The lent slice after a file was read: as long as before, and the first N entries are the ordinates. Assumes nothing.
use Rattle.std.specs.Prelude.{◌≡◌, refl, List, [], ◌∷◌, ◌++◌, map, ℕ, ◌+◌, ℤ, length, take, drop}
use Rattle.std.proofs.Common.{ap, ◌∙◌, arith, take_at}
use Rattle.std.proofs.lemmas.List.{length-map}
use Rattle.std.proofs.lemmas.List.Edits.{sets, sets-eq}
use Rattle.std.proofs.Math.Seq.{length-sets}
use Rattle.signed.specs.Scale.{lift_lower}
use Rattle.table_spec.specs.Frame.{entry_for, ordinate_of, zero_ordinate}
use Rattle.file_spec.specs.File.{FileAnswer, refuse_file, accept_file, stored_file}
use Rattle.file_law.specs.Accepted.{Holds}

pub stored_length : (out : List ℤ) (x : FileAnswer) → length (stored_file out x) ≡ length out
stored_length out (refuse_file c a) = refl
stored_length out (accept_file t ys) = length-sets out 0 (map entry_for ys)

map_append : (a b : List ℤ) → map ordinate_of (a ++ b) ≡ map ordinate_of a ++ map ordinate_of b
map_append [] b = refl
map_append (x ∷ a) b = ap (λ l. ordinate_of x ∷ l) (map_append a b)

entries_back : (ys : List ℕ) → map ordinate_of (map entry_for ys) ≡ ys
entries_back [] = refl
entries_back (u ∷ ys) = ap (λ x. x ∷ map ordinate_of (map entry_for ys)) (lift_lower zero_ordinate u) ∙ ap (λ l. u ∷ l) (entries_back ys)

pub stored_first : (out : List ℤ) (n : ℕ) (ys : List ℕ) → Holds (length out) n ys → take n (map ordinate_of (sets out 0 (map entry_for ys))) ≡ ys
stored_first out n ys h =
    let k = h.count in let r = h.room in let m = length-map ys entry_for in
    let rest = drop (0 + length (map entry_for ys)) out in
    let e : map ordinate_of (sets out 0 (map entry_for ys)) ≡ ys ++ map ordinate_of rest =
    ap (map ordinate_of) (sets-eq (map entry_for ys) out 0 (omega (arith, k, r, m))) ∙ map_append (map entry_for ys) rest ∙ ap (λ l. l ++ map ordinate_of rest) (entries_back ys) in
    rw e (take_at ys (map ordinate_of rest) n k)
