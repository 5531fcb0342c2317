-- A file laid into the lent bytes in three parts: the body behind the room of its heading, then the heading, then END's record. Assumes nothing.
use mathlib.Core.Path.{◌≡◌, refl, sym, ap, ◌∙◌}
use mathlib.Core.List.{List, [], ◌∷◌, ◌++◌, append_assoc}
use Prim.Native.Nat.{ℕ, suc, ◌+◌, ◌≤◌}
use native.Mathlib.Omega.{arith}
use native.Mathlib.Nat.{add-zero, zero-add}
use lib.ListN.{length, take, drop, set, length-append, length-drop, take-append-drop}
use lib.Seq.{sets, sets-eq, drop-drop, drop-append-le, length-take-le}
use Rattle.table_text.specs.Pieces.{sets_append, set_sets}

-- a text may be laid before what follows it
sets_front : (l : List ℕ) (i : ℕ) (a b : List ℕ) → sets (sets l (i + length a) b) i a ≡ sets l i (a ++ b)
sets_front l i [] b = ap (λ (k : ℕ). sets l k b) (add-zero i)
sets_front l i (v ∷ a) b =
    let e : i + suc (length a) ≡ suc i + length a = omega arith in
    rw (e, set_sets l (suc i + length a) i v b (omega arith)) (sets_front (set l i v) (suc i) a b)

-- laid into a part of the bytes, which is put back
sets_part : (l : List ℕ) (a k : ℕ) (b : List ℕ) → a + k ≤ length l → length b ≤ k → take a l ++ sets (take k (drop a l)) 0 b ++ drop (a + k) l ≡ sets l a b
sets_part l a k b h m =
    let p = take k (drop a l) in
    let D = drop (length b) p in
    let E = drop (a + k) l in
    let n : k ≤ length (drop a l) = omega (arith, length-drop a l) in
    let q : length p ≡ k = length-take-le k (drop a l) n in
    let f : sets p 0 b ≡ b ++ D = sets-eq b p 0 (omega arith) ∙ ap (λ (j : ℕ). b ++ drop j p) (zero-add (length b)) in
    let g : D ++ E ≡ drop (a + length b) l =
    ap (λ (x : List ℕ). D ++ x) (sym (drop-drop k a l)) ∙ sym (drop-append-le (length b) p (drop k (drop a l)) (omega arith))
    ∙ ap (λ (x : List ℕ). drop (length b) x) (take-append-drop k (drop a l)) ∙ drop-drop (length b) a l in
    ap (λ (x : List ℕ). take a l ++ x ++ E) f ∙ ap (λ (x : List ℕ). x ++ E) (sym (append_assoc (take a l) b D)) ∙ append_assoc (take a l ++ b) D E
    ∙ ap (λ (x : List ℕ). take a l ++ b ++ x) g ∙ sym (sets-eq b l a (omega arith))

-- three parts: the second into the part behind the first's room, then the first, then the third
pub parts_laid : (H body G l : List ℕ) (k : ℕ) → length H + k ≤ length l → length body ≤ k
    → sets (sets (take (length H) l ++ sets (take k (drop (length H) l)) 0 body ++ drop (length H + k) l) 0 H) (length H + length body) G ≡ sets l 0 (H ++ (body ++ G))
parts_laid H body G l k h m =
    let z : 0 + length H ≡ length H = omega arith in
    let e : sets (sets l (length H) body) 0 H ≡ sets l 0 (H ++ body) = ap (λ (j : ℕ). sets (sets l j body) 0 H) (sym z) ∙ sets_front l 0 H body in
    let y : length H + length body ≡ 0 + length (H ++ body) = omega (arith, length-append H body) in
    rw (sets_part l (length H) k body h m, e, y, ← sets_append l 0 (H ++ body) G, append_assoc H body G) refl
