-- Records, one after the other. No place of the code is named here. Assumes nothing.
use mathlib.Core.Path.{◌≡◌, refl, sym, ap, ◌∙◌, subst}
use mathlib.Core.List.{List, [], ◌∷◌, ◌++◌, append_assoc, append-nil}
use Prim.Native.Nat.{ℕ, ◌+◌}
use native.Mathlib.Numerals.{add-one}
use lib.ListN.{set}
use Rattle.table_text.specs.Pieces.{Put, put_then, put_byte}
use Rattle.file_write_spec.specs.Records.{Entry, crlf, entry_text, entries_text, line}

-- ---- records

put_two_bytes : {o o1 o2 : List ℕ} (at a b : ℕ) → o1 ≡ set o at a → o2 ≡ set o1 (at + 1) b → Put o at o2 (at + 2) (a ∷ b ∷ [])
put_two_bytes {o} {o1} {o2} at a b x y = record { next = refl; stored = rw (y, x, add-one at) refl }

pub label_put : {o o1 o2 o3 o4 : List ℕ} {e : ℕ} (at : ℕ) (w : List ℕ) → o1 ≡ set o at 35 → o2 ≡ set o1 (at + 1) 35 → Put o2 (at + 2) o3 e w → o4 ≡ set o3 e 61
    → Put o at o4 (e + 1) (35 ∷ 35 ∷ (w ++ 61 ∷ []))
label_put {e = e} at w a b x z = put_then (put_then (put_two_bytes at 35 35 a b) x) (put_byte e 61 z)

pub line_put : {o o1 o2 o3 : List ℕ} {at a b r : ℕ} (w t : List ℕ) → Put o at o1 a (35 ∷ 35 ∷ (w ++ 61 ∷ [])) → Put o1 a o2 b t → Put o2 b o3 r crlf → Put o at o3 r (entry_text (line w t))
unfolding entry_text
line_put {o} {o1} {o2} {o3} {at} {a} {b} {r} w t x y z =
    subst (λ (l : List ℕ). Put o at o3 r (35 ∷ 35 ∷ l)) (append_assoc (w ++ 61 ∷ []) t crlf ∙ append_assoc w (61 ∷ []) (t ++ crlf)) (put_then (put_then x y) z)

-- one, two and three of them
one : {o o' : List ℕ} {at r : ℕ} (x : Entry) → Put o at o' r (entry_text x) → Put o at o' r (entries_text (x ∷ []))
unfolding entries_text
one {o} {o'} {at} {r} x y = subst (λ (l : List ℕ). Put o at o' r l) (sym (append-nil (entry_text x))) y

pub two : {o o1 o2 : List ℕ} {at a r : ℕ} (x y : Entry) → Put o at o1 a (entry_text x) → Put o1 a o2 r (entry_text y) → Put o at o2 r (entries_text (x ∷ y ∷ []))
unfolding entries_text
two x y p q = put_then p (one y q)

pub three : {o o1 o2 o3 : List ℕ} {at a b r : ℕ} (x y z : Entry) → Put o at o1 a (entry_text x) → Put o1 a o2 b (entry_text y) → Put o2 b o3 r (entry_text z)
    → Put o at o3 r (entries_text (x ∷ y ∷ z ∷ []))
unfolding entries_text
three x y z p q s = put_then p (two y z q s)

-- records in a row, and then others
entries_append : (a b : List Entry) → entries_text (a ++ b) ≡ entries_text a ++ entries_text b
unfolding entries_text
entries_append [] b = refl
entries_append (x ∷ a) b = ap (λ (l : List ℕ). entry_text x ++ l) (entries_append a b) ∙ sym (append_assoc (entry_text x) (entries_text a) (entries_text b))

pub entries_then : {o o1 o2 : List ℕ} {at e r : ℕ} (a b : List Entry) → Put o at o1 e (entries_text a) → Put o1 e o2 r (entries_text b) → Put o at o2 r (entries_text (a ++ b))
entries_then {o} {o1} {o2} {at} {e} {r} a b p q = subst (λ (l : List ℕ). Put o at o2 r l) (sym (entries_append a b)) (put_then p q)
