-- What laying a file needs. No place of the code is named here. Assumes nothing.
use mathlib.Core.Path.{◌≡◌, refl, sym, ap, ◌∙◌, subst}
use mathlib.Core.List.{List, [], ◌∷◌, ◌++◌, append_assoc, append-nil}
use Prim.Native.Nat.{ℕ, ◌+◌, ◌-◌, ◌≤◌, ◌<◌}
use native.Mathlib.Omega.{arith}
use lib.Dec.{ltb}
use lib.IntN.{ℤ}
use lib.ListN.{length, take, drop, length-append, length-drop}
use lib.Seq.{sets, drop-drop, length-take-le}
use borrow.Author.Tests.{lt-ltb, le-ltb, ltb-true, ltb-false}
use borrow.Rule.Slice.PartMut.{mid_of, put_mid, put_same}
use Rattle.terms.specs.Logic.{pick, by_case, zero_one}
use Rattle.terms.specs.Refusals.{fault_at}
use Rattle.terms.specs.declared.Fault.{Fault}
use Rattle.label_spec.specs.Names.{END}
use Rattle.table_spec.specs.declared.Style.TheVariants.{Difdup}
use Rattle.table_spec.specs.Writing.{declined, wrote, fitted, write_table, laid}
use Rattle.table_write_law.proofs.ReadBack.{wrote_body, wrote_most}
use Rattle.table_write.specs.Room.{enough, Measured}
use Rattle.table_room.proofs.RoomLaws.{fits_most}
use Rattle.table_text.specs.Answers.{told, Tells}
use Rattle.table_text.specs.Pieces.{Put}
use Rattle.file_spec.specs.declared.Numbers.{Numbers}
use Rattle.file_spec.specs.declared.Exactness.{Exactness}
use Rattle.file_write_spec.specs.Records.{Entry, entry_text, entries_text}
use Rattle.file_write_spec.specs.File.{end_line}
use Rattle.file_lines.specs.Lines.{heading_of}
use Rattle.file_lay.specs.Answers.{told_file_lem, FileTells}
use Rattle.file_plan.specs.Stages.{laid_out, body_of, Framed}
use Rattle.file_lay.proofs.Laying.{parts_laid}
use Rattle.std.specs.Prelude.{Result, Ok, Err}
use Rattle.file_write_spec.specs.declared.FileLength.{FileLength}

-- the part of the bytes that the table is lent
mid_length : (t : List ℕ) (h : ℕ) → h + 8 ≤ length t → length (mid_of h (length t - 8 - h) t) ≡ length t - 8 - h
mid_length t h l = length-take-le (length t - 8 - h) (drop h t) (omega (arith, length-drop h t))

module _ (f l : ℤ) (n : ℕ) (es : List ℤ) (T : Framed f l n es) where
  abbrev B : List ℕ
  B = body_of f l n es

  table_is : (room : ℕ) → write_table Difdup f l n es room ≡ fitted room B
  unfolding write_table
  table_is room = rw (T.legal, le-ltb (length es) n T.enough) refl

  pub body_bound : length B ≤ 1048576
  body_bound = wrote_body Difdup f l n es (length B) B (table_is (length B) ∙ fits_most B (length B) (omega arith))

  -- what the table's writer says of the part o
  pub table_refused : (o o' : List ℕ) {x : Result ℕ Fault} {r : Fault} → x ≡ Err r → Tells (write_table Difdup f l n es (length o)) o o' x → (length o < length B) × (o' ≡ o)
  unfolding laid
  table_refused o o' {x} {r} e t =
      by_case (λ q. ltb (length o) (length B) ≡ q → Err r ≡ told (pick q (declined 15) (wrote B)) → o' ≡ laid o (pick q (declined 15) (wrote B)) → (length o < length B) × (o' ≡ o))
      (ltb (length o) (length B))
      (λ _ q a b. (ltb-true (length o) (length B) q, b)) (λ _ q a b. zero_one cc) refl
      (sym e ∙ t.answer ∙ ap told (table_is (length o))) (t.bytes ∙ ap (laid o) (table_is (length o)))

  pub table_wrote : (o o' : List ℕ) {x : Result ℕ Fault} {m : ℕ} → x ≡ Ok m → Tells (write_table Difdup f l n es (length o)) o o' x
      → (length B ≤ length o) × (m ≡ length B) × (o' ≡ sets o 0 B)
  unfolding laid
  table_wrote o o' {x} {m} e t =
      by_case (λ q. ltb (length o) (length B) ≡ q → Ok m ≡ told (pick q (declined 15) (wrote B)) → o' ≡ laid o (pick q (declined 15) (wrote B))
      → (length B ≤ length o) × (m ≡ length B) × (o' ≡ sets o 0 B))
      (ltb (length o) (length B))
      (λ _ q a b. zero_one cc) (λ _ q a b. (ltb-false (length o) (length B) q, cc, b)) refl
      (sym e ∙ t.answer ∙ ap told (table_is (length o))) (t.bytes ∙ ap (laid o) (table_is (length o)))

  -- what is said of the table's length
  pub table_measured : {x : Result ℕ Fault} → Measured Difdup f l n es x → x ≡ Ok (length B)
  table_measured e =
      let most = wrote_most Difdup f l n es (length B) B (table_is (length B) ∙ fits_most B (length B) (omega arith)) in
      e ∙ ap told (table_is (enough n) ∙ fits_most B (enough n) most)

-- ---- the file

last_entry : (x : Entry) → entries_text (x ∷ []) ≡ entry_text x
unfolding entries_text
last_entry x = append-nil (entry_text x)

module _ (title : List ℕ) (m : Numbers) (body t : List ℕ) where
  abbrev H : List ℕ
  H = entries_text (heading_of title m)

  abbrev G : List ℕ
  G = entries_text (end_line ∷ [])

  ending_length : length G ≡ 8
  unfolding entries_text entry_text END
  ending_length = refl

  whole_length : length (laid_out title m body) ≡ length H + length body + 8
  whole_length = omega (arith, length-append H (body ++ G), length-append body G, ending_length)

  -- the lengths of the three parts
  pub length_whole : {q : Exactness} (h k : ℕ) → h ≡ length H → k ≡ length body
      → Ok (record { length = h + k + 8; exact = q }) ≡ told_file_lem q (wrote (laid_out title m body))
  length_whole {q} h k e b = let z : h + k + 8 ≡ length (laid_out title m body) = omega (arith, whole_length) in rw z refl

  tells_15 : {q : Exactness} {r : Result FileLength Fault} → length t < length (laid_out title m body) → r ≡ Err (fault_at 15 0) → FileTells q (fitted (length t) (laid_out title m body)) t t r
  unfolding laid
  tells_15 {q} {r} h e = let l = lt-ltb (length t) (length (laid_out title m body)) h in record { answer = rw (l, e) refl; bytes = rw l refl }

  pub too_short : {q : Exactness} {r : Result FileLength Fault} (h : ℕ) → h ≡ length H → length t < h + 8 → r ≡ Err (fault_at 15 0) → FileTells q (fitted (length t) (laid_out title m body)) t t r
  too_short h e l x = tells_15 (omega (arith, whole_length)) x

  pub not_fitting : {q : Exactness} {r : Result FileLength Fault} {o : List ℕ} (h : ℕ) → h ≡ length H → h + 8 ≤ length t → length (mid_of h (length t - 8 - h) t) < length body → o ≡ mid_of h (length t - 8 - h) t
      → r ≡ Err (fault_at 15 0) → FileTells q (fitted (length t) (laid_out title m body)) t (put_mid h (length t - 8 - h) t o) r
  not_fitting {q} {r} {o} h e l b s x =
      let k = length t - 8 - h in
      let w : length t < length (laid_out title m body) = omega (arith, whole_length, mid_length t h l) in
      subst (λ (u : List ℕ). FileTells q (fitted (length t) (laid_out title m body)) t u r) (sym (ap (put_mid h k t) s ∙ put_same h k t)) (tells_15 w x)

  laid_whole : (k h j : ℕ) (o u v : List ℕ) → h ≡ length H → length H + k ≤ length t → length body ≤ k → j ≡ length body → o ≡ sets (mid_of h k t) 0 body
      → u ≡ sets (put_mid h k t o) 0 H → v ≡ sets u (h + j) G
      → v ≡ sets t 0 (laid_out title m body)
  laid_whole k h j o u v e a b q s x y =
      y
      ∙ rw (x, s, q, e, drop-drop k (length H) t, ← append_assoc (take (length H) t) (sets (take k (drop (length H) t)) 0 body) (drop (length H + k) t)) (parts_laid H body G t k a b)

  pub fitting : {q : Exactness} {o u v : List ℕ} {h' r : ℕ} (h j : ℕ) → h ≡ length H → h + 8 ≤ length t → length body ≤ length (mid_of h (length t - 8 - h) t) → j ≡ length body
      → o ≡ sets (mid_of h (length t - 8 - h) t) 0 body → Put (put_mid h (length t - 8 - h) t o) 0 u h' H → Put u (h + j) v r (entry_text end_line)
      → FileTells q (fitted (length t) (laid_out title m body)) t v (Ok (record { length = r; exact = q }))
  unfolding laid
  fitting {q} {o} {u} {v} {h'} {r} h j e l b i s x y =
      let k = length t - 8 - h in
      let z : length (laid_out title m body) ≤ length t = omega (arith, whole_length, mid_length t h l) in
      let c = le-ltb (length t) (length (laid_out title m body)) z in
      let g : entry_text end_line ≡ G = sym (last_entry end_line) in
      let n : r ≡ length (laid_out title m body) = omega (arith, y.next, whole_length, ending_length, ap length g) in
      let p : v ≡ sets t 0 (laid_out title m body) = laid_whole k h j o u v e (omega arith) (omega (arith, mid_length t h l)) i s x.stored (y.stored ∙ ap (λ (w : List ℕ). sets u (h + j) w) g) in
      record { answer = rw (c, n) refl; bytes = rw c p }
