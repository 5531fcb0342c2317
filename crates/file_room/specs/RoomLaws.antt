-- 02, T-10, in the terms of the contracts of `file_length` and `write_file`: the length suffices, one byte less is refused with 15, and 15·N + 297 bytes never are. Assumes nothing.
use Rattle.std.specs.Prelude.{◌≡◌, refl, List, ℕ, ◌+◌, ◌*◌, ◌≤◌, ◌<◌, ltb, ℤ, length, Option, Some, None, Result, Ok, Err}
use Rattle.std.proofs.Common.{sym, ap, ◌∙◌, arith}
use Rattle.terms.specs.Logic.{by_case, zero_one}
use Rattle.terms.specs.Refusals.{fault_at}
use Rattle.terms.specs.declared.Fault.{Fault}
use Rattle.table_spec.specs.Frame.{frame_legal}
use Rattle.table_spec.specs.Writing.{Outcome, declined, wrote, fitted}
use Rattle.file_spec.specs.declared.Exactness.{Exactness}
use Rattle.file_write_spec.specs.declared.Scales.{Scales}
use Rattle.file_write_spec.specs.declared.FileLength.{FileLength}
use Rattle.file_write_spec.specs.File.{title_legal, scales_legal, first_quotient, last_quotient, first_of, last_of, limited, firsty_agrees, file_exact, text_of_file, by_frame, write_file}
use Rattle.file_write_law.proofs.Accepted.{Limited, written_most}
use Rattle.table_room.specs.Room.{ByRoom, refuses, writes}
use Rattle.table_room.proofs.RoomLaws.{fits_most, room_holds, room_lacks, room_refuses, room_most, never_15, Text, Number}
use Rattle.file_lay.specs.Answers.{told_file_lem, FileTells}
use Rattle.file_write.specs.Room.{enough, FileMeasured}
use Rattle.decimal_spec.specs.declared.Whole.{Whole}

-- ---- quotients

by_limit : {A : Type 0} (q : Option Whole) → (q ≡ None → A) → (Limited q → A) → A
by_limit None f g = f refl
by_limit (Some x) f g = g (record { minus = x.minus; size = x.size; is = refl })

beyond : (q : Option Whole) (x : Outcome) → q ≡ None → limited q x ≡ declined 28
beyond q x e = rw e refl

within : (q : Option Whole) {x y : Outcome} → Limited q → x ≡ y → limited q x ≡ y
within q l e = rw l.is e

-- ---- from an answer to what it tells of

told_length : (q : Exactness) (x : Outcome) {k : FileLength} → Ok k ≡ told_file_lem q x → Text x k.length
told_length q (declined c) e = zero_one cc
told_length q (wrote t) {k} e = let z : k ≡ record { length = length t; exact = q } = cc in record { text = t; is = refl; long = sym (ap (λ (m : FileLength). m.length) z) }

told_number : (q : Exactness) (x : Outcome) {f : Fault} → Err f ≡ told_file_lem q x → Number x
told_number q (declined c) e = record { number = c; is = refl }
told_number q (wrote t) e = zero_one cc

told_15 : (q : Exactness) (x : Outcome) → told_file_lem q x ≡ Err (fault_at 15 0) → x ≡ declined 15
told_15 q (declined c) e = let z : fault_at c 0 ≡ fault_at 15 0 = cc in ap (λ (f : Fault). declined f.number) z
told_15 q (wrote t) e = zero_one cc

-- ---- a file

module _ (title : List ℕ) (n : ℕ) (c : Scales) (es : List ℤ) where
  abbrev File : Type 0
  File = ByRoom (write_file title n c es) (enough n)

  -- a text that each room holds or lacks has at most so many bytes
  held : (t : List ℕ) → ((space : ℕ) → write_file title n c es space ≡ fitted space t) → File
  held t e = writes t (written_most title n c es (length t) t (e (length t) ∙ fits_most t (length t) (omega arith))) e

  -- 37, 26, 28, 1, 2 and 29 are answered in every room
  pub file_room : File
  unfolding write_file by_frame
  file_room =
      by_case (λ _. File) (title_legal title)
      (λ a. by_case (λ _. File) (scales_legal c)
      (λ b. by_limit (first_quotient c n)
      (λ f. refuses 28 (λ e. omega arith) (λ space. rw (a, b) (beyond (first_quotient c n) (limited (last_quotient c n) (by_frame title n c es space)) f)))
      (λ f. by_limit (last_quotient c n)
      (λ l. refuses 28 (λ e. omega arith) (λ space. rw (a, b) (within (first_quotient c n) f (beyond (last_quotient c n) (by_frame title n c es space) l))))
      (λ l. by_case (λ _. File) (frame_legal (first_of c n) (last_of c n) n)
      (λ d. by_case (λ _. File) (ltb (length es) n)
      (λ m. refuses 2 (λ e. omega arith) (λ space. rw (a, b) (within (first_quotient c n) f (within (last_quotient c n) l (rw (d, m) refl)))))
      (λ m. by_case (λ _. File) (firsty_agrees c n es)
      (λ g. held (text_of_file title n c es) (λ space. rw (a, b) (within (first_quotient c n) f (within (last_quotient c n) l (rw (d, m, g) refl)))))
      (λ g. refuses 29 (λ e. omega arith) (λ space. rw (a, b) (within (first_quotient c n) f (within (last_quotient c n) l (rw (d, m, g) refl)))))))
      (λ d. refuses 1 (λ e. omega arith) (λ space. rw (a, b) (within (first_quotient c n) f (within (last_quotient c n) l (rw d refl))))))))
      (λ b. refuses 26 (λ e. omega arith) (λ space. rw (a, b) refl)))
      (λ a. refuses 37 (λ e. omega arith) (λ space. rw a refl))

  abbrev exact : Exactness
  exact = file_exact c n es

  -- what `write_file` ensures of the lent bytes o
  abbrev pub Written : List ℕ → List ℕ → Result FileLength Fault → Type 0
  Written o o' r = FileTells exact (write_file title n c es (length o)) o o' r

  -- the measured length: what it is at most,
  module _ {k : FileLength} (g : FileMeasured title n c es (Ok k)) where
    abbrev found : Text (write_file title n c es (enough n)) k.length
    found = told_length exact (write_file title n c es (enough n)) g

    pub file_length_most : k.length ≤ 15 * n + 297
    file_length_most = let long = found.long in omega (arith, room_most file_room (enough n) found.is)

    -- writing into so many bytes or more answers it,
    pub file_length_suffices : {o o' : List ℕ} {r : Result FileLength Fault} → Written o o' r → k.length ≤ length o → r ≡ Ok k
    file_length_suffices {o} a h =
        let long = found.long in
        a.answer ∙ ap (told_file_lem exact) (room_holds file_room found.is (length o) (omega arith)) ∙ sym (g ∙ ap (told_file_lem exact) found.is)

    -- and into fewer, 15
    pub file_less_is_refused : {o o' : List ℕ} {r : Result FileLength Fault} → Written o o' r → length o < k.length → r ≡ Err (fault_at 15 0)
    file_less_is_refused {o} a h = let long = found.long in a.answer ∙ ap (told_file_lem exact) (room_lacks file_room found.is (length o) (omega arith))

  -- what is refused when it is measured is refused so in every room,
  pub file_refusal_stands : {q : Fault} {o o' : List ℕ} {r : Result FileLength Fault} → FileMeasured title n c es (Err q) → Written o o' r → r ≡ Err q
  file_refusal_stands {q} {o} g a =
      let x = told_number exact (write_file title n c es (enough n)) g in
      a.answer ∙ ap (told_file_lem exact) (room_refuses file_room x.is (length o)) ∙ sym (g ∙ ap (told_file_lem exact) x.is)

  -- and never with 15
  pub file_length_never_15 : {r : Result FileLength Fault} → FileMeasured title n c es r → r ≡ Err (fault_at 15 0) → ⊥
  file_length_never_15 g e = never_15 file_room (enough n) (omega arith) (told_15 exact (write_file title n c es (enough n)) (sym g ∙ e))

  -- so many bytes are never answered with 15
  pub file_enough_never_15 : {o o' : List ℕ} {r : Result FileLength Fault} → Written o o' r → 15 * n + 297 ≤ length o → r ≡ Err (fault_at 15 0) → ⊥
  file_enough_never_15 {o} a h e = never_15 file_room (length o) h (told_15 exact (write_file title n c es (length o)) (sym a.answer ∙ e))
