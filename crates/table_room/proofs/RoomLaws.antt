-- 02, T-10, in the terms of the contracts of `text_length` and of the writer: the length suffices, one byte less is refused with 15, the ceiling is never refused with 15. Assumes nothing.
use Rattle.std.specs.Prelude.{◌≡◌, refl, Bool, true, false, List, map, ℕ, ◌+◌, ◌*◌, ◌≤◌, ◌<◌, ltb, ℤ, take, Result, Ok, Err}
use Rattle.std.proofs.Common.{sym, ap, ◌∙◌, arith, length-take-le}
use Rattle.std.proofs.Math.ListN.{length}
use Rattle.std.proofs.lemmas.List.{length-map}
use borrow.Author.Tests.{lt-ltb, le-ltb, ltb-false}
use Rattle.terms.specs.Logic.{pick, by_case, zero_one}
use Rattle.terms.specs.Refusals.{fault_at}
use Rattle.terms.specs.declared.Fault.{Fault}
use Rattle.table_spec.specs.declared.Style.{Style}
use Rattle.table_spec.specs.Frame.{frame_legal, abscissa, ordinate_of}
use Rattle.table_spec.specs.Writing.{Outcome, declined, wrote, fitted, written, write_table}
use Rattle.table_spec.specs.Groups.{in_full}
use Rattle.frame.specs.Legal.{framed}
use Rattle.frame.specs.FrameLaws.{framed_legal}
use Rattle.table_write_law.proofs.Written.{Takes}
use Rattle.table_write_law.proofs.Lengths.{plain_written_most}
use Rattle.table_write_law.proofs.ReadBack.{always_written, wrote_most, wrote_ceiling}
use Rattle.table_text.specs.Answers.{told, refused, Answered}
use Rattle.table_write.specs.Room.{enough, Measured}
use Rattle.table_room.specs.Room.{ceiling, ByRoom, refuses, writes}

-- ---- by room, whatever is written

-- room for a text
pub fits_most : (t : List ℕ) (space : ℕ) → length t ≤ space → fitted space t ≡ wrote t
fits_most t space h = rw (le-ltb space (length t) h) refl

module _ {x : ℕ → Outcome} {most : ℕ} (b : ByRoom x most) where
  -- a text that enough room holds is written in each room that holds it,
  pub room_holds : {t : List ℕ} → x most ≡ wrote t → (space : ℕ) → length t ≤ space → x space ≡ wrote t
  room_holds {t} = go b
    where
      go : ByRoom x most → x most ≡ wrote t → (space : ℕ) → length t ≤ space → x space ≡ wrote t
      go (refuses k n e) w space h = let z = sym (e most) ∙ w in zero_one cc
      go (writes u m e) w space h =
          let z : u ≡ t = let y = sym (fits_most u most m) ∙ sym (e most) ∙ w in cc in
          e space ∙ rw z (fits_most t space h)

  -- and refused with 15 in each that does not;
  pub room_lacks : {t : List ℕ} → x most ≡ wrote t → (space : ℕ) → space < length t → x space ≡ declined 15
  room_lacks {t} = go b
    where
      go : ByRoom x most → x most ≡ wrote t → (space : ℕ) → space < length t → x space ≡ declined 15
      go (refuses k n e) w space h = let z = sym (e most) ∙ w in zero_one cc
      go (writes u m e) w space h =
          let z : u ≡ t = let y = sym (fits_most u most m) ∙ sym (e most) ∙ w in cc in
          e space ∙ rw (z, lt-ltb space (length t) h) refl

  -- what enough room refuses is refused in each;
  pub room_refuses : {k : ℕ} → x most ≡ declined k → (space : ℕ) → x space ≡ declined k
  room_refuses {k} = go b
    where
      go : ByRoom x most → x most ≡ declined k → (space : ℕ) → x space ≡ declined k
      go (refuses j n e) w space = e space ∙ sym (e most) ∙ w
      go (writes u m e) w space = let z = sym (fits_most u most m) ∙ sym (e most) ∙ w in zero_one cc

  -- no text that is written has more bytes than these,
  pub room_most : {t : List ℕ} (space : ℕ) → x space ≡ wrote t → length t ≤ most
  room_most {t} space = go b
    where
      go : ByRoom x most → x space ≡ wrote t → length t ≤ most
      go (refuses k n e) w = let z = sym (e space) ∙ w in zero_one cc
      go (writes u m e) w = held (ltb space (length u)) (sym (e space) ∙ w)
        where
          held : (q : Bool) → pick q (declined 15) (wrote u) ≡ wrote t → length t ≤ most
          held true z = zero_one cc
          held false z = let y : u ≡ t = cc in rw (← y) m

  -- and 15 is not answered where there is so much room
  pub never_15 : (space : ℕ) → most ≤ space → x space ≡ declined 15 → ⊥
  never_15 space h = go b
    where
      go : ByRoom x most → x space ≡ declined 15 → ⊥
      go (refuses k n e) w = n (let z = sym (e space) ∙ w in cc)
      go (writes t m e) w = let z = sym (fits_most t space (omega arith)) ∙ sym (e space) ∙ w in zero_one cc

-- ---- from an answer to what it tells of

pub record Text (x : Outcome) (k : ℕ) : Type 0 where
  pub text : List ℕ
  pub is : x ≡ wrote text
  pub long : length text ≡ k

told_length : (x : Outcome) {k : ℕ} → Ok k ≡ told x → Text x k
told_length (declined c) e = zero_one cc
told_length (wrote t) e = record { text = t; is = refl; long = cc }

pub record Number (x : Outcome) : Type 0 where
  pub number : ℕ
  pub is : x ≡ declined number

told_number : (x : Outcome) {q : Fault} → Err q ≡ told x → Number x
told_number (declined c) e = record { number = c; is = refl }
told_number (wrote t) e = zero_one cc

told_15 : (x : Outcome) → told x ≡ refused 15 → x ≡ declined 15
told_15 (declined c) e = let z : fault_at c 0 ≡ fault_at 15 0 = cc in ap (λ (q : Fault). declined q.number) z
told_15 (wrote t) e = zero_one cc

-- ---- a table, in each of the four forms

module _ (st : Style) (f l : ℤ) (n : ℕ) (ys : List ℤ) where
  abbrev body : List ℕ
  body = written st (abscissa f) (abscissa l) n (map ordinate_of (take n ys))

  -- the writer takes the frame, and there are enough ordinates
  record Taken : Type 0 where
    pub legal : frame_legal f l n ≡ true
    pub enough_ys : n ≤ length ys

  room_wrote : Taken → write_table st f l n ys (enough n) ≡ wrote body
  room_wrote k = always_written st f l n ys (enough n) k.legal k.enough_ys (omega arith)

  by_room : (most : ℕ) → (Taken → length body ≤ most) → ByRoom (write_table st f l n ys) most
  unfolding write_table
  by_room most m =
      by_case (λ _. ByRoom (write_table st f l n ys) most) (frame_legal f l n)
      (λ a. by_case (λ _. ByRoom (write_table st f l n ys) most) (ltb (length ys) n)
      (λ b. refuses 2 (λ e. omega arith) (λ space. rw (a, b) refl))
      (λ b. writes body (m (record { legal = a; enough_ys = ltb-false (length ys) n b })) (λ space. rw (a, b) refl)))
      (λ a. refuses 1 (λ e. omega arith) (λ space. rw a refl))

  pub table_room : ByRoom (write_table st f l n ys) (enough n)
  table_room = by_room (enough n) (λ k. wrote_most st f l n ys (enough n) body (room_wrote k))

  pub table_ceiling : ByRoom (write_table st f l n ys) (ceiling n)
  table_ceiling = by_room (ceiling n) (λ k. wrote_ceiling st f l n ys (enough n) body (room_wrote k))

  -- only a frame that the writer takes, with an ordinate for each point, has a length
  pub measured_taken : {k : ℕ} → Measured st f l n ys (Ok k) → (frame_legal f l n ≡ true) × (n ≤ length ys)
  unfolding write_table
  measured_taken {k} =
      by_case (λ a. Ok k ≡ told (pick a (pick (ltb (length ys) n) (declined 2) (fitted (enough n) body)) (declined 1)) → (a ≡ true) × (n ≤ length ys)) (frame_legal f l n)
      (λ _. by_case (λ b. Ok k ≡ told (pick b (declined 2) (fitted (enough n) body)) → (true ≡ true) × (n ≤ length ys)) (ltb (length ys) n)
      (λ _ e. zero_one cc) (λ b e. (refl, ltb-false (length ys) n b)))
      (λ _ e. zero_one cc)

  takes : Taken → Takes (abscissa f) (abscissa l) n
  unfolding framed
  takes k =
      let s = (framed_legal f l n {fr = record { first = abscissa f; last = abscissa l; points = n }} (rw k.legal refl)).sound in
      record { low_first = s.low_first; low_last = s.low_last; high_first = s.first; high_last = s.last; some = s.some; few = s.few }

  table_in_full : in_full st ≡ true → ByRoom (write_table st f l n ys) (15 * n + 17)
  table_in_full full =
      by_room (15 * n + 17) (λ k. plain_written_most st full _ _ n _ (takes k) (length-map (take n ys) ordinate_of ∙ length-take-le n ys k.enough_ys))

  -- the measured length: what it is at most,
  module _ {k : ℕ} (g : Measured st f l n ys (Ok k)) where
    abbrev found : Text (write_table st f l n ys (enough n)) k
    found = told_length (write_table st f l n ys (enough n)) g

    pub length_most : k ≤ 15 * n + 44
    length_most = let long = found.long in omega (arith, room_most table_room (enough n) found.is)

    pub length_in_full : in_full st ≡ true → k ≤ 15 * n + 17
    length_in_full full = let long = found.long in omega (arith, room_most (table_in_full full) (enough n) found.is)

    -- "never more than 34·N + 24 bytes, line ends counted, for a frame the writer takes"
    pub length_ceiling : k ≤ 34 * n + 24
    length_ceiling = let long = found.long in omega (arith, room_most table_ceiling (enough n) found.is)

    -- writing into so many bytes or more answers it,
    pub length_suffices : {o o' : List ℕ} {r : Result ℕ Fault} → Answered st f l n ys o o' r → k ≤ length o → r ≡ Ok k
    length_suffices {o} a h =
        let long = found.long in
        a.answer ∙ ap told (room_holds table_room found.is (length o) (omega arith)) ∙ ap Ok found.long

    -- and into fewer, 15
    pub less_is_refused : {o o' : List ℕ} {r : Result ℕ Fault} → Answered st f l n ys o o' r → length o < k → r ≡ refused 15
    less_is_refused {o} a h = let long = found.long in a.answer ∙ ap told (room_lacks table_room found.is (length o) (omega arith))

  -- what is refused when it is measured is refused so in every room,
  pub refusal_stands : {q : Fault} {o o' : List ℕ} {r : Result ℕ Fault} → Measured st f l n ys (Err q) → Answered st f l n ys o o' r → r ≡ Err q
  refusal_stands {q} {o} g a =
      let x = told_number (write_table st f l n ys (enough n)) g in
      a.answer ∙ ap told (room_refuses table_room x.is (length o)) ∙ sym (g ∙ ap told x.is)

  -- and never with 15
  pub length_never_15 : {r : Result ℕ Fault} → Measured st f l n ys r → r ≡ refused 15 → ⊥
  length_never_15 g e = never_15 table_room (enough n) (omega arith) (told_15 (write_table st f l n ys (enough n)) (sym g ∙ e))

  -- "A buffer of that size is never answered with 15"
  pub enough_never_15 : {o o' : List ℕ} {r : Result ℕ Fault} → Answered st f l n ys o o' r → 15 * n + 44 ≤ length o → r ≡ refused 15 → ⊥
  enough_never_15 {o} a h e = never_15 table_room (length o) h (told_15 (write_table st f l n ys (length o)) (sym a.answer ∙ e))

  pub ceiling_never_15 : {o o' : List ℕ} {r : Result ℕ Fault} → Answered st f l n ys o o' r → 34 * n + 24 ≤ length o → r ≡ refused 15 → ⊥
  ceiling_never_15 {o} a h e = never_15 table_ceiling (length o) h (told_15 (write_table st f l n ys (length o)) (sym a.answer ∙ e))

-- the ceiling in numbers, by computation
pub ceilings : (ceiling 1 ≡ 58) × (ceiling 2 ≡ 92) × (ceiling 65536 ≡ 2228248)
ceilings = (refl, refl, refl)
