-- Reading the written text of each of the four forms (02, T-02) in the same frame gives back exactly the ordinates (01, "The written text" and "What the contracts say"). Assumes nothing.
use Rattle.std.specs.Prelude.{◌≡◌, true, List, [], ◌∷◌, ◌++◌, map, ℕ, zero, suc, ◌+◌, ◌*◌, ◌≤◌, ◌<◌, leb, ℤ, length, take, drop}
use Rattle.std.proofs.Math.Path.{refl}
use Rattle.std.proofs.Common.{◌∙◌, arith, length-take-le}
use Rattle.std.proofs.Math.Dec.{ltb}
use Rattle.std.proofs.lemmas.List.{length-map}
use Rattle.std.specs.Int.Signed.{mag}
use borrow.Author.Tests.{le-ltb, ltb-false, leb-true}
use Rattle.terms.specs.Logic.{pick, by_case, both_true}
use Rattle.table_spec.specs.Frame.{frame_legal, abscissa_legal, abscissa, rules, longest_body, zero_ordinate, ordinate_of, entry_for}
use Rattle.table_spec.specs.Writing.{declined, wrote, fitted, written, write_table}
use Rattle.table_spec.specs.Reading.{accept, read, read_table, stored}
use Rattle.signed.specs.Scale.{lift_small, lower_lift}
use Rattle.frame.specs.FrameLaws.{legal_abscissa}
use Rattle.table_law.specs.Spelling.{Spells}
use Rattle.table_law.specs.Small.{Small}
use Rattle.table_law.proofs.Complete.{complete}
use Rattle.table_law.proofs.Outcome.{spells_accepted, accepted_stored}
use Rattle.table_write_law.proofs.Written.{Takes, written_body}
use Rattle.table_write_law.proofs.Lengths.{written_is_a_body, written_ceiling}
use Rattle.table_write_law.proofs.EightyBytes.{LinedOf, Inner, Lined, inner_lined, lined_short, written_lined}
use Rattle.terms.specs.Logic.{pick, by_case}
use Rattle.table_spec.specs.declared.Style.{Style}
use Rattle.table_write_law.proofs.Lengths.{written_most, written_is_a_body, written_ceiling}

-- the text of every list that the writer takes, in each of the four forms, is a spelling of it: its lines are short too
pub written_spells : (st : Style) (first last n : ℕ) (ys : List ℕ) → Takes first last n → Small ys → length ys ≡ n → Spells (rules first last n) ys (written st first last n ys)
written_spells st first last n ys t s e = record { body = written_body st first last n ys t s e; short = lined_short (written_lined st first last n ys t e) }

-- in numbers: the text of a list that the writer takes is read as that list
pub read_written : (st : Style) (first last n : ℕ) (ys : List ℕ) → Takes first last n → Small ys → length ys ≡ n → read (rules first last n) (written st first last n ys) ≡ accept ys
read_written st first last n ys t s e = complete (rules first last n) ys (written st first last n ys) (written_spells st first last n ys t s e)

-- ---- the entries of the lent slice

-- each entry has 32 bits
abbrev pub Entries : List ℤ → Type 0
Entries [] = Unit {0}
Entries (z ∷ zs) = (mag z < zero_ordinate) × Entries zs

entries_take : (n : ℕ) (zs : List ℤ) → Entries zs → Entries (take n zs)
entries_take zero zs h = tt
entries_take (suc n) [] h = tt
entries_take (suc n) (z ∷ zs) h = (h.0, entries_take n zs h.1)

entries_small : (zs : List ℤ) → Entries zs → Small (map ordinate_of zs)
entries_small [] h = tt
entries_small (z ∷ zs) h = (omega (arith, lift_small zero_ordinate z h.0), entries_small zs h.1)

entries_again : (zs : List ℤ) → Entries zs → map entry_for (map ordinate_of zs) ≡ zs
entries_again [] h = refl
entries_again (z ∷ zs) h = rw (lower_lift zero_ordinate z h.0, entries_again zs h.1) refl

-- ---- what is written

-- the writer takes every legal frame
pub legal_takes : (f l : ℤ) (n : ℕ) → frame_legal f l n ≡ true → Takes (abscissa f) (abscissa l) n
unfolding frame_legal
legal_takes f l n e =
    let a = both_true (abscissa_legal f) _ e in let b = both_true (abscissa_legal l) _ a.1 in
    let c = both_true (leb 1 n) _ b.1 in let d = both_true (leb n 65536) _ c.1 in
    let x = legal_abscissa f a.0 in let y = legal_abscissa l b.0 in
    record { low_first = x.0; low_last = y.0; high_first = x.1; high_last = y.1; some = leb-true 1 n c.0; few = leb-true n 65536 d.0 }

-- so every list in a legal frame is written, where there is room: nothing is refused but by 1, 2 and 15 (02, T-03: "14 is withdrawn")
pub always_written : (st : Style) (f l : ℤ) (n : ℕ) (es : List ℤ) (space : ℕ) → frame_legal f l n ≡ true → n ≤ length es → 15 * n + 44 ≤ space
    → write_table st f l n es space ≡ wrote (written st (abscissa f) (abscissa l) n (map ordinate_of (take n es)))
unfolding write_table
always_written st f l n es space e h r =
    let ys = map ordinate_of (take n es) in
    let m = written_most st (abscissa f) (abscissa l) n ys (legal_takes f l n e) (length-map (take n es) ordinate_of ∙ length-take-le n es h) in
    rw (e, le-ltb (length es) n h, le-ltb space (length (written st (abscissa f) (abscissa l) n ys)) (omega (arith, m, r))) refl

-- ---- what was written

module _ (st : Style) (f l : ℤ) (n : ℕ) (es : List ℤ) (space : ℕ) (t : List ℕ) where
  -- the writer took these
  record Taken : Type 0 where
    pub legal : frame_legal f l n ≡ true
    pub enough : n ≤ length es
    pub is : written st (abscissa f) (abscissa l) n (map ordinate_of (take n es)) ≡ t

  never : {A : Type 0} {c : ℕ} → declined c ≡ wrote t → A
  never e = let z : ◌≡◌ {A = ℕ} 0 1 = cc in absurd (omega arith)

  abbrev body : List ℕ
  body = written st (abscissa f) (abscissa l) n (map ordinate_of (take n es))

  taken : write_table st f l n es space ≡ wrote t → Taken
  unfolding write_table
  taken =
      by_case (λ a. frame_legal f l n ≡ a → pick a (pick (ltb (length es) n) (declined 2) (fitted space body)) (declined 1) ≡ wrote t → Taken) (frame_legal f l n)
      (λ _ a. by_case (λ b. ltb (length es) n ≡ b → pick b (declined 2) (fitted space body) ≡ wrote t → Taken) (ltb (length es) n)
      (λ _ b e. never e)
      (λ _ b. by_case (λ d. pick d (declined 15) (wrote body) ≡ wrote t → Taken) (ltb space (length body))
      (λ _ e. never e)
      (λ _ e. let z : body ≡ t = cc in record { legal = a; enough = ltb-false (length es) n b; is = z })) refl)
      (λ _ a e. never e) refl

  takes : Taken → Takes (abscissa f) (abscissa l) n
  takes k = legal_takes f l n k.legal

  counted : Taken → length (map ordinate_of (take n es)) ≡ n
  counted k = length-map (take n es) ordinate_of ∙ length-take-le n es k.enough

  -- whatever the writer wrote is a spelling of the ordinates,
  pub wrote_spells : Entries es → write_table st f l n es space ≡ wrote t → Spells (rules (abscissa f) (abscissa l) n) (map ordinate_of (take n es)) t
  wrote_spells h e =
      let k = taken e in
      rw k.is at (written_spells st (abscissa f) (abscissa l) n (map ordinate_of (take n es)) (takes k) (entries_small (take n es) (entries_take n es h)) (counted k))

  -- in lines of at most 80 bytes, with no `#` in them,
  pub wrote_inner : write_table st f l n es space ≡ wrote t → LinedOf Inner 0 t
  wrote_inner e = let k = taken e in rw k.is at (written_lined st (abscissa f) (abscissa l) n (map ordinate_of (take n es)) (takes k) (counted k))

  pub wrote_lined : write_table st f l n es space ≡ wrote t → Lined 0 t
  wrote_lined e = inner_lined (wrote_inner e)

  -- and no longer than a body may be
  pub wrote_body : write_table st f l n es space ≡ wrote t → length t ≤ longest_body
  wrote_body e = let k = taken e in rw k.is at (written_is_a_body st (abscissa f) (abscissa l) n (map ordinate_of (take n es)) (takes k) (counted k))

  pub wrote_most : write_table st f l n es space ≡ wrote t → length t ≤ 15 * n + 44
  wrote_most e = let k = taken e in rw k.is at (written_most st (abscissa f) (abscissa l) n (map ordinate_of (take n es)) (takes k) (counted k))

  pub wrote_ceiling : write_table st f l n es space ≡ wrote t → length t ≤ 34 * n + 24
  wrote_ceiling e = let k = taken e in rw k.is at (written_ceiling st (abscissa f) (abscissa l) n (map ordinate_of (take n es)) (takes k) (counted k))

  -- so it is read back, in the same frame and with room for the ordinates,
  pub reads_back : Entries es → write_table st f l n es space ≡ wrote t → (room : ℕ) → n ≤ room → read_table f l n t room ≡ accept (map ordinate_of (take n es))
  reads_back h e room r =
      spells_accepted f l n t room (map ordinate_of (take n es)) (record { frame = (taken e).legal; body = wrote_body e; room = r }) (wrote_spells h e)

  -- and the slice then holds the entries that were written, and its others as they were
  pub gives_back : Entries es → write_table st f l n es space ≡ wrote t → (out : List ℤ) → n ≤ length out → stored out (read_table f l n t (length out)) ≡ take n es ++ drop n out
  gives_back h e out r =
      let a = reads_back h e (length out) r in
      rw (a, accepted_stored f l n t out (map ordinate_of (take n es)) a, entries_again (take n es) (entries_take n es h)) refl
