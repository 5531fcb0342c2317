-- Blanks, comments and ends of lines: from the entries at a place to what is left to read. No place of the code is named here. Assumes nothing.
use mathlib.Core.Path.{◌≡◌, refl, sym, ap, ◌∙◌}
use mathlib.Core.Bool.{Bool, true, false, not}
use mathlib.Core.List.{List}
use Prim.Native.Nat.{ℕ, suc, min, ◌+◌, ◌-◌, ◌≤◌, ◌<◌}
use native.Mathlib.Omega.{arith}
use native.Mathlib.Numerals.{add-one}
use lib.Dec.{ltb, eqb}
use lib.ListN.{length, get_or, take, drop, drop_of_length-le}
use lib.Seq.{drop-cons, drop-drop}
use borrow.Author.Tests.{eq-eqb, ne_eqb, lt-ltb, le-ltb, ltb-true, ltb-false}
use Rattle.std.specs.List.{prefix_len}
use Rattle.text.proofs.Passing.{differs, equals, rest, passed}
use Rattle.terms.specs.Logic.{pick, by_case}
use Rattle.alphabet_spec.specs.Kinds.{tabs_too}
use Rattle.alphabet_spec.specs.Bytes.{Byte, blank, point, lf, cr, dollar, other, kind}
use Rattle.alphabet_spec.proofs.KindLaws.{Back}
use Rattle.alphabet_spec.specs.Entries.{entry_at, entry, kind_of}
use Rattle.alphabet_spec.proofs.EntryLaws.{entry_in, entry_end, at_entry, at_kind}
use Rattle.table_spec.specs.Reading.{Tokens, over, fault, line, comment, starts, Ending as EndRead, ends, none, ending, Mode, fresh, inner, ended, opening, inside, step, stop}
use Rattle.table_lines.specs.Seen.{seen, later, behind, here, seen_end, later_seen, later_none, seen_kind, byte_back}
use Rattle.table_lines.specs.Ends.{Commented, end_of, end_at, Ended}
use Rattle.std.specs.Prelude.{Some, None}

-- what holds at each place from i up to r, and at r
pub place_more : (P : ℕ → Type 0) {i r : ℕ} → ((k : ℕ) → i ≤ k → k < r → P k) → P r → (k : ℕ) → i ≤ k → k < r + 1 → P k
place_more P {i} {r} f e k l h =
    by_case (λ t. ltb k r ≡ t → P k) (ltb k r) (λ _ x. f k l (ltb-true k r x)) (λ _ x. let y = ltb-false k r x in let z : k ≡ r = omega arith in rw z e) refl

-- an entry that is not the end's
pub inside_text : (s : List ℕ) (i e : ℕ) → entry_at s i ≡ e → e < 256 → i < length s
inside_text s i e h l = entry_in s i (λ x. omega arith)

-- ---- blanks

pub blank_in : (s : List ℕ) (i : ℕ) → entry_at s i ≡ 112 → i < length s
blank_in s i e = inside_text s i 112 e (omega arith)

pub blank_fresh : (s : List ℕ) (i : ℕ) → entry_at s i ≡ 112 → seen s i fresh ≡ seen s (i + 1) fresh
unfolding step opening
blank_fresh s i e = seen_kind s i fresh blank (blank_in s i e) (ap kind_of e) ∙ later_none s (suc i) fresh ∙ rw (add-one i) refl

pub blank_within : (s : List ℕ) (i : ℕ) (q : Bool) → entry_at s i ≡ 112 → seen s i (inner q) ≡ here s (i + 1)
unfolding step inside behind
blank_within s i q e =
    let f : i + 1 - 1 ≡ i = omega arith in
    let g : eqb (i + 1) 0 ≡ false = ne_eqb (i + 1) 0 (λ x. omega arith) in
    seen_kind s i (inner q) blank (blank_in s i e) (ap kind_of e) ∙ later_none s (suc i) (inner true) ∙ rw (g, f, e, add-one i) refl

-- ---- comments

comment_end : (s : List ℕ) (i : ℕ) → length s ≤ i → comment (drop i s) ≡ 0
unfolding comment
comment_end s i h = rw (drop_of_length-le s h) refl

comment_lf : (s : List ℕ) (i : ℕ) → i < length s → get_or s i 0 ≡ 10 → comment (drop i s) ≡ 1
unfolding comment
comment_lf s i h e = rw (drop-cons s i 0 h, eq-eqb (get_or s i 0) 10 e) refl

comment_on : (s : List ℕ) (i : ℕ) → i < length s → (get_or s i 0 ≡ 10 → ⊥) → comment (drop i s) ≡ suc (comment (drop (i + 1) s))
unfolding comment
comment_on s i h e = rw (drop-cons s i 0 h, ne_eqb (get_or s i 0) 10 e, add-one i) refl

-- so many bytes of a comment are passed
pub comment_passed : (s : List ℕ) (at : ℕ) → at ≤ length s → (n : ℕ) → n ≡ length (take (prefix_len (λ b. not (eqb b 10)) (rest s at)) (rest s at))
    → (r : ℕ) → r ≡ min (length s) (at + n + 1) → Commented s at r
comment_passed s at h n z r e =
    let p = passed s at (length s) h (omega arith) (λ i. comment (drop at s) ≡ i - at + comment (drop i s)) (λ b. not (eqb b 10)) (omega arith)
    (λ i l m t x. let c = comment_on s i m (differs (get_or s i 0) 10 t) in omega (arith, c, x)) n z in
    by_case (λ t. ltb (at + n) (length s) ≡ t → Commented s at r) (ltb (at + n) (length s))
    (λ _ q. let l = ltb-true (at + n) (length s) q in
    let c = comment_lf s (at + n) l (equals (get_or s (at + n) 0) 10 (p.stops l)) in
    record { low = omega arith; high = omega arith; is = p.kept ∙ omega (arith, c) })
    (λ _ q. let l = ltb-false (at + n) (length s) q in
    let c = comment_end s (at + n) l in
    record { low = omega (arith, p.high); high = omega arith; is = p.kept ∙ omega (arith, c, p.high) }) refl

-- ---- ends of lines

-- a byte whose step is an ending, before a head and after it
abbrev Ends : Byte → Type 0
Ends c =
    ((K : ℕ → Mode → Tokens) (a : ℕ) (t : List ℕ) → opening K a t c ≡ ended (λ n. K n fresh) a (ending c t))
    × ((K : ℕ → Mode → Tokens) (a : ℕ) (t : List ℕ) (q : Bool) → inside K a t q c ≡ ended (λ n. line (K n fresh)) a (ending c t))

end_is : (s : List ℕ) (i : ℕ) (c : Byte) {x : EndRead} → i < length s → kind_of (entry_at s i) ≡ c → ending c (drop (suc i) s) ≡ x → end_at s i ≡ end_of i x
unfolding end_at
end_is s i c h k e = rw (lt-ltb i (length s) h, at_kind s i h ∙ k, e) refl

module _ (s : List ℕ) (i : ℕ) (c : Byte) (f : Ends c) (h : i < length s) (k : kind_of (entry_at s i) ≡ c) where
  ends_there : (j : ℕ) → suc i ≤ j → j ≤ length s → ending c (drop (suc i) s) ≡ ends (j - suc i) → Ended s i (Some j)
  unfolding step
  ends_there j l m e =
      let z : suc i + (j - suc i) ≡ j = omega arith in
      record {
        low = omega arith;
        high = m;
        moves = λ _. l;
        before = seen_kind s i fresh c h k ∙ f.0 _ i _ ∙ rw e (later_seen s (suc i) j fresh l m);
        within = λ q. seen_kind s i (inner q) c h k ∙ f.1 _ i _ q ∙ rw e (ap line (later_seen s (suc i) j fresh l m));
        is = end_is s i c h k e ∙ ap Some z;
      }

  ends_not : ending c (drop (suc i) s) ≡ none → Ended s i None
  unfolding step
  ends_not e = (seen_kind s i fresh c h k ∙ f.0 _ i _ ∙ rw e refl, λ q. seen_kind s i (inner q) c h k ∙ f.1 _ i _ q ∙ rw e refl, end_is s i c h k e)

lf_ends : Ends lf
unfolding opening inside
lf_ends = (λ K a t. refl, λ K a t q. refl)

cr_ends : Ends cr
unfolding opening inside
cr_ends = (λ K a t. refl, λ K a t q. refl)

dollar_ends : Ends dollar
unfolding opening inside
dollar_ends = (λ K a t. refl, λ K a t q. refl)

starts_with : (s : List ℕ) (i b : ℕ) → i < length s → get_or s i 0 ≡ b → starts b (drop i s) ≡ true
starts_with s i b h e = rw (drop-cons s i 0 h) (eq-eqb (get_or s i 0) b e)

pub starts_not : (s : List ℕ) (i b : ℕ) → (entry_at s i ≡ entry b → ⊥) → starts b (drop i s) ≡ false
starts_not s i b n =
    by_case (λ t. ltb i (length s) ≡ t → starts b (drop i s) ≡ false) (ltb i (length s))
    (λ _ h. let l = ltb-true i (length s) h in rw (drop-cons s i 0 l) (ne_eqb (get_or s i 0) b (λ e. n (at_entry s i l ∙ ap entry e))))
    (λ _ h. rw (drop_of_length-le s (ltb-false i (length s) h)) refl) refl

-- the text from i on starts with the one byte of a kind
pub starts_kind : (s : List ℕ) (i b e : ℕ) (c : Byte) → entry_at s i ≡ e → e < 256 → kind_of e ≡ c → (Back tabs_too (get_or s i 0) c → get_or s i 0 ≡ b) → starts b (drop i s) ≡ true
starts_kind s i b e c h l k f = let g = inside_text s i e h l in starts_with s i b g (f (byte_back s i c g (ap kind_of h ∙ k)))

pub end_over : (s : List ℕ) (i : ℕ) → i ≤ length s → entry_at s i ≡ 256 → Ended s i (Some i)
unfolding stop end_at
end_over s i l e =
    let z = entry_end s i e in let f : i ≡ length s = omega arith in
    record {
      low = omega arith;
      high = l;
      moves = λ h. absurd (omega arith);
      before = refl;
      within = λ q. seen_end s i (inner q) z ∙ ap line (sym (seen_end s i fresh z));
      is = rw (le-ltb i (length s) z) refl;
    }

pub end_lf : (s : List ℕ) (i : ℕ) → entry_at s i ≡ 176 → Ended s i (Some (i + 1))
unfolding ending
end_lf s i e =
    let h = inside_text s i 176 e (omega arith) in let z : i + 1 - suc i ≡ 0 = omega arith in
    ends_there s i lf lf_ends h (ap kind_of e) (i + 1) (omega arith) (omega arith) (rw z refl)

pub end_cr : (s : List ℕ) (i : ℕ) → entry_at s i ≡ 192 → entry_at s (i + 1) ≡ 176 → Ended s i (Some (i + 1 + 1))
unfolding ending
end_cr s i e f =
    let h = inside_text s i 192 e (omega arith) in
    let l = inside_text s (i + 1) 176 f (omega arith) in
    let z : i + 1 + 1 - suc i ≡ 1 = omega arith in
    let y : starts 10 (drop (suc i) s) ≡ true = rw (add-one i) at (starts_kind s (i + 1) 10 176 lf f (omega arith) refl (λ x. x)) in
    ends_there s i cr cr_ends h (ap kind_of e) (i + 1 + 1) (omega arith) (omega arith) (rw (z, y) refl)

pub end_comment : (s : List ℕ) (i r : ℕ) → entry_at s i ≡ 208 → entry_at s (i + 1) ≡ 208 → Commented s (i + 1 + 1) r → Ended s i (Some r)
unfolding ending
end_comment s i r e f k =
    let h = inside_text s i 208 e (omega arith) in
    let y : starts 36 (drop (suc i) s) ≡ true = rw (add-one i) at (starts_kind s (i + 1) 36 208 dollar f (omega arith) refl (λ x. x)) in
    let d : suc i + 1 ≡ i + 1 + 1 = omega arith in
    let z : suc (r - (i + 1 + 1)) ≡ r - suc i = let x = k.low in omega arith in
    ends_there s i dollar dollar_ends h (ap kind_of e) r (let x = k.low in omega arith) k.high (rw (y, drop-drop 1 (suc i) s, d, k.is, z) refl)

pub end_no_cr : (s : List ℕ) (i : ℕ) → entry_at s i ≡ 192 → (entry_at s (i + 1) ≡ 176 → ⊥) → Ended s i None
unfolding ending entry kind
end_no_cr s i e n =
    let y : starts 10 (drop (suc i) s) ≡ false = rw (add-one i) at (starts_not s (i + 1) 10 n) in
    ends_not s i cr cr_ends (inside_text s i 192 e (omega arith)) (ap kind_of e) (rw y refl)

pub end_no_dollar : (s : List ℕ) (i : ℕ) → entry_at s i ≡ 208 → (entry_at s (i + 1) ≡ 208 → ⊥) → Ended s i None
unfolding ending entry kind
end_no_dollar s i e n =
    let y : starts 36 (drop (suc i) s) ≡ false = rw (add-one i) at (starts_not s (i + 1) 36 n) in
    ends_not s i dollar dollar_ends (inside_text s i 208 e (omega arith)) (ap kind_of e) (rw y refl)

-- a point, or a byte outside the alphabet
kind_bad : (e : ℕ) → 160 ≤ e → (e ≡ 176 → ⊥) → (e ≡ 192 → ⊥) → (e ≡ 208 → ⊥) → kind_of e ≡ pick (eqb e 160) point other
kind_bad e l a b c =
    rw (
      le-ltb e 16 (omega arith),
      le-ltb e 32 (omega arith),
      le-ltb e 48 (omega arith),
      le-ltb e 64 (omega arith),
      le-ltb e 80 (omega arith),
      le-ltb e 96 (omega arith),
      le-ltb e 112 (omega arith),
      le-ltb e 128 (omega arith),
      le-ltb e 144 (omega arith),
      le-ltb e 160 l,
      ne_eqb e 176 a,
      ne_eqb e 192 b,
      ne_eqb e 208 c,
    ) refl

bad_step : (K : ℕ → Mode → Tokens) (a : ℕ) (t : List ℕ) (x : Bool) → (step K a t fresh (pick x point other) ≡ fault 3 a) × ((q : Bool) → step K a t (inner q) (pick x point other) ≡ fault 3 a)
unfolding step opening inside
bad_step K a t true = (refl, λ q. refl)
bad_step K a t false = (refl, λ q. refl)

bad_ending : (t : List ℕ) (x : Bool) → ending (pick x point other) t ≡ none
unfolding ending
bad_ending t true = refl
bad_ending t false = refl

pub end_bad : (s : List ℕ) (i : ℕ) → 160 ≤ entry_at s i → (entry_at s i ≡ 256 → ⊥) → (entry_at s i ≡ 176 → ⊥) → (entry_at s i ≡ 192 → ⊥) → (entry_at s i ≡ 208 → ⊥) → Ended s i None
end_bad s i l a b c d =
    let k = kind_bad (entry_at s i) l b c d in let h = entry_in s i a in
    let z = bad_step (later s (suc i)) i (drop (suc i) s) (eqb (entry_at s i) 160) in
    (seen_kind s i fresh _ h k ∙ z.0, λ q. seen_kind s i (inner q) _ h k ∙ z.1 q, end_is s i _ h k (bad_ending (drop (suc i) s) (eqb (entry_at s i) 160)))

pub start_end : (s : List ℕ) (i : ℕ) → i ≤ length s → entry_at s i ≡ 256 → seen s i fresh ≡ over (length s)
unfolding stop
start_end s i l e = let z = entry_end s i e in let f : i ≡ length s = omega arith in seen_end s i fresh z ∙ ap over f
