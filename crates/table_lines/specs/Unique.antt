-- The public functions on lines have one answer each (01, "What the contracts say"): two that meet a contract on one text, at one place, are equal. Assumes nothing.
use Rattle.std.specs.Prelude.{◌≡◌, refl, Bool, false, List, ℕ, suc, ◌-◌, ◌<◌, get_or, drop, Option, Some, None}
use Rattle.std.proofs.Common.{sym, ap, ◌∙◌, arith}
use Rattle.terms.specs.Logic.{zero_one}
use Rattle.alphabet_spec.specs.Kinds.{tabs_too}
use Rattle.alphabet_spec.specs.Digits.{digits, some}
use Rattle.alphabet_spec.specs.Bytes.{Byte, digit, lead, sign, quest, blank, point, lf, cr, dollar, other, kind}
use Rattle.alphabet_spec.specs.Entries.{code, entry}
use Rattle.alphabet_spec.proofs.EntryLaws.{at_entry}
use Rattle.table_spec.specs.Reading.{Tokens, over, fault, head, HeadDigits, no_head, sized, value, line, Mode, fresh, headed, thousandths, opening, step}
use Rattle.table_lines.specs.Seen.{seen, seen_step}
use Rattle.table_lines.specs.Ends.{Blanked, Ended, Started}
use Rattle.table_lines.specs.Heads.{Topped, Headed}
use Rattle.table_lines.specs.declared.Start.{Start}
use Rattle.table_lines.specs.declared.Start.TheVariants as start
use Rattle.table_lines.specs.declared.HeadRead.{HeadRead}
use Rattle.table_lines.specs.Parts.{head_with}

-- ---- blanks

no_further : {s : List ℕ} {i r q : ℕ} → Blanked s i r → Blanked s i q → r < q → ⊥
no_further {r = r} x y l = x.stops (y.all r x.low l)

pub blanks_unique : {s : List ℕ} {i r q : ℕ} → Blanked s i r → Blanked s i q → r ≡ q
blanks_unique {r = r} {q} x y = let f : r < q → ⊥ = no_further x y in let g : q < r → ⊥ = no_further y x in omega (arith, f, g)

-- ---- line_end

pub line_end_unique : (s : List ℕ) (i : ℕ) (x y : Option ℕ) → Ended s i x → Ended s i y → x ≡ y
line_end_unique s i (Some j) (Some k) a b = sym a.is ∙ b.is
line_end_unique s i (Some j) None a b = sym a.is ∙ b.2
line_end_unique s i None (Some k) a b = sym a.2 ∙ b.is
line_end_unique s i None None a b = refl

-- ---- row_start: the first token that is left shows its place

-- what the first token is: 0 the end of the body, 3 a byte that cannot stand there, 4 a head or what is none
abbrev sort : Tokens → ℕ
sort (over a) = 0
sort (fault c a) = c
sort (head a h u r) = 4
sort (value a v r) = 0
sort (line r) = 0

-- the place of the first token
abbrev place : Tokens → ℕ
place (over a) = a
place (fault c a) = a
place (head a h u r) = a
place (value a v r) = a
place (line r) = 0

-- a head, or what is none, at the place a
abbrev Shows : ℕ → Tokens → Type 0
Shows a t = (sort t ≡ 4) × (place t ≡ a)

headed_shows : (K : ℕ → Mode → Tokens) (a : ℕ) (m : Bool) (x : HeadDigits) → Shows a (headed K a m x)
headed_shows K a m no_head = (refl, refl)
headed_shows K a m (sized h u n) = (refl, refl)

-- a byte below a point's entry, and no blank, begins a line's first token
opening_shows : (K : ℕ → Mode → Tokens) (a : ℕ) (t : List ℕ) (c : Byte) → code c < 160 → (code c ≡ 112 → ⊥) → Shows a (opening K a t c)
unfolding opening
opening_shows K a t (digit d) l n = headed_shows K a false (thousandths t (digits t 6 d 0))
opening_shows K a t (lead k d) l n = (refl, refl)
opening_shows K a t (sign m) l n = headed_shows K a m (thousandths t (some (digits t 7 0 0)))
opening_shows K a t quest l n = (refl, refl)
opening_shows K a t blank l n = absurd (n refl)
opening_shows K a t point l n = absurd (omega arith)
opening_shows K a t lf l n = absurd (omega arith)
opening_shows K a t cr l n = absurd (omega arith)
opening_shows K a t dollar l n = absurd (omega arith)
opening_shows K a t other l n = absurd (omega arith)

head_shows : (s : List ℕ) (i j e : ℕ) → Started s i (start.Head j e) → Shows j (seen s i fresh)
unfolding step entry
head_shows s i j e x =
    let o = x.1 in let z : e ≡ entry (get_or s j 0) = o.stands ∙ at_entry s j o.inside in
    rw (x.2 ∙ seen_step s j fresh o.inside) (opening_shows _ j (drop (suc j) s) (kind tabs_too (get_or s j 0)) (rw z at o.before_point) (λ w. o.no_blank (z ∙ w)))

pub row_start_unique : (s : List ℕ) (i : ℕ) (x y : Start) → Started s i x → Started s i y → x ≡ y
row_start_unique s i (start.Head j e) (start.Head k f) a b = let z : j ≡ k = sym (head_shows s i j e a).1 ∙ (head_shows s i k f b).1 in rw (a.1.stands, b.1.stands, z) refl
row_start_unique s i (start.Head j e) start.End a b = absurd (let z = sym (head_shows s i j e a).0 ∙ ap sort b in omega arith)
row_start_unique s i (start.Head j e) (start.Bad k) a b = absurd (let z = sym (head_shows s i j e a).0 ∙ ap sort b in omega arith)
row_start_unique s i start.End (start.Head k f) a b = absurd (let z = sym (head_shows s i k f b).0 ∙ ap sort a in omega arith)
row_start_unique s i start.End start.End a b = refl
row_start_unique s i start.End (start.Bad k) a b = absurd (let z = ap sort (sym a ∙ b) in omega arith)
row_start_unique s i (start.Bad j) (start.Head k f) a b = absurd (let z = sym (head_shows s i k f b).0 ∙ ap sort a in omega arith)
row_start_unique s i (start.Bad j) start.End a b = absurd (let z = ap sort (sym a ∙ b) in omega arith)
row_start_unique s i (start.Bad j) (start.Bad k) a b = ap start.Bad (ap place (sym a ∙ b))

-- ---- head: its bytes are so many

topped_same : {s : List ℕ} {i h u j g v k : ℕ} → Topped s i h u j → Topped s i g v k → Some (head_with h u j) ≡ Some (head_with g v k)
topped_same {i = i} {h} {u} {j} {g} {v} {k} x y =
    let z = sym (x.bytes (λ n m. over n)) ∙ y.bytes (λ n m. over n) in
    let a : h ≡ g = cc in let d : u ≡ v = cc in let b : j - suc i ≡ k - suc i = cc in
    let l = x.low in let m = y.low in let c : j ≡ k = omega arith in
    rw (a, d, c) refl

pub head_unique : (s : List ℕ) (i : ℕ) (x y : Option HeadRead) → Headed s i x → Headed s i y → x ≡ y
head_unique s i (Some x) (Some y) a b = topped_same a b
head_unique s i (Some x) None a b = let z = sym a.law ∙ b in zero_one cc
head_unique s i None (Some x) a b = let z = sym b.law ∙ a in zero_one cc
head_unique s i None None a b = refl
