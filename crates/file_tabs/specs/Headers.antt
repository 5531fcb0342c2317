-- T-13: "in headers it may stay". Labels, records and their texts are the same where each tab of a text is a space. Assumes nothing.
use Rattle.std.specs.Prelude.{◌≡◌, refl, Bool, true, false, not, List, [], ◌∷◌, ℕ, zero, suc, ◌+◌, ◌-◌, eqb, length, get_or, take, drop, Option, Some, None, Result, Ok, Err}
use Rattle.std.proofs.Common.{ap, ◌∙◌, eqb-true}
use Rattle.terms.specs.Logic.{pick, by_case}
use Rattle.terms.specs.Places.{line_of, column_after}
use Rattle.table_spec.specs.Tabs.{changed}
use Rattle.table_tabs.specs.Converted.{eq_same}
use Rattle.label_spec.specs.Names.{blank, ignored, norm}
use Rattle.label_spec.specs.Labels.{Walk, eq_in, headed, step, walk, from, hashed}
use Rattle.label_spec.specs.Space.{space, opens, past, past_at}
use Rattle.label_spec.specs.File.{opened_at, opened, after_title, labelled}
use Rattle.label_spec.specs.declared.Span.{Span}
use Rattle.file_spec.specs.Texts.{text_in, gathered_from, spacing, first_mark, mark_of, LIST, matched, listed_as, listed_in}
use Rattle.label_spec.specs.declared.Edges.{Edges}
use Rattle.terms.specs.declared.Fault.{Fault}

-- a text with a space for each tab, in comments too
unfoldable pub untabbed : List ℕ → List ℕ
untabbed [] = []
untabbed (b ∷ s) = changed false b ∷ untabbed s

-- what holds of a space for a tab, and of a byte for itself, holds of a byte that is changed
pub tab_or_same : (P : ℕ → ℕ → Type 0) (b : ℕ) → P 32 9 → P b b → P (changed false b) b
tab_or_same P b h k = by_case (λ t. eqb b 9 ≡ t → P (pick t 32 b) b) (eqb b 9) (λ _ e. rw (eqb-true b 9 e) h) (λ _ e. k) refl

-- ---- parts of a text

pub length_untabbed : (s : List ℕ) → length (untabbed s) ≡ length s
unfolding untabbed
length_untabbed [] = refl
length_untabbed (b ∷ s) = ap suc (length_untabbed s)

pub drop_untabbed : (n : ℕ) (s : List ℕ) → drop n (untabbed s) ≡ untabbed (drop n s)
unfolding untabbed
drop_untabbed zero s = refl
drop_untabbed (suc n) [] = refl
drop_untabbed (suc n) (b ∷ s) = drop_untabbed n s

pub take_untabbed : (n : ℕ) (s : List ℕ) → take n (untabbed s) ≡ untabbed (take n s)
unfolding untabbed
take_untabbed zero s = refl
take_untabbed (suc n) [] = refl
take_untabbed (suc n) (b ∷ s) = ap (λ (l : List ℕ). changed false b ∷ l) (take_untabbed n s)

pub byte_untabbed : (s : List ℕ) (i : ℕ) → get_or (untabbed s) i 0 ≡ changed false (get_or s i 0)
unfolding untabbed
byte_untabbed [] i = refl
byte_untabbed (b ∷ s) zero = refl
byte_untabbed (b ∷ s) (suc i) = byte_untabbed s i

-- does a byte that is no blank stand at a place?
pub same_byte : (s : List ℕ) (i x : ℕ) → eqb 32 x ≡ false → eqb 9 x ≡ false → eqb (get_or (untabbed s) i 0) x ≡ eqb (get_or s i 0) x
same_byte s i x h k = ap (λ (b : ℕ). eqb b x) (byte_untabbed s i) ∙ eq_same false (get_or s i 0) x h k

-- ---- lines and columns

pub same_line : (s : List ℕ) (a : ℕ) → line_of (untabbed s) a ≡ line_of s a
unfolding line_of untabbed
same_line [] a = refl
same_line (b ∷ s) zero = refl
same_line (b ∷ s) (suc a) = rw (eq_same false b 10 refl refl, same_line s a) refl

pub same_column : (k : ℕ) (s : List ℕ) (a : ℕ) → column_after k (untabbed s) a ≡ column_after k s a
unfolding column_after untabbed
same_column k [] a = refl
same_column k (b ∷ s) zero = refl
same_column k (b ∷ s) (suc a) =
    ap (λ (t : Bool). column_after (pick t 1 (suc k)) (untabbed s) a) (eq_same false b 10 refl refl) ∙ same_column (pick (eqb b 10) 1 (suc k)) s a

-- ---- labels

same_blank : (b : ℕ) → blank (changed false b) ≡ blank b
unfolding blank
same_blank b = tab_or_same (λ x y. blank x ≡ blank y) b refl refl

same_norm : (s : List ℕ) → norm (untabbed s) ≡ norm s
unfolding norm ignored blank untabbed
same_norm [] = refl
same_norm (b ∷ s) = tab_or_same (λ x y. norm (x ∷ untabbed s) ≡ norm (y ∷ s)) b (same_norm s) (rw (same_norm s) refl)

same_eq : (s : List ℕ) (i : ℕ) → eq_in (untabbed s) i ≡ eq_in s i
unfolding eq_in untabbed
same_eq [] i = refl
same_eq (b ∷ s) i = rw (eq_same false b 61 refl refl, eq_same false b 10 refl refl, same_eq s (i + 1)) refl

same_headed : (s : List ℕ) (m n : ℕ) (K : Walk) (p : Option ℕ) → headed (untabbed s) m n K p ≡ headed s m n K p
unfolding headed
same_headed s m n K None = refl
same_headed s m n K (Some e) = rw (take_untabbed (e - n) s, same_norm (take (e - n) s)) refl

same_step : (J K : Bool → Walk) (s : List ℕ) (i : ℕ) (t : Bool) (b : ℕ) → ((u : Bool) → J u ≡ K u) → step J (untabbed s) i t (changed false b) ≡ step K s i t b
unfolding step
same_step J K s i false b h = h (eqb (changed false b) 10) ∙ ap K (eq_same false b 10 refl refl)
same_step J K s i true b h =
    rw (
      same_blank b,
      eq_same false b 35 refl refl,
      eq_same false b 10 refl refl,
      same_byte s 0 35 refl refl,
      drop_untabbed 1 s,
      same_eq (drop 1 s) (i + 2),
      same_headed (drop 1 s) i (i + 2) (J false) (eq_in (drop 1 s) (i + 2)),
      h true,
      h false,
      h (eqb b 10),
    ) refl

same_walk : (s : List ℕ) (i : ℕ) (t : Bool) → walk (untabbed s) i t ≡ walk s i t
unfolding walk untabbed
same_walk [] i t = refl
same_walk (b ∷ s) i t = same_step (walk (untabbed s) (i + 1)) (walk s (i + 1)) s i t b (same_walk s (i + 1))

pub same_from : (s : List ℕ) (i : ℕ) (t : Bool) → from (untabbed s) i t ≡ from s i t
unfolding from
same_from s i t = rw (drop_untabbed i s) (same_walk (drop i s) i t)

same_hashed : (s : List ℕ) (i : ℕ) → hashed (untabbed s) i ≡ hashed s i
unfolding hashed
same_hashed s i = rw (same_byte s i 35 refl refl, same_byte s (i + 1) 35 refl refl) refl

-- ---- blanks, line ends and comments

same_space : (b : ℕ) → space (changed false b) ≡ space b
unfolding space
same_space b = rw (same_blank b, eq_same false b 10 refl refl) refl

same_opens : (b : ℕ) (s : List ℕ) → opens (changed false b) (get_or (untabbed s) 0 0) ≡ opens b (get_or s 0 0)
unfolding opens
same_opens b s = rw (eq_same false b 13 refl refl, eq_same false b 36 refl refl, same_byte s 0 10 refl refl, same_byte s 0 36 refl refl) refl

same_past : (s : List ℕ) (i : ℕ) (t : Bool) → past (untabbed s) i t ≡ past s i t
unfolding past untabbed
same_past [] i t = refl
same_past (b ∷ s) i true = same_past s (i + 1) (not (eqb (changed false b) 10)) ∙ ap (λ (t : Bool). past s (i + 1) (not t)) (eq_same false b 10 refl refl)
same_past (b ∷ s) i false = rw (same_space b, same_opens b s, same_past s (i + 1) false, same_past s (i + 1) true) refl

pub same_past_at : (s : List ℕ) (i : ℕ) (t : Bool) → past_at (untabbed s) i t ≡ past_at s i t
unfolding past_at
same_past_at s i t = rw (drop_untabbed i s) (same_past (drop i s) i t)

-- ---- what the labels say, and the seven records

same_opened : (s : List ℕ) → opened (untabbed s) ≡ opened s
unfolding opened opened_at
same_opened s = rw (same_past_at s 0 false, same_hashed s (past_at s 0 false), same_from s (past_at s 0 false) true) refl

same_after : (s : List ℕ) (o : Result Edges Fault) → after_title (untabbed s) o ≡ after_title s o
unfolding after_title
same_after s (Ok x) = rw (length_untabbed s, same_from s (x.eq + 1) false) refl
same_after s (Err r) = refl

pub same_labelled : (s : List ℕ) → labelled (untabbed s) ≡ labelled s
unfolding labelled
same_labelled s = rw (length_untabbed s, same_opened s, same_after s (opened s)) refl

pub same_gathered : (s : List ℕ) (start stop : ℕ) → gathered_from (untabbed s) start stop ≡ gathered_from s start stop
unfolding gathered_from
same_gathered s start stop = rw (length_untabbed s, same_from s start false) refl

-- ---- the texts of records

pub text_untabbed : (s : List ℕ) (t : Span) → text_in (untabbed s) t ≡ untabbed (text_in s t)
text_untabbed s t = rw (drop_untabbed t.from s, take_untabbed (t.to - t.from) (drop t.from s)) refl

same_spacing : (b : ℕ) (s : List ℕ) → spacing (changed false b) (get_or (untabbed s) 0 0) ≡ spacing b (get_or s 0 0)
unfolding spacing
same_spacing b s = rw (same_blank b, eq_same false b 10 refl refl, eq_same false b 13 refl refl, same_byte s 0 10 refl refl) refl

same_first : (s : List ℕ) (i : ℕ) → first_mark (untabbed s) i ≡ first_mark s i
unfolding first_mark untabbed
same_first [] i = refl
same_first (b ∷ s) i = rw (same_spacing b s, same_first s (suc i)) refl

pub same_mark : (s : List ℕ) (t : Span) → mark_of (untabbed s) t ≡ mark_of s t
unfolding mark_of
same_mark s t = rw (text_untabbed s t, same_first (text_in s t) 0) refl

same_matched : (b : ℕ) (w : List ℕ) (f g : List ℕ → Option ℕ) → ((v : List ℕ) → f v ≡ g v) → matched b w f ≡ matched b w g
same_matched b [] f g h = refl
same_matched b (c ∷ w) f g h = rw (h w) refl

same_listed_as : (s : List ℕ) (i : ℕ) (w : List ℕ) → listed_as (untabbed s) i w ≡ listed_as s i w
unfolding listed_as spacing blank untabbed
same_listed_as [] i w = refl
same_listed_as (b ∷ s) i w =
    tab_or_same (λ x y. listed_as (x ∷ untabbed s) i w ≡ listed_as (y ∷ s) i w) b (same_listed_as s (suc i) w)
    (rw (same_byte s 0 10 refl refl, same_listed_as s (suc i) w, same_matched b w (listed_as (untabbed s) (suc i)) (listed_as s (suc i)) (same_listed_as s (suc i))) refl)

pub same_listed : (p : List ℕ) → listed_in (untabbed p) ≡ listed_in p
unfolding listed_in
same_listed p = same_listed_as p 0 LIST
