-- The place of a refusal stands at a line's start or on a line; what the lines before that do, and that reading goes on behind them (01, "Refusal numbers"; 02, T-06). Assumes nothing.
use Rattle.std.specs.Prelude.{◌≡◌, Bool, true, false, ℕ, suc, ◌+◌, ◌≤◌, ltb, leb, length}
use Rattle.std.proofs.Math.Path.{refl, sym}
use Rattle.std.proofs.Common.{ap, ◌∙◌, length-append, ltb-false, leb-true}
use mathlib.Core.List.{List, [], ◌∷◌, ◌++◌, append_assoc, append-nil}
use native.Mathlib.Omega.{arith}
use Rattle.terms.specs.Logic.{pick, by_case}
use Rattle.table_spec.specs.Frame.{Rules, longest_line}
use Rattle.table_spec.specs.Values.{Value, Form, Spot, first, after, is_dif, last_or, index}
use Rattle.table_spec.specs.Reading.{Tokens, over, fault, head, value, line, fresh, tokens, Says, adds, refuses, says, Answer, refuse, accept, push, bare, dif_before, finish, line_length}
use Rattle.table_spec.specs.ReadingLaws.{no_accept, push_none, push_push}
use Rattle.table_law.specs.Spelling.{Ordinate}
use Rattle.table_law.proofs.Meaning.{Said, said}
use Rattle.line_law.specs.Linewise.{NoLf}
use Rattle.line_law.specs.WholeLine.{Done, refused, went, add, resume, takes, does, line_does, reading}
use Rattle.line_law.proofs.WholeLine.{line_then, last_line}
use Rattle.plain_law.specs.Single.{Single}
use Rattle.plain_law.specs.Lines.{Cut, no_line, end_line, whole_line, single_whole, single_last}
use Rattle.place_on.specs.On.{push_refuse}
use Rattle.place_before.specs.Before.{WholeLines, no_lines, last_lf}
use Rattle.place_before.specs.ValueLaws.{owed, stands_owed, dif_owed}

-- ---- refusals: number and place, and where 12 and 13 stand

no_refuse : {A : Type 0} {c a : ℕ} {ys : List ℕ} → accept ys ≡ refuse c a → A
no_refuse e = no_accept (sym e)

number_of : {c z d a : ℕ} → refuse d a ≡ refuse c z → d ≡ c
number_of e = cc

place_of : {c z d a : ℕ} → refuse d a ≡ refuse c z → a ≡ z
place_of e = cc

finish_place : (R : Rules) (a i : ℕ) (b : Bool) (c z : ℕ) → finish R a i b ≡ refuse c z → a ≡ z
unfolding finish
finish_place R a i b c z =
    by_case (λ t. pick t (refuse 12 a) (pick b (refuse 13 a) (accept [])) ≡ refuse c z → a ≡ z) (ltb i R.points) (λ _ e. place_of e)
    (λ _. by_case (λ t. pick t (refuse 13 a) (accept []) ≡ refuse c z → a ≡ z) b (λ _ e. place_of e) (λ _ e. no_refuse e))

-- ---- the state after a line

-- the last of points and further points
last_more : (p : ℕ) (us vs : List ℕ) → last_or (last_or p us) vs ≡ last_or p (us ++ vs)
last_more p [] vs = refl
last_more p (u ∷ us) vs = last_more u us vs

module _ (R : Rules) where
  -- from i points, the last of them p: how many there are then, and the last, which is not missing where a check is due
  abbrev Leaves : ℕ → ℕ → Done → Type 0
  Leaves i p (refused c z) = Unit {0}
  Leaves i p (went vs j l u) = (j ≡ i + length vs) × (l ≡ last_or p vs) × (j ≤ R.points) × (owed u ≡ true → Ordinate l)

  -- whichever of the two it does; after some points; after a value; after any tokens
  leaves_pick : (i p : ℕ) (t : Bool) (x y : Done) → Leaves i p x → Leaves i p y → Leaves i p (pick t x y)
  leaves_pick i p true x y h k = h
  leaves_pick i p false x y h k = k

  leaves_add : (i p : ℕ) (us : List ℕ) (d : Done) → Leaves (i + length us) (last_or p us) d → Leaves i p (add us d)
  leaves_add i p us (refused c z) h = tt
  leaves_add i p us (went vs j l u) h = (omega (arith, h.0, length-append us vs), h.1 ∙ last_more p us vs, h.2, h.3)

  takes_leaves : (a i p : ℕ) (w : Spot) (x : Value) (f : ℕ → ℕ → Form → Done) → (owed w ≡ true → Ordinate p)
      → ((j y : ℕ) (r : Form) → j ≤ R.points → (is_dif r ≡ true → Ordinate y) → Leaves j y (f j y r)) → (y : Says) → Said w p x y → Leaves i p (takes R f a i p y)
  takes_leaves a i p w x f o h (refuses c) s = tt
  takes_leaves a i p w x f o h (adds us r) s =
      by_case (λ t. leb (i + length us) R.points ≡ t → Leaves i p (pick t (add us (f (i + length us) (last_or p us) r)) (refused 11 a))) (leb (i + length us) R.points)
      (λ _ k. leaves_add i p us (f (i + length us) (last_or p us) r) (h (i + length us) (last_or p us) r (leb-true (i + length us) R.points k) (stands_owed s o))) (λ _ k. tt) refl

  does_leaves : (x : Tokens) (i p : ℕ) (w : Spot) → i ≤ R.points → (owed w ≡ true → Ordinate p) → Leaves i p (does R x i p w)
  unfolding does
  does_leaves (over a) i p w l o = (omega arith, refl, l, o)
  does_leaves (fault c a) i p w l o = tt
  does_leaves (head a h u r) i p w l o =
      leaves_pick i p (R.passing h u (index (dif_before w) i)) (pick (bare r) (refused 7 a) (does R r i p (first (dif_before w)))) (refused 6 a)
      (leaves_pick i p (bare r) (refused 7 a) (does R r i p (first (dif_before w))) tt (does_leaves r i p (first (dif_before w)) l (λ e. o (dif_owed w e)))) tt
  does_leaves (value a x r) i p w l o = takes_leaves a i p w x (λ j y f. does R r j y (after f)) o (λ j y f k q. does_leaves r j y (after f) k q) (says w p x) (said w p x)
  does_leaves (line r) i p w l o = does_leaves r i p w l o

-- ---- whole lines

-- a line more before them
more_lines : (w : List ℕ) {s : List ℕ} → WholeLines s → WholeLines (w ++ 10 ∷ s)
more_lines w no_lines = last_lf w
more_lines w (last_lf v) = rw (← append_assoc w (10 ∷ v) (10 ∷ [])) (last_lf (w ++ 10 ∷ v))

-- whole lines at the place a, after i points, the last of them p: the points that they give, the place and the state after them, and that reading goes on from there
pub record Behind (R : Rules) (kept : List ℕ) (a i p : ℕ) (v : Spot) : Type 0 where
  pub given : List ℕ
  pub place : ℕ
  pub count : ℕ
  pub last : ℕ
  pub spot : Spot
  pub place_is : place ≡ a + length kept
  pub count_is : count ≡ i + length given
  pub last_is : last ≡ last_or p given
  pub fits : count ≤ R.points
  pub owes : owed spot ≡ true → Ordinate last
  pub lines : WholeLines kept
  pub law : (u : List ℕ) → reading R (kept ++ u) a i p v ≡ push given (reading R u place count last spot)

-- where a line t that ends at the place e stops: at its fault; or at its end, which is that of the body
pub data Stopped (c z e : ℕ) (t : List ℕ) : Done → Type 0 where
  faulty : Stopped c z e t (refused c z)
  over_there : {j l : ℕ} {u : Spot} {vs : List ℕ} → NoLf t → z ≡ e → Stopped c z e t (went vs j l u)

-- where a text s is refused with c at z
pub data Where (R : Rules) (s : List ℕ) (c z a i p : ℕ) (v : Spot) : Type 0 where
  at_start : (kept rest : List ℕ) → s ≡ kept ++ rest → (b : Behind R kept a i p v) → z ≡ b.place → Where R s c z a i p v
  on_a_line : (kept t rest : List ℕ) → s ≡ kept ++ (t ++ rest) → (b : Behind R kept a i p v) → Single t → line_length t ≤ longest_line
      → Stopped c z (b.place + length t) t (does R (tokens R.tabs t 0 b.place fresh) b.count b.last b.spot) → Where R s c z a i p v

-- ---- a text that stands at the place a, after i points, the last of them p, and is refused with c at z

module _ (R : Rules) (a i p : ℕ) (v : Spot) where
  -- no line
  none_behind : i ≤ R.points → (owed v ≡ true → Ordinate p) → Behind R [] a i p v
  none_behind l o =
      record {
        given = [];
        place = a;
        count = i;
        last = p;
        spot = v;
        place_is = omega arith;
        count_is = omega arith;
        last_is = refl;
        fits = l;
        owes = o;
        lines = no_lines;
        law = λ u. push_none (reading R u a i p v);
      }

  -- a line more before them, which went
  more_behind : (w vs : List ℕ) (j k : ℕ) (x : Spot) → NoLf w → line_does R (w ++ 10 ∷ []) a i p v ≡ went vs j k x → Leaves R i p (went vs j k x)
      → {kept : List ℕ} → Behind R kept (a + suc (length w)) j k x → Behind R (w ++ 10 ∷ kept) a i p v
  more_behind w vs j k x h e g {kept} b =
      record {
        given = vs ++ b.given;
        place = b.place;
        count = b.count;
        last = b.last;
        spot = b.spot;
        place_is = omega (arith, b.place_is, length-append w (10 ∷ kept));
        count_is = omega (arith, b.count_is, g.0, length-append vs b.given);
        last_is = b.last_is ∙ ap (λ y. last_or y b.given) g.1 ∙ last_more p vs b.given;
        fits = b.fits;
        owes = b.owes;
        lines = more_lines w b.lines;
        law = λ u. rw (append_assoc w (10 ∷ kept) u) (line_then R w (kept ++ u) a i p v h ∙ ap (λ (d : Done). resume d (reading R (kept ++ u) (a + suc (length w)))) e
            ∙ ap (push vs) (b.law u) ∙ push_push vs b.given (reading R u b.place b.count b.last b.spot));
      }

  module _ (c z : ℕ) where
    -- the place is the same with such a line before the text
    more_before : (w s vs : List ℕ) (j k : ℕ) (x : Spot) → NoLf w → line_does R (w ++ 10 ∷ []) a i p v ≡ went vs j k x → Leaves R i p (went vs j k x)
        → Where R s c z (a + suc (length w)) j k x → Where R (w ++ 10 ∷ s) c z a i p v
    unfolding more_behind
    more_before w s vs j k x h e g (at_start kept rest f b y) =
        at_start (w ++ 10 ∷ kept) rest (ap (λ (x : List ℕ). w ++ 10 ∷ x) f ∙ sym (append_assoc w (10 ∷ kept) rest)) (more_behind w vs j k x h e g b) y
    more_before w s vs j k x h e g (on_a_line kept t rest f b y n q) =
        on_a_line (w ++ 10 ∷ kept) t rest (ap (λ (x : List ℕ). w ++ 10 ∷ x) f ∙ sym (append_assoc w (10 ∷ kept) (t ++ rest))) (more_behind w vs j k x h e g b) y n q

    -- what a line does that is not too long
    abbrev line_did : List ℕ → Done
    line_did t = does R (tokens R.tabs t 0 a fresh) i p v

    -- a line that is too long is refused at its start; else by what it does, or behind it
    by_length : (t : List ℕ) (k : ℕ → ℕ → Spot → Answer) (A : Type 0) → (z ≡ a → A)
        → (line_length t ≤ longest_line → (d : Done) → line_does R t a i p v ≡ d → line_did t ≡ d → resume d k ≡ refuse c z → A)
        → resume (line_does R t a i p v) k ≡ refuse c z → A
    by_length t k A f g =
        by_case (λ q. ltb longest_line (line_length t) ≡ q
        → (line_length t ≤ longest_line → (x : Done) → pick q (refused 16 a) (line_did t) ≡ x → line_did t ≡ x → resume x k ≡ refuse c z → A)
        → resume (pick q (refused 16 a) (line_did t)) k ≡ refuse c z → A) (ltb longest_line (line_length t))
        (λ _ h _ e. f (sym (place_of e))) (λ _ h y e. y (ltb-false longest_line (line_length t) h) (line_did t) refl refl e) refl g

    module _ (l : i ≤ R.points) (o : owed v ≡ true → Ordinate p) where
      -- the place is on the text's first line, or that line's start
      here : (t rest : List ℕ) (d : Done) → Single t → line_length t ≤ longest_line → line_did t ≡ d → Stopped c z (a + length t) t d → Where R (t ++ rest) c z a i p v
      unfolding none_behind
      here t rest d g n e q = on_a_line [] t rest refl (none_behind l o) g n (rw e q)

      at_once : (s : List ℕ) → z ≡ a → Where R s c z a i p v
      unfolding none_behind
      at_once s e = at_start [] s refl (none_behind l o) e

      -- a line with its LF, and then s
      by_line : (w s : List ℕ) → NoLf w
          → ((j q : ℕ) (x : Spot) → j ≤ R.points → (owed x ≡ true → Ordinate q) → reading R s (a + suc (length w)) j q x ≡ refuse c z → Where R s c z (a + suc (length w)) j q x)
          → line_length (w ++ 10 ∷ []) ≤ longest_line → (d : Done) → line_does R (w ++ 10 ∷ []) a i p v ≡ d → line_did (w ++ 10 ∷ []) ≡ d
          → resume d (reading R s (a + suc (length w))) ≡ refuse c z → Where R (w ++ 10 ∷ s) c z a i p v
      by_line w s h ih n (refused x y) _ f g =
          rw (append_assoc w (10 ∷ []) s) at (here (w ++ 10 ∷ []) s (refused x y) (single_whole w h) n f (rw (number_of g, place_of g) faulty))
      by_line w s h ih n (went vs j k x) y f g =
          let m : Leaves R i p (went vs j k x) = rw f at (does_leaves R (tokens R.tabs (w ++ 10 ∷ []) 0 a fresh) i p v l o) in
          more_before w s vs j k x h y m (ih j k x m.2 m.3 (push_refuse vs (reading R s (a + suc (length w)) j k x) c z g))

      -- a last line, and 12 and 13 behind it
      by_last : (t : List ℕ) → NoLf t → line_length t ≤ longest_line → (d : Done) → line_did t ≡ d → resume d (λ j q u. finish R (a + length t) j (dif_before u)) ≡ refuse c z
          → Where R (t ++ []) c z a i p v
      by_last t h n (refused x y) f g = here t [] (refused x y) (single_last t h) n f (rw (number_of g, place_of g) faulty)
      by_last t h n (went vs j k x) f g =
          let y = finish_place R (a + length t) j (dif_before x) c z (push_refuse vs (finish R (a + length t) j (dif_before x)) c z g) in
          here t [] (went vs j k x) (single_last t h) n f (over_there h (sym y))

      find_last : (t : List ℕ) → NoLf t → reading R t a i p v ≡ refuse c z → Where R t c z a i p v
      find_last t h e =
          by_length t (λ j q u. finish R (a + length t) j (dif_before u)) (Where R t c z a i p v) (at_once t) (λ n d _ f g. rw (append-nil t) at (by_last t h n d f g))
          (sym (last_line R t a i p v h) ∙ e)

-- THE LAW: the place of every refusal of a text, cut into its lines
pub find : (R : Rules) {s : List ℕ} → Cut s → (a i p : ℕ) (v : Spot) (c z : ℕ) → i ≤ R.points → (owed v ≡ true → Ordinate p) → reading R s a i p v ≡ refuse c z
    → Where R s c z a i p v
find R no_line a i p v c z l o e = find_last R a i p v c z l o [] tt e
find R (end_line b w h) a i p v c z l o e = find_last R a i p v c z l o (b ∷ w) h e
find R (whole_line w s h k) a i p v c z l o e =
    by_length R a i p v c z (w ++ 10 ∷ []) (reading R s (a + suc (length w))) (Where R (w ++ 10 ∷ s) c z a i p v) (at_once R a i p v c z l o (w ++ 10 ∷ s))
    (by_line R a i p v c z l o w s h (λ j q x m n f. find R k (a + suc (length w)) j q x c z m n f)) (sym (line_then R w s a i p v h) ∙ e)
