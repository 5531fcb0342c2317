-- A table that is read as ordinates spells them; so it spells one list at most. Assumes nothing.
use Rattle.std.specs.Prelude.{◌≡◌, Bool, drop}
use Rattle.std.proofs.Math.Path.{refl}
use Rattle.std.proofs.Common.{sym}
use Rattle.std.proofs.Math.Bool.{true, false}
use mathlib.Core.List.{List, [], ◌∷◌, ◌++◌, append_assoc}
use Prim.Native.Nat.{ℕ, zero, suc, ◌+◌, ◌≤◌}
use native.Mathlib.Omega.{arith}
use Rattle.std.proofs.Math.Dec.{ltb, leb}
use Rattle.std.proofs.Math.ListN.{length, length-append}
use borrow.Author.Tests.{ltb-false, leb-true}
use Rattle.terms.specs.Logic.{pick, by_case, no_way}
use Rattle.alphabet_spec.specs.Digits.{Run, long, run, digits, some}
use Rattle.alphabet_spec.specs.Bytes.{Byte, digit, lead, sign, quest, blank, point, lf, cr, dollar, other, kind}
use Rattle.alphabet_spec.proofs.KindLaws.{Back, kind_back}
use Rattle.table_spec.specs.Frame.{Rules}
use Rattle.table_spec.specs.Values.{Value, own, gap, Form, Own, Gap, By, Dup, is_dif, Spot, first, after, last_or, room, value_of, index, headed_at}
use Rattle.table_spec.specs.Reading.{Tokens, over, fault, HeadDigits, no_head, sized, value, line, Ending, ends as ends-in, none as no_end, ending, thousandths, Mode, fresh, inner, Rest, ended}
use Rattle.table_spec.specs.Reading.{headed, valued, opening, inside, step, stop, tokens, Says, adds, refuses, says, Answer, refuse, accept, push, bare, dif_before, took}
use Rattle.table_spec.specs.Reading.{checked, finish, judge, read_lines, long_line, read}
use Rattle.table_spec.specs.ReadingLaws.{no_accept}
use Rattle.table_law.specs.Spelling.{Spelled, missing, Stands, LineEnd, over as end_over, Line, done, blank as with-blank, value as with_value}
use Rattle.table_law.specs.Spelling.{EndsInDif, own_not, gap_not, dif_does, dup_as, Belongs, last_given, next_point, Body, end, indent, passed, row, Spells}
use Rattle.table_law.specs.Heads.{HeadIs}
use Rattle.table_law.proofs.Heads.{unsigned_is, signed_is as signed-head}
use Rattle.table_law.proofs.Tokens.{EndIs, ending_is, ValueIs, packed_is, plain_is, signed_is}
use Rattle.table_law.proofs.Meaning.{Said, said}
use Rattle.table_law.proofs.LineLengths.{short_spelled, sooner_accept}
use Rattle.table_law.proofs.Complete.{complete}

-- ---- answers that accept

pub push_accept : (us : List ℕ) (x : Answer) (ys : List ℕ) → push us x ≡ accept ys → (zs : List ℕ) × (x ≡ accept zs) × (ys ≡ us ++ zs)
unfolding push
push_accept us (refuse c a) ys e = no_accept e
push_accept us (accept zs) ys e = (zs, refl, cc)

-- every form ends a line in DIF form or not, and every head belongs to an index
pub ends : (r : Form) → EndsInDif r (is_dif r)
ends Own = own_not
ends Gap = gap_not
ends (By m d) = dif_does
ends (Dup b) = dup_as

pub belongs : (c : Bool) (i : ℕ) → Belongs c i (index c i)
belongs true i = last_given
belongs false i = next_point

module _ (R : Rules) where
  finish_accept : (a i : ℕ) (c : Bool) (ys : List ℕ) → i ≤ R.points → finish R a i c ≡ accept ys → (i ≡ R.points) × (c ≡ false) × (ys ≡ [])
  unfolding finish
  finish_accept a i c ys l =
      by_case (λ t. ltb i R.points ≡ t → pick t (refuse 12 a) (pick c (refuse 13 a) (accept [])) ≡ accept ys → (i ≡ R.points) × (c ≡ false) × (ys ≡ [])) (ltb i R.points)
      (λ _ f e. no_accept e)
      (λ _ f. by_case (λ t. pick t (refuse 13 a) (accept []) ≡ accept ys → (i ≡ R.points) × (t ≡ false) × (ys ≡ [])) c
      (λ _ e. no_accept e) (λ _ e. (let z = ltb-false i R.points f in omega arith, refl, cc)))
      refl

  pub checked_accept : (f : Bool → Answer) (a h u : ℕ) (b : Bool) (i : ℕ) (c : Bool) (ys : List ℕ) → checked R f a h u b i c ≡ accept ys
      → (R.passing h u (index c i) ≡ true) × (b ≡ false) × (f c ≡ accept ys)
  unfolding checked
  checked_accept f a h u b i c ys =
      by_case (λ t. pick t (pick b (refuse 7 a) (f c)) (refuse 6 a) ≡ accept ys → (t ≡ true) × (b ≡ false) × (f c ≡ accept ys)) (R.passing h u (index c i))
      (λ _. by_case (λ t. pick t (refuse 7 a) (f c) ≡ accept ys → (true ≡ true) × (t ≡ false) × (f c ≡ accept ys)) b (λ _ e. no_accept e) (λ _ e. (refl, refl, e)))
      (λ _ e. no_accept e)

  -- a value that was taken: what it stands for, and what follows
  record Taken (f : ℕ → ℕ → Form → Answer) (i p : ℕ) (w : Spot) (x : Value) (ys : List ℕ) : Type 0 where
    pub us : List ℕ
    pub form : Form
    pub stands : Stands w p x us form (last_or p us)
    pub fits : i + length us ≤ R.points
    pub zs : List ℕ
    pub rest : f (i + length us) (last_or p us) form ≡ accept zs
    pub whole : ys ≡ us ++ zs

  took_accept : (f : ℕ → ℕ → Form → Answer) (a i p : ℕ) (w : Spot) (x : Value) (ys : List ℕ) (y : Says) → Said w p x y → took R f a i p y ≡ accept ys → Taken f i p w x ys
  unfolding took
  took_accept f a i p w x ys (refuses c) h e = no_accept e
  took_accept f a i p w x ys (adds us r) h e =
      by_case (λ t. leb (i + length us) R.points ≡ t → pick t (push us (f (i + length us) (last_or p us) r)) (refuse 11 a) ≡ accept ys → Taken f i p w x ys) (leb (i + length us) R.points)
      (λ _ l e. let z = push_accept us (f (i + length us) (last_or p us) r) ys e in
      record { us = us; form = r; stands = h; fits = leb-true (i + length us) R.points l; zs = z.0; rest = z.1; whole = z.2 })
      (λ _ l e. no_accept e) refl e

  -- ---- what tokens that are accepted spell

  -- the rest of a line and the body after it spell the ordinates ys
  pub record LineThenBody (q : Bool) (w : Spot) (i p : ℕ) (ys t : List ℕ) : Type 0 where
    pub vs : List ℕ
    pub form : Form
    pub final : ℕ
    pub below : List ℕ
    pub zs : List ℕ
    pub values : Line R.tabs q w p vs form final t below
    pub body : Body R (i + length vs) final (is_dif form) zs below
    pub whole : ys ≡ vs ++ zs

  -- after a head a value follows
  abbrev Open : Spot → Tokens → Type 0
  Open (first c) x = bare x ≡ false
  Open (after r) x = Unit {0}

  -- the tokens x of a text t in a mode: where they are accepted, t spells what they say
  abbrev From : Mode → Tokens → List ℕ → Type 0
  From fresh x t = (i p : ℕ) (w : Spot) (ys : List ℕ) → i ≤ R.points → judge R x i p w ≡ accept ys → Body R i p (dif_before w) ys t
  From (inner q) x t = (i p : ℕ) (w : Spot) (ys : List ℕ) → i ≤ R.points → Open w x → judge R x i p w ≡ accept ys → LineThenBody q w i p ys t

  no_fresh : (c a : ℕ) (t : List ℕ) → From fresh (fault c a) t
  unfolding judge
  no_fresh c a t i p w ys n e = no_accept e

  no_inner : (q : Bool) (c a : ℕ) (t : List ℕ) → From (inner q) (fault c a) t
  unfolding judge
  no_inner q c a t i p w ys n o e = no_accept e

  -- a value, and the rest of the line
  after_value : (q : Bool) (a : ℕ) (x : Value) (t u : List ℕ) (r : Tokens) → Spelled q x t u → From (inner false) r u → From (inner q) (value a x r) t
  unfolding judge
  after_value q a x t u r h k i p w ys n o e =
      let z = took_accept (λ j y f. judge R r j y (after f)) a i p w x ys (says w p x) (said w p x) e in
      let y = k (i + length z.us) (last_or p z.us) (after z.form) z.zs z.fits tt z.rest in
      let l : i + length z.us + length y.vs ≡ i + length (z.us ++ y.vs) = omega (arith, length-append z.us y.vs) in
      record {
        vs = z.us ++ y.vs;
        form = y.form;
        final = y.final;
        below = y.below;
        zs = y.zs;
        values = with_value h z.stands y.values;
        body = rw l at y.body;
        whole = rw (append_assoc z.us y.vs y.zs, ← y.whole) z.whole;
      }

  line_done : (q : Bool) (t s : List ℕ) (x : Tokens) → LineEnd t s → From fresh x s → From (inner q) (line x) t
  unfolding judge
  line_done q t s x h k i p (first c) ys n o e = no_way (sym o)
  line_done q t s x h k i p (after r) ys n o e =
      let l : i ≡ i + 0 = omega arith in
      record { vs = []; form = r; final = p; below = s; zs = ys; values = done h; body = rw l at (k i p (after r) ys n e); whole = refl }

  -- ---- one byte b, and the text s after it

  module _ (b : ℕ) (s : List ℕ) (a : ℕ) (ih : (n : ℕ) (m : Mode) → From m (tokens R.tabs s n (suc a) m) (drop n s)) where
    abbrev K : Rest
    K n m = tokens R.tabs s n (suc a) m

    fresh_end : (x : Ending) → EndIs b s x → From fresh (ended (λ n. K n fresh) a x) (b ∷ s)
    unfolding judge
    fresh_end (ends-in k) h i p w ys n e = passed h (ih k fresh i p w ys n e)
    fresh_end no_end h i p w ys n e = no_accept e

    inner_end : (q : Bool) (x : Ending) → EndIs b s x → From (inner q) (ended (λ n. line (K n fresh)) a x) (b ∷ s)
    inner_end q (ends-in k) h = line_done q (b ∷ s) (drop k s) (K k fresh) h (ih k fresh)
    inner_end q no_end h = no_inner q 3 a (b ∷ s)

    heads : (m : Bool) (x : HeadDigits) → HeadIs m b s x → From fresh (headed K a m x) (b ∷ s)
    unfolding judge
    heads m no_head h i p w ys n e = no_accept e
    heads m (sized v u k) h i p w ys n e =
        let z = checked_accept (λ c. judge R (K k (inner false)) i p (first c)) a (headed_at m v) u (bare (K k (inner false))) i (dif_before w) ys e in
        let y = ih k (inner false) i p (first (dif_before w)) ys n z.1 z.2 in
        rw y.whole (row h (belongs (dif_before w) i) z.0 y.values (ends y.form) y.body)

    opens : (c : Byte) → Back R.tabs b c → From fresh (opening K a s c) (b ∷ s)
    unfolding opening
    opens (digit d) h = heads false (thousandths s (digits s 6 d 0)) (unsigned_is d b s h.0 h.1)
    opens (lead k d) h = no_fresh 4 a (b ∷ s)
    opens (sign m) h = heads m (thousandths s (some (digits s 7 0 0))) (signed-head R.tabs m b s h)
    opens quest h = no_fresh 4 a (b ∷ s)
    opens blank h = λ i p w ys n e. indent h (ih 0 fresh i p w ys n e)
    opens point h = no_fresh 3 a (b ∷ s)
    opens lf h = fresh_end (ending lf s) (ending_is R.tabs b s lf h)
    opens cr h = fresh_end (ending cr s) (ending_is R.tabs b s cr h)
    opens dollar h = fresh_end (ending dollar s) (ending_is R.tabs b s dollar h)
    opens other h = no_fresh 3 a (b ∷ s)

    values : (q : Bool) (f : ℕ → Value) (x : Run) → ValueIs q f b s x → From (inner q) (valued K a f x) (b ∷ s)
    values q f long h = no_inner q 5 a (b ∷ s)
    values q f (run v j) h = after_value q a (f v) (b ∷ s) (drop j s) (K j (inner false)) h (ih j (inner false))

    insides : (q : Bool) (c : Byte) → Back R.tabs b c → From (inner q) (inside K a s q c) (b ∷ s)
    unfolding inside
    insides true (digit d) h = values true (own false) (digits s 9 d 0) (plain_is d b s h.0 h.1)
    insides false (digit d) h = no_inner false 5 a (b ∷ s)
    insides q (lead k d) h = values q (value_of k) (digits s (room k d) d 0) (packed_is q k d b s h)
    insides q (sign m) h = values q (own m) (some (digits s 10 0 0)) (signed_is R.tabs q m b s h)
    insides q quest h = after_value q a gap (b ∷ s) s (K 0 (inner false)) (rw h missing) (ih 0 (inner false))
    insides q blank h = λ i p w ys n o e.
        let y = ih 0 (inner true) i p w ys n o e in
        record { vs = y.vs; form = y.form; final = y.final; below = y.below; zs = y.zs; values = with-blank h y.values; body = y.body; whole = y.whole }
    insides q point h = no_inner q 3 a (b ∷ s)
    insides q lf h = inner_end q (ending lf s) (ending_is R.tabs b s lf h)
    insides q cr h = inner_end q (ending cr s) (ending_is R.tabs b s cr h)
    insides q dollar h = inner_end q (ending dollar s) (ending_is R.tabs b s dollar h)
    insides q other h = no_inner q 3 a (b ∷ s)

    steps : (m : Mode) (c : Byte) → Back R.tabs b c → From m (step K a s m c) (b ∷ s)
    unfolding step
    steps fresh c h = opens c h
    steps (inner q) c h = insides q c h

  -- ---- whole texts

  at_over : (a : ℕ) → From fresh (over a) []
  unfolding judge
  at_over a i p w ys n e = let z = finish_accept a i (dif_before w) ys n e in rw (z.0, z.1, z.2) end

  at_stop : (a : ℕ) (m : Mode) → From m (stop a m) []
  unfolding stop
  at_stop a fresh = at_over a
  at_stop a (inner q) = line_done q [] [] (over a) end_over (at_over a)

  sound : (s : List ℕ) (n a : ℕ) (m : Mode) → From m (tokens R.tabs s n a m) (drop n s)
  unfolding tokens
  sound [] zero a m = at_stop a m
  sound [] (suc n) a m = at_stop a m
  sound (b ∷ s) zero a m = steps b s a (λ n x. sound s n (suc a) x) m (kind R.tabs b) (kind_back R.tabs b)
  sound (b ∷ s) (suc n) a m = sound s n (suc a) m

  -- lines that are read as ordinates after i points, the last of them p, are a body from there
  pub body_sound : {i p : ℕ} {ys t : List ℕ} (a : ℕ) (w : Spot) → i ≤ R.points → judge R (tokens R.tabs t 0 a fresh) i p w ≡ accept ys → Body R i p (dif_before w) ys t
  body_sound {i} {p} {ys} {t} a w l e = sound t 0 a fresh i p w ys l e

  pub read_sound : (s ys : List ℕ) → read R s ≡ accept ys → Spells R ys s
  unfolding read read_lines
  read_sound s ys e =
      let z = sooner_accept (long_line true 0 s) (read_lines R s) ys e in
      record { body = body_sound 0 (after Own) (omega arith) z.1; short = short_spelled 0 s z.0 }

  -- no table spells two lists
  pub spells_unique : (s ys zs : List ℕ) → Spells R ys s → Spells R zs s → ys ≡ zs
  spells_unique s ys zs g h = let e = complete R ys s g in let f = complete R zs s h in cc
