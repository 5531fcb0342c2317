-- 02, T-07: "If the whole file is not refused, a data block cut out as a file must read exactly as it does in place, places shifted (1 and 2 at 0)".
use Rattle.std.specs.Prelude.{◌≡◌, Bool, true, false, List, [], ◌∷◌, ◌++◌, ℕ, ◌+◌, ◌-◌, ◌<◌, ◌≤◌, eqb, length, get_or, take, drop, Option, Some, None, Result, Ok, Err}
use Rattle.std.proofs.Math.Path.{refl}
use Rattle.std.proofs.Common.{sym, ◌∙◌, inl, inr, arith, add-zero, length-take, length-drop, drop-drop}
use Rattle.std.proofs.Math.Nat.{add_assoc}
use Rattle.std.proofs.Math.Numerals.{add-one}
use borrow.Author.Tests.{le-leb, lt-ltb, eqb-true}
use Rattle.terms.specs.Logic.{pick, no_way}
use Rattle.label_spec.specs.Names.{blank, sames, TITLE}
use Rattle.label_spec.specs.Labels.{Walk, over, bad, label, walk, from, hashed}
use Rattle.label_spec.specs.LabelLaws.{hash_in}
use Rattle.label_spec.specs.Space.{space, opens, past_space}
use Rattle.label_spec.specs.SpaceLaws.{past_stop}
use Rattle.label_spec.specs.File.{longest_file, titled, opened_at, opened, placed, after_title, labelled}
use Rattle.label_spec.specs.Records.{mark_of, record_of, as_record, record_in, record_for}
use Rattle.file_spec.specs.Texts.{XFACTOR, YFACTOR, FIRSTX, LASTX, NPOINTS, FIRSTY, XYDATA, text_of, gathered_from}
use Rattle.file_spec.specs.File.{by_records, labels_by, read_file_by, read_file}
use Rattle.compound_spec.specs.declared.Block.{Block}
use Rattle.compound_spec.specs.Compound.{CompoundAnswer, in_place, in_block, read_compound}
use Rattle.compound_spec.specs.Cut.{rest_of_line, end_of, cut_out, shifted}
use Rattle.compound_spec.specs.Answers.{record_in_block}
use Rattle.compound_law.specs.Shift.{shift}
use Rattle.compound_law.specs.Graft.{graft}
use Rattle.compound_law.specs.Standing.{Sound, sound}
use Rattle.compound_law.specs.Above.{Above, walk_above, from_above}
use Rattle.compound_law.specs.Lines.{Cut, cut_at, cut_holds, same_text, cut_walk}
use Rattle.compound_law.specs.Plain.{Plain, plain_judged, DataBlock}
use Rattle.compound_law.specs.Old.{link_after, is_compound, old_answers, plain_silent}
use Rattle.compound_law.specs.Carry.{shift_found, found_in, pick_found, next_mark, plain_cut, record_cut, record_in_lem}
use Rattle.compound_law.specs.Gather.{shift_gathered, GatheredIn, with_text_lem, with_in, records_cut}
use Rattle.label_spec.specs.declared.Span.{Span}
use Rattle.terms.specs.declared.Refusal.{Refusal}
use Rattle.label_spec.specs.Parts.{span_of, edges_with, places_with}

-- A record of a file, further on by d.
abbrev pub shift_record : ℕ → Result (Option Span) Refusal → Result (Option Span) Refusal
shift_record d (Ok (Some x)) = Ok (Some (span_of (d + x.from) (d + x.to)))
shift_record d (Ok None) = Ok None
shift_record d (Err r) = Err r

as_shifted : (d : ℕ) (f : Option Span) → as_record (shift_found d f) ≡ shift_record d (as_record f)
unfolding as_record
as_shifted d (Some x) = refl
as_shifted d None = refl

-- The cut begins with its TITLE.
record TitleOf (u : List ℕ) (k : Walk) (m e : ℕ) (v : List ℕ) : Type 0 where
  text : ℕ
  eq : ℕ
  after : Walk
  at : k ≡ label 0 text eq v after
  hash : hashed u 0 ≡ true
  place : m + eq ≡ e
  high : eq < length u

not_there : (len m n e : ℕ) (v : List ℕ) (rest k : Walk) → Above len k → 0 < len → shift m k ≡ label m n e v rest → ⊥
not_there len m n e v rest over a h g = let z : ◌≡◌ {A = ℕ} 0 1 = cc in omega arith
not_there len m n e v rest (bad y r) a h g = let z : ◌≡◌ {A = ℕ} 0 1 = cc in omega arith
not_there len m n e v rest (label y c d w r) a h g = let z : m + y ≡ m = cc in omega (arith, a.0)

title_here : (u : List ℕ) (m n e : ℕ) (v : List ℕ) (rest k b : Walk) → Above (length u) k → 0 < length u → Sound u b → shift m (graft b k) ≡ label m n e v rest → TitleOf u b m e v
title_here u m n e v rest k over a h d g = absurd (not_there (length u) m n e v rest k a h g)
title_here u m n e v rest k (bad y r) a h d g = absurd (let z : ◌≡◌ {A = ℕ} 0 1 = cc in omega arith)
title_here u m n e v rest k (label y c f w r) a h d g =
    let z : m + y ≡ m = cc in
    let o : y ≡ 0 = omega arith in
    let t : w ≡ v = cc in
    let p : m + f ≡ e = cc in
    record { text = c; eq = f; after = r; at = rw (o, t) refl; hash = rw o at d.0.hash; place = p; high = d.0.high }

-- No blank stands before a `##`.
left : (t q : Bool) → pick t q false ≡ true → t ≡ true
left true q h = refl
left false q h = no_way h

nothing_before : (u : List ℕ) → hashed u 0 ≡ true → past_space u 0 ≡ 0
unfolding hashed
nothing_before u h =
    let e : get_or u 0 0 ≡ 35 = eqb-true (get_or u 0 0) 35 (left (eqb (get_or u 0 0) 35) (eqb (get_or u 1 0) 35) h) in
    past_stop u 0 (omega (arith, hash_in u 0 h)) (rw e (unfold space blank in refl)) (rw e (unfold opens in refl))

opened_cut : (u : List ℕ) (k : Walk) (m e : ℕ) (v : List ℕ) → from u 0 true ≡ k → sames v TITLE ≡ true → (t : TitleOf u k m e v) → opened u ≡ Ok (edges_with 0 t.eq)
unfolding opened opened_at titled
opened_cut u k m e v f g t = rw (nothing_before u t.hash, t.hash, f, t.at, g) refl

-- Places of END.
plain_low : (s : List ℕ) (done : List (List ℕ)) (lo x q : ℕ) (k : Walk) → Above lo k → Plain s done k x q → lo ≤ x
plain_low s done lo x q over a p = absurd p
plain_low s done lo x q (bad y rest) a p = absurd p
plain_low s done lo x q (label y n e v rest) a (inl p) = omega (arith, a.0, p.mark)
plain_low s done lo x q (label y n e v rest) a (inr p) = plain_low s (done ++ v ∷ []) lo x q rest a.1 p.1

plain_high : (s : List ℕ) (done : List (List ℕ)) (x q : ℕ) (k : Walk) → Sound s k → Plain s done k x q → (x + 2 ≤ q) × (q < length s)
plain_high s done x q over d p = absurd p
plain_high s done x q (bad y rest) d p = absurd p
plain_high s done x q (label y n e v rest) d (inl p) = (omega (arith, d.0.low, p.mark, p.eq), omega (arith, d.0.high, p.eq))
plain_high s done x q (label y n e v rest) d (inr p) = plain_high s (done ++ v ∷ []) x q rest d.1 p.1

-- The file s holds the cut u from m on, with w after it. In the cut TITLE's `=` stands at e, END's `##` at x and its `=` at q.
module _ (s : List ℕ) (m : ℕ) (u w : List ℕ) (c : Cut (drop m s) u w) (fits : m + length u ≤ length s) (e x q : ℕ)
    (in_u : e + 1 < length u) (end_u : x < length u) (p : Plain s [] (from s (m + (e + 1)) false) (m + x) (m + q)) where
  there : Plain s [] (shift m (graft (from u (e + 1) false) (walk w (length u) true))) (m + x) (m + q)
  there = rw (cut_walk s m u w c (e + 1) false in_u) at p

  pub labels_cut : Plain u [] (from u (e + 1) false) x q
  labels_cut = plain_cut s u m (walk w (length u) true) x q (same_text s m u w c) (walk_above w (length u) true) end_u [] (from u (e + 1) false) (sound u (e + 1) false) there

  text_cut : (v : List ℕ) → text_of s (m + (e + 1)) (m + x) v ≡ shift_found m (text_of u (e + 1) x v)
  text_cut v =
      rw (cut_walk s m u w c (e + 1) false in_u)
      (record_cut s u m (walk w (length u) true) x q (same_text s m u w c) (walk_above w (length u) true) end_u v [] (from u (e + 1) false) (sound u (e + 1) false) there)

  text_in : (v : List ℕ) → found_in (length u) (text_of u (e + 1) x v)
  text_in v = record_in_lem u v x q [] (from u (e + 1) false) (sound u (e + 1) false) labels_cut

  gathered_cut : gathered_from s (m + (e + 1)) (m + x) ≡ shift_gathered m (gathered_from u (e + 1) x)
  unfolding gathered_from
  gathered_cut =
      rw (text_cut XFACTOR, text_cut YFACTOR, text_cut FIRSTX, text_cut LASTX, text_cut NPOINTS, text_cut FIRSTY, text_cut XYDATA)
      (with_text_lem m (text_of u (e + 1) x XFACTOR) _ _ (λ xf. with_text_lem m (text_of u (e + 1) x YFACTOR) _ _ (λ yf. with_text_lem m (text_of u (e + 1) x FIRSTX) _ _ (λ fx.
      with_text_lem m (text_of u (e + 1) x LASTX) _ _ (λ lx. with_text_lem m (text_of u (e + 1) x NPOINTS) _ _ (λ np. with_text_lem m (text_of u (e + 1) x FIRSTY) _ _ (λ fy.
      with_text_lem m (text_of u (e + 1) x XYDATA) _ _ (λ xy. refl))))))))

  gathered_in : GatheredIn (length u) (gathered_from u (e + 1) x)
  unfolding gathered_from
  gathered_in =
      with_in (length u) (text_of u (e + 1) x XFACTOR) _ (text_in XFACTOR) (λ xf i1. with_in (length u) (text_of u (e + 1) x YFACTOR) _ (text_in YFACTOR) (λ yf i2.
      with_in (length u) (text_of u (e + 1) x FIRSTX) _ (text_in FIRSTX) (λ fx i3. with_in (length u) (text_of u (e + 1) x LASTX) _ (text_in LASTX) (λ lx i4.
      with_in (length u) (text_of u (e + 1) x NPOINTS) _ (text_in NPOINTS) (λ np i5. with_in (length u) (text_of u (e + 1) x FIRSTY) _ (text_in FIRSTY) (λ fy i6.
      with_in (length u) (text_of u (e + 1) x XYDATA) _ (text_in XYDATA) (λ xy i7.
      record { xfactor = i1; yfactor = i2; firstx = i3; lastx = i4; npoints = i5; firsty = i6; xydata = i7 })))))))

  pub place_cut : (space : ℕ) → by_records s space (m + x) (gathered_from s (m + (e + 1)) (m + x)) ≡ shifted m (by_records u space x (gathered_from u (e + 1) x))
  place_cut space = rw gathered_cut (records_cut s u m (same_text s m u w c) space x (gathered_from u (e + 1) x) gathered_in)

  -- A record whose label stands in front of these, its `##` at m.
  mark_there : mark_of (length s) (from s (m + (e + 1)) false) ≡ m + mark_of (length u) (from u (e + 1) false)
  mark_there =
      rw (cut_walk s m u w c (e + 1) false in_u)
      (next_mark s u m (walk w (length u) true) x q (same_text s m u w c) (walk_above w (length u) true) end_u [] (from u (e + 1) false) (sound u (e + 1) false) there).0

  pub first_cut : 0 < x → (a b : ℕ) (v k : List ℕ)
      → record_of (length s) (m + x) k (label m a (m + e) v (from s (m + (e + 1)) false)) ≡ shift_found m (record_of (length u) x k (label 0 b e v (from u (e + 1) false)))
  unfolding record_of
  first_cut h a b v k =
      rw (lt-ltb m (m + x) (omega arith), lt-ltb 0 x h, mark_there, text_cut k, add_assoc m e 1)
      (pick_found m (sames v k) (Some (span_of (e + 1) (mark_of (length u) (from u (e + 1) false)))) (record_of (length u) x k (from u (e + 1) false)))

-- What the labels of the cut say.
labelled_cut : (u : List ℕ) (e x q : ℕ) → length u ≤ longest_file → opened u ≡ Ok (edges_with 0 e) → Plain u [] (from u (e + 1) false) x q → labelled u ≡ Ok (places_with 0 e x)
unfolding labelled after_title placed
labelled_cut u e x q h o p = rw (le-leb (length u) longest_file h, o, plain_judged u (length u) [] (from u (e + 1) false) x q p) refl

-- What the simple reader makes of the cut.
read_cut : (u : List ℕ) (space e x q : ℕ) → length u ≤ longest_file → opened u ≡ Ok (edges_with 0 e) → Plain u [] (from u (e + 1) false) x q
    → read_file u space ≡ by_records u space x (gathered_from u (e + 1) x)
unfolding read_file_by labelled after_title placed labels_by
read_cut u space e x q h o p =
    rw (le-leb (length u) longest_file h, o, plain_judged u (length u) [] (from u (e + 1) false) x q p, add-one e) refl

-- The cut is one data block: the reader of compound files answers it as the simple one does.
silent_cut : (u : List ℕ) (e x q : ℕ) → opened u ≡ Ok (edges_with 0 e) → Plain u [] (from u (e + 1) false) x q → is_compound u ≡ false
unfolding is_compound link_after
silent_cut u e x q o p = rw o (plain_silent u [] (from u (e + 1) false) x q p)

alone_cut : (u : List ℕ) (space e x q : ℕ) → opened u ≡ Ok (edges_with 0 e) → Plain u [] (from u (e + 1) false) x q → read_compound u space ≡ CompoundAnswer.whole (read_file u space)
alone_cut u space e x q o p = old_answers u space (silent_cut u e x q o p)

-- The bounds of a data block in its file.
pub record Bounds (s : List ℕ) (b : Block) : Type 0 where
  pub open_low : b.title + 2 ≤ b.eq
  pub close_low : b.eq + 1 ≤ b.end
  pub close_high : b.end + 2 ≤ b.last
  pub inside : b.last < length s

pub bounds : (s : List ℕ) (b : Block) → DataBlock s b → Bounds s b
bounds s b d =
    let t = rw d.at at (sound s b.title true) in
    let h = plain_high s [] b.end b.last (from s (b.eq + 1) false) (sound s (b.eq + 1) false) d.labels in
    record {
      open_low = t.0.low;
      close_low = plain_low s [] (b.eq + 1) b.end b.last (from s (b.eq + 1) false) (from_above s (b.eq + 1) false) d.labels;
      close_high = h.0;
      inside = h.1;
    }

module _ (s : List ℕ) (b : Block) (d : DataBlock s b) (i : Bounds s b) (u w : List ℕ) (c : Cut (drop b.title s) u w)
    (fits : b.title + length u ≤ length s) (holds : b.last - b.title < length u) where
  title_cut : TitleOf u (from u 0 true) b.title b.eq d.name
  title_cut =
      let g = rw (add-zero b.title) at (cut_walk s b.title u w c 0 true (omega arith)) in
      title_here u b.title d.text b.eq d.name (from s (b.eq + 1) false) (walk w (length u) true) (from u 0 true)
      (walk_above w (length u) true) (omega arith) (sound u 0 true) (sym g ∙ d.at)

  start_is : b.title + (title_cut.eq + 1) ≡ b.eq + 1
  start_is = omega (arith, title_cut.place)

  end_is : b.title + (b.end - b.title) ≡ b.end
  end_is = omega (arith, i.open_low, i.close_low)

  last_is : b.title + (b.last - b.title) ≡ b.last
  last_is = omega (arith, i.open_low, i.close_low, i.close_high)

  in_cut : title_cut.eq + 1 < length u
  in_cut = omega (arith, title_cut.place, i.open_low, i.close_low, i.close_high)

  end_cut : b.end - b.title < length u
  end_cut = omega (arith, i.open_low, i.close_low, i.close_high)

  labels_there : Plain s [] (from s (b.title + (title_cut.eq + 1)) false) (b.title + (b.end - b.title)) (b.title + (b.last - b.title))
  labels_there = rw (start_is, end_is, last_is) d.labels

  whole_cut : (space : ℕ) → length s ≤ longest_file → in_block s space b ≡ shifted b.title (read_file u space)
  unfolding in_place
  whole_cut space h =
      let p = place_cut s b.title u w c fits title_cut.eq (b.end - b.title) (b.last - b.title) in_cut end_cut labels_there space in
      let l = labels_cut s b.title u w c fits title_cut.eq (b.end - b.title) (b.last - b.title) in_cut end_cut labels_there in
      let o = opened_cut u (from u 0 true) b.title b.eq d.name refl d.is_title title_cut in
      let r = read_cut u space title_cut.eq (b.end - b.title) (b.last - b.title) (omega arith) o l in
      rw (← add-one b.eq, r) (rw (start_is, end_is) at p)

  whole_alone : (space : ℕ) → read_compound u space ≡ CompoundAnswer.whole (read_file u space)
  whole_alone space =
      let l = labels_cut s b.title u w c fits title_cut.eq (b.end - b.title) (b.last - b.title) in_cut end_cut labels_there in
      let o = opened_cut u (from u 0 true) b.title b.eq d.name refl d.is_title title_cut in
      alone_cut u space title_cut.eq (b.end - b.title) (b.last - b.title) o l

  -- The record with the name k, TITLE's own among them.
  record_whole : (k : List ℕ) → record_of (length s) b.end k (from s b.title true) ≡ shift_found b.title (record_of (length u) (b.end - b.title) k (from u 0 true))
  record_whole k =
      let t = title_cut in
      let z = rw t.at at (sound u 0 true) in
      let y : b.title + t.eq ≡ b.eq = t.place in
      let f = first_cut s b.title u w c fits t.eq (b.end - b.title) (b.last - b.title) in_cut end_cut labels_there (omega (arith, i.open_low, i.close_low)) d.text t.text
      d.name k in
      rw (d.at, t.at, z.0.on) (rw (start_is, end_is, y) at f)

  record_alone : (k : List ℕ) → length s ≤ longest_file → record_in_block s b.title b.end k ≡ shift_record b.title (record_for u k)
  unfolding record_in_block record_for record_in
  record_alone k h =
      let l = labels_cut s b.title u w c fits title_cut.eq (b.end - b.title) (b.last - b.title) in_cut end_cut labels_there in
      let o = opened_cut u (from u 0 true) b.title b.eq d.name refl d.is_title title_cut in
      rw (
        le-leb (length s) longest_file h,
        le-leb b.end (length s) (omega (arith, i.close_high, i.inside)),
        lt-ltb b.title b.end (omega (arith, i.open_low, i.close_low)),
        d.hash,
        record_whole k,
        labelled_cut u title_cut.eq (b.end - b.title) (b.last - b.title) (omega arith) o l,
      ) (as_shifted b.title (record_of (length u) (b.end - b.title) k (from u 0 true)))

-- The cut is the part of the file that it is said to be.
cut_is : (s : List ℕ) (b : Block) → Bounds s b
    → cut_out s b ≡ take (b.last - b.title + rest_of_line (drop (b.last - b.title) (drop b.title s))) (drop b.title s)
unfolding cut_out end_of
cut_is s b i =
    let z : b.title + (b.last - b.title) ≡ b.last = omega (arith, i.open_low, i.close_low, i.close_high) in
    let y : b.last + rest_of_line (drop b.last s) - b.title ≡ b.last - b.title + rest_of_line (drop b.last s) = omega (arith, i.open_low, i.close_low, i.close_high) in
    rw (drop-drop (b.last - b.title) b.title s, z, y) refl

-- The theorem, for a data block of a file that is not too long.
pub cut_out_lem : (s : List ℕ) (b : Block) → DataBlock s b → length s ≤ longest_file → (space : ℕ) → in_block s space b ≡ shifted b.title (read_file (cut_out s b) space)
cut_out_lem s b d h space =
    let i = bounds s b d in
    let r = length-drop b.title s in
    let n = length-take (b.last - b.title + rest_of_line (drop (b.last - b.title) (drop b.title s))) (drop b.title s) in
    let k : b.last - b.title < length (drop b.title s) = omega (arith, i.open_low, i.close_low, i.close_high, i.inside) in
    rw (cut_is s b i) (whole_cut s b d i _ _ (cut_at (drop b.title s) (b.last - b.title)) (omega (arith, i.open_low, i.close_low, i.close_high, i.inside))
    (cut_holds (drop b.title s) (b.last - b.title) k) space h)

pub cut_alone : (s : List ℕ) (b : Block) → DataBlock s b → (space : ℕ) → read_compound (cut_out s b) space ≡ CompoundAnswer.whole (read_file (cut_out s b) space)
cut_alone s b d space =
    let i = bounds s b d in
    let r = length-drop b.title s in
    let n = length-take (b.last - b.title + rest_of_line (drop (b.last - b.title) (drop b.title s))) (drop b.title s) in
    let k : b.last - b.title < length (drop b.title s) = omega (arith, i.open_low, i.close_low, i.close_high, i.inside) in
    rw (cut_is s b i) (whole_alone s b d i _ _ (cut_at (drop b.title s) (b.last - b.title)) (omega (arith, i.open_low, i.close_low, i.close_high, i.inside))
    (cut_holds (drop b.title s) (b.last - b.title) k) space)

-- A record of a data block is that of the cut, with the same name, places shifted.
pub record_cut_out : (s : List ℕ) (b : Block) → DataBlock s b → length s ≤ longest_file → (k : List ℕ) → record_in_block s b.title b.end k ≡ shift_record b.title (record_for (cut_out s b) k)
record_cut_out s b d h k =
    let i = bounds s b d in
    let r = length-drop b.title s in
    let n = length-take (b.last - b.title + rest_of_line (drop (b.last - b.title) (drop b.title s))) (drop b.title s) in
    let z : b.last - b.title < length (drop b.title s) = omega (arith, i.open_low, i.close_low, i.close_high, i.inside) in
    rw (cut_is s b i) (record_alone s b d i _ _ (cut_at (drop b.title s) (b.last - b.title)) (omega (arith, i.open_low, i.close_low, i.close_high, i.inside))
    (cut_holds (drop b.title s) (b.last - b.title) z) k h)
