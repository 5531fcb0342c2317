-- The turns of finding the data blocks of a file: no place of the code is named here.
use mathlib.Core.Path.{◌≡◌, refl, ap, sym, ◌∙◌}
use mathlib.Core.Bool.{Bool, true, false}
use mathlib.Core.List.{List, [], ◌∷◌}
use Prim.Native.Nat.{ℕ, ◌+◌, ◌/◌, ◌<◌, ◌≤◌}
use native.Mathlib.Omega.{arith}
use lib.Dec.{eqb}
use lib.ListN.{length}
use lib.Seq.{sets, take_all, length-sets}
use borrow.Author.Tests.{eq-eqb, ne_eqb, le-leb}
use Rattle.terms.specs.Logic.{pick, zero_one, ok_same}
use Rattle.terms.specs.Refusals.{fault_at, refusal_in}
use Rattle.terms.specs.declared.Fault.{Fault}
use Rattle.terms.specs.declared.Refusal.{Refusal}
use Rattle.label_spec.specs.Labels.{from}
use Rattle.label_spec.specs.File.{longest_file, opened}
use Rattle.label_spec.specs.declared.Span.{Span}
use Rattle.file_spec.specs.Texts.{text_in, mark_of}
use Rattle.file_spec.specs.Figures.{count_in}
use Rattle.compound_spec.specs.declared.Block.{Block}
use Rattle.compound_spec.specs.declared.Own.{Own}
use Rattle.compound_spec.specs.Blocks.{Level, Survey, refused, ended, within_title, surveyed}
use Rattle.compound_spec.specs.Compound.{BlocksAnswer, refuse_blocks, one_block, all_blocks, by_count, by_blocks, by_survey, find_blocks}
use Rattle.compound_spec.specs.Answers.{entries, laid}
use Rattle.compound_law.specs.Plain.{Promised}
use Rattle.compound_law.specs.Found.{found}
use Rattle.compound_law.specs.Flat.{plain, flat}
use Rattle.compound_law.proofs.Flat.{flat_is}
use Rattle.compound_survey.specs.Told.{own_of, told, Surveys}
use Rattle.compound_find.specs.Answers.{FindsBlocks, count_on, counted_by, blocks_on, judged_by, Stores}
use Rattle.std.specs.Prelude.{Option, Some, None, Result, Ok, Err}
use Rattle.decimal_spec.specs.declared.Count.{Count}
use Rattle.compound_spec.specs.declared.Blocks.{Blocks}
use Rattle.label_spec.specs.Parts.{span_of, edges_with}
use Rattle.decimal_spec.specs.Parts.{count_with}
use Rattle.compound_spec.specs.Parts.{surveyed_with}

-- ---- `judge_count`, `judge_whole`

module _ (s : List ℕ) (t : Span) (n : ℕ) where
  pub count_bad : (c : Option Count) → c ≡ count_in (text_in s t) → c ≡ None → (p : ℕ) → p ≡ mark_of s t → (r : Result Blocks Fault) → r ≡ Err (fault_at 32 p) → r ≡ counted_by s t n
  unfolding counted_by
  count_bad c e f p g r h = rw (sym e ∙ f, ← g) h

  module _ (c : Option Count) (e : c ≡ count_in (text_in s t)) (v j : ℕ) (f : c ≡ Some (count_with v j)) where
    pub count_right : v ≡ n → Ok (Blocks.Compound n) ≡ counted_by s t n
    unfolding counted_by
    count_right g = rw (sym e ∙ f, eq-eqb v n g) refl

    pub count_wrong : (v ≡ n → ⊥) → (p : ℕ) → p ≡ mark_of s t → (r : Result Blocks Fault) → r ≡ Err (fault_at 32 p) → r ≡ counted_by s t n
    unfolding counted_by
    count_wrong g p k r h = rw (sym e ∙ f, ne_eqb v n g, ← k) h

module _ (s : List ℕ) (end : ℕ) (o : Own) (n : ℕ) where
  pub whole_one : o.link ≡ false → Ok Blocks.One ≡ judged_by s end o n
  unfolding judged_by
  whole_one h = rw h refl

  module _ (h : o.link ≡ true) (x : Option Span) (e : o.blocks ≡ x) where
    pub whole_absent : x ≡ None → (r : Result Blocks Fault) → r ≡ Err (fault_at 25 end) → r ≡ judged_by s end o n
    unfolding judged_by
    whole_absent f r g = rw (h, e, f) g

    pub whole_text : (a b : ℕ) → x ≡ Some (span_of a b) → (r : Result Blocks Fault) → r ≡ counted_by s (span_of a b) n → r ≡ judged_by s end o n
    unfolding judged_by
    whole_text a b f r g = rw (h, e, f) g

-- a compound file has as many data blocks as were counted
count_counts : (s : List ℕ) (t : Span) (n k : ℕ) (c : Option Count) → Ok (Blocks.Compound k) ≡ count_on s t n c → k ≡ n
count_counts s t n k None e = zero_one cc
count_counts s t n k (Some x) e = cases (eqb x.value n) e
  where
    cases : (q : Bool) → Ok (Blocks.Compound k) ≡ pick q (Ok (Blocks.Compound n)) (Err (fault_at 32 (mark_of s t))) → k ≡ n
    cases true f = cc
    cases false f = zero_one cc

blocks_count : (s : List ℕ) (end n k : ℕ) (x : Option Span) → Ok (Blocks.Compound k) ≡ blocks_on s end n x → k ≡ n
unfolding counted_by
blocks_count s end n k None e = zero_one cc
blocks_count s end n k (Some x) e = count_counts s x n k (count_in (text_in s x)) e

whole_counts : (s : List ℕ) (end : ℕ) (o : Own) (n k : ℕ) → Ok (Blocks.Compound k) ≡ judged_by s end o n → k ≡ n
unfolding judged_by
whole_counts s end o n k e = cases o.link e
  where
    cases : (q : Bool) → Ok (Blocks.Compound k) ≡ pick q (blocks_on s end n o.blocks) (Ok Blocks.One) → k ≡ n
    cases true f = blocks_count s end n k o.blocks f
    cases false f = zero_one cc

-- ---- `store_fitting`

module _ (s out : List ℕ) (m e n : ℕ) (out' : List ℕ) where
  pub stores_all : n ≤ length out / 4 → out' ≡ sets out 0 (entries s (flat s (from s (e + 1) false) n (plain m e))) → Stores s out m e n out'
  unfolding laid
  stores_all h g =
      record {
        law = λ bs k f. g ∙ rw (f n (omega arith), take_all n bs (omega arith), take_all (length out / 4) bs (omega arith)) refl;
        same = ap (λ (l : List ℕ). length l) g ∙ length-sets out 0 (entries s (flat s (from s (e + 1) false) n (plain m e)));
      }

  pub stores_some : length out / 4 < n → out' ≡ sets out 0 (entries s (flat s (from s (e + 1) false) (length out / 4) (plain m e))) → Stores s out m e n out'
  unfolding laid
  stores_some h g =
      record {
        law = λ bs k f. g ∙ rw (f (length out / 4) (omega arith)) refl;
        same = ap (λ (l : List ℕ). length l) g ∙ length-sets out 0 (entries s (flat s (from s (e + 1) false) (length out / 4) (plain m e)));
      }

-- ---- `find_blocks`

-- what the answer of the survey stands for
record Known (s : List ℕ) (o : Block) (w : Own) (n : ℕ) : Type 0 where
  level : Level
  blocks : List Block
  is : surveyed s ≡ ended level o blocks
  own : w ≡ own_of level
  count : n ≡ length blocks

known : (s : List ℕ) (o : Block) (w : Own) (n : ℕ) (r : Survey) → surveyed s ≡ r → Ok (surveyed_with o w n) ≡ told r → Known s o w n
known s o w n (refused c a) e f = zero_one cc
known s o w n (ended l b bs) e f =
    let same = ok_same f in
    let x = ap (λ r. r.outermost) same in
    let y = ap (λ r. r.own) same in
    let z = ap (λ r. r.count) same in
    record { level = l; blocks = bs; is = rw x e; own = y; count = z }

-- the answer for each case of the whole
abbrev answer_of : Block → List Block → Result Blocks Fault → BlocksAnswer
answer_of o bs (Err f) = refuse_blocks f.number f.place
answer_of o bs (Ok Blocks.One) = one_block o
answer_of o bs (Ok (Blocks.Compound n)) = all_blocks bs

module _ (s : List ℕ) (l : Level) (o : Block) (bs : List Block) where
  count_is : (a b : ℕ) (c : Option Count) → count_in (text_in s (span_of a b)) ≡ c → by_count s (span_of a b) bs c ≡ answer_of o bs (counted_by s (span_of a b) (length bs))
  unfolding by_count counted_by
  count_is a b None e = rw e refl
  count_is a b (Some x) e = rw e (cases (eqb x.value (length bs)))
    where
      cases : (t : Bool) → pick t (all_blocks bs) (refuse_blocks 32 (mark_of s (span_of a b))) ≡ answer_of o bs (pick t (Ok (Blocks.Compound (length bs))) (Err (fault_at 32 (mark_of s (span_of a b)))))
      cases true = refl
      cases false = refl

  blocks_is : (f : Option Span) → by_blocks s o bs f ≡ answer_of o bs (blocks_on s o.end (length bs) f)
  unfolding by_blocks
  blocks_is None = refl
  blocks_is (Some x) = count_is x.from x.to (count_in (text_in s x)) refl

  whole_is : by_survey s (ended l o bs) ≡ answer_of o bs (judged_by s o.end (own_of l) (length bs))
  unfolding by_survey judged_by
  whole_is = cases l.link
    where
      cases : (t : Bool) → pick t (by_blocks s o bs l.blocks) (one_block o) ≡ answer_of o bs (pick t (blocks_on s o.end (length bs) l.blocks) (Ok Blocks.One))
      cases true = blocks_is l.blocks
      cases false = refl

  -- only a block that is not LINK is the one data block
  not_counted : (a b : ℕ) (c : Option Count) → one_block o ≡ by_count s (span_of a b) bs c → true ≡ false
  unfolding by_count
  not_counted a b None g = zero_one cc
  not_counted a b (Some x) g = cases (eqb x.value (length bs)) g
    where
      cases : (t : Bool) → one_block o ≡ pick t (all_blocks bs) (refuse_blocks 32 (mark_of s (span_of a b))) → true ≡ false
      cases true k = zero_one cc
      cases false k = zero_one cc

  not_linked : (f : Option Span) → one_block o ≡ by_blocks s o bs f → true ≡ false
  unfolding by_blocks
  not_linked None g = zero_one cc
  not_linked (Some x) g = not_counted x.from x.to (count_in (text_in s x)) g

  unlinked : one_block o ≡ by_survey s (ended l o bs) → l.link ≡ false
  unfolding by_survey
  unlinked h = cases l.link h
    where
      cases : (t : Bool) → one_block o ≡ pick t (by_blocks s o bs l.blocks) (one_block o) → t ≡ false
      cases true g = not_linked l.blocks g
      cases false g = refl

found_known : (s : List ℕ) (o : Block) (w : Own) (n : ℕ) (k : Known s o w n) → find_blocks s ≡ answer_of o k.blocks (judged_by s o.end w n)
unfolding find_blocks
found_known s o w n k = rw (k.is, k.own, k.count) (whole_is s k.level o k.blocks)

promised_one : (s : List ℕ) (l : Level) (o : Block) (bs : List Block) (r : Survey) → r ≡ ended l o bs → Promised s false r → l.link ≡ false → bs ≡ o ∷ []
promised_one s l o bs r e p h = (rw e at p).2 h

module _ (s out : List ℕ) where
  pub found_refused : (f : Fault) → Surveys s (Err f) → (q : Refusal) → q ≡ refusal_in s f.number f.place → FindsBlocks s out out (Err q)
  found_refused f x q h = cases (surveyed s) refl x.answers
    where
      cases : (r : Survey) → surveyed s ≡ r → Err f ≡ told r → FindsBlocks s out out (Err q)
      cases (ended l o bs) e g = zero_one cc
      cases (refused c a) e g =
          let y : f ≡ fault_at c a = cc in
          let z : find_blocks s ≡ refuse_blocks c a = (unfold find_blocks by_survey in rw e refl) in
          record { answers = rw (z, h, y) refl; leaves = rw z refl }

  module _ (o : Block) (w : Own) (n : ℕ) (x : Surveys s (Ok (surveyed_with o w n))) where
    is : Known s o w n
    is = known s o w n (surveyed s) refl x.answers

    judged : (r : Result Blocks Fault) → r ≡ judged_by s o.end w n → find_blocks s ≡ answer_of o is.blocks r
    judged r e = rw e (found_known s o w n is)

    within : within_title s (Ok (edges_with o.title o.eq)) ≡ ended is.level o is.blocks
    within = rw x.places.5 (short ∙ is.is)
      where
        short : within_title s (opened s) ≡ surveyed s
        short = unfold surveyed in rw (le-leb (length s) longest_file x.places.4) refl

    stored : (out' : List ℕ) → Stores s out o.title o.eq n out' → out' ≡ laid s out is.blocks
    stored out' g = g.law is.blocks is.count (flat_is s o.title o.eq is.level o is.blocks within)

    pub found_fault : (f : Fault) → Err f ≡ judged_by s o.end w n → (q : Refusal) → q ≡ refusal_in s f.number f.place → FindsBlocks s out out (Err q)
    found_fault f e q h = let z = judged (Err f) e in record { answers = rw (z, h) refl; leaves = rw z refl }

    found_all : (k : ℕ) → Ok (Blocks.Compound k) ≡ judged_by s o.end w n → (out' : List ℕ) → Stores s out o.title o.eq n out' → FindsBlocks s out out' (Ok (Blocks.Compound k))
    found_all k e out' g =
        let z = judged (Ok (Blocks.Compound k)) e in
        record { answers = rw (whole_counts s o.end w n k e, is.count, z) refl; leaves = rw z (stored out' g) }

    found_one : Ok Blocks.One ≡ judged_by s o.end w n → (out' : List ℕ) → Stores s out o.title o.eq n out' → FindsBlocks s out out' (Ok Blocks.One)
    unfolding find_blocks
    found_one e out' g =
        let z = judged (Ok Blocks.One) e in
        let k = unlinked s is.level o is.blocks (sym (rw is.is at z)) in
        let b = promised_one s is.level o is.blocks (surveyed s) is.is (found s) k in
        record { answers = rw z refl; leaves = rw z (rw b at (stored out' g)) }

    pub found_whole : (b : Blocks) → Ok b ≡ judged_by s o.end w n → (out' : List ℕ) → Stores s out o.title o.eq n out' → FindsBlocks s out out' (Ok b)
    found_whole Blocks.One e out' g = found_one e out' g
    found_whole (Blocks.Compound k) e out' g = found_all k e out' g
