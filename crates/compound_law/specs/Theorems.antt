-- 02, T-07 "Compound files": what is proved of the definitions of compound_spec, in their words.
use Rattle.std.specs.Prelude.{◌≡◌, Bool, List, [], ◌∷◌, map, ℕ, suc, ◌≤◌, leb, length, Option, Some, None}
use Rattle.std.proofs.Math.Path.{refl}
use Rattle.std.proofs.Common.{ap, sym, ◌∙◌, arith}
use Rattle.std.proofs.Math.Bool.{true, false}
use Rattle.std.proofs.Math.Dec.{eqb}
use borrow.Author.Tests.{leb-true, eqb-true, le-leb}
use Rattle.terms.specs.Logic.{pick, zero_one}
use Rattle.label_spec.specs.File.{longest_file, opened}
use Rattle.file_spec.specs.Texts.{text_in, mark_of}
use Rattle.file_spec.specs.Figures.{count_in}
use Rattle.file_spec.specs.File.{FileAnswer, read_file}
use Rattle.compound_spec.specs.declared.Block.{Block}
use Rattle.compound_spec.specs.Blocks.{Level, Survey, refused, ended, within_title, surveyed}
use Rattle.compound_spec.specs.Compound.{BlocksAnswer, refuse_blocks, one_block, all_blocks, whole, each, in_block, answers_of, by_count, by_blocks, by_survey, find_blocks, read_compound}
use Rattle.compound_spec.specs.Cut.{cut_out, shifted}
use Rattle.compound_spec.specs.Answers.{answer, read_block}
use Rattle.compound_law.specs.Plain.{DataBlock, AllData, Promised}
use Rattle.compound_law.specs.Found.{found}
use Rattle.compound_law.specs.CutOut.{bounds, cut_out_lem, cut_alone}
use Rattle.label_spec.specs.declared.Span.{Span}
use Rattle.decimal_spec.specs.declared.Count.{Count}
use Rattle.label_spec.specs.Parts.{span_of}
use Rattle.decimal_spec.specs.Parts.{count_with}

-- "a data block cut out as a file must read exactly as it does in place, places shifted (1 and 2 at 0)": by this reader, and by the simple one
pub record ReadsAlike (s : List ℕ) (space : ℕ) (b : Block) : Type 0 where
  pub simple : in_block s space b ≡ shifted b.title (read_file (cut_out s b) space)
  pub compound : read_compound (cut_out s b) space ≡ whole (read_file (cut_out s b) space)

abbrev pub AllAlike : List ℕ → ℕ → List Block → Type 0
AllAlike s space [] = Unit
AllAlike s space (b ∷ bs) = ReadsAlike s space b × AllAlike s space bs

short : (s : List ℕ) (l : Level) (o : Block) (bs : List Block) → surveyed s ≡ ended l o bs → length s ≤ longest_file
unfolding surveyed
short s l o bs h = cases (leb (length s) longest_file) refl h
  where
    cases : (t : Bool) → leb (length s) longest_file ≡ t → pick t (within_title s (opened s)) (refused 19 0) ≡ ended l o bs → length s ≤ longest_file
    cases true e g = leb-true (length s) longest_file e
    cases false e g = zero_one cc

all_data : (s : List ℕ) (r : Survey) (l : Level) (o : Block) (bs : List Block) → r ≡ ended l o bs → Promised s false r → AllData s bs
all_data s r l o bs h p = (rw h at p).0

all_alike : (s : List ℕ) (space : ℕ) (bs : List Block) → length s ≤ longest_file → AllData s bs → AllAlike s space bs
all_alike s space [] h d = tt
all_alike s space (b ∷ bs) h d = (record { simple = cut_out_lem s b d.0 h space; compound = cut_alone s b d.0 space }, all_alike s space bs h d.1)

-- "If the whole file is not refused": each data block that the survey finds.
pub cuts : (s : List ℕ) (space : ℕ) (l : Level) (o : Block) (bs : List Block) → surveyed s ≡ ended l o bs → AllAlike s space bs
cuts s space l o bs h = all_alike s space bs (short s l o bs h) (all_data s (surveyed s) l o bs h (found s))

-- The answers of a compound file are those of its cuts, places shifted.
abbrev pub cut_answer : List ℕ → ℕ → Block → FileAnswer
cut_answer s space b = shifted b.title (read_file (cut_out s b) space)

alike_map : (s : List ℕ) (space : ℕ) (bs : List Block) → AllAlike s space bs → map (in_block s space) bs ≡ map (cut_answer s space) bs
alike_map s space [] a = refl
alike_map s space (b ∷ bs) a = rw (a.0.simple, alike_map s space bs a.1) refl

-- "BLOCKS, anywhere among the outermost block's own labels, must equal the number of data blocks": what a compound file that is not refused has.
pub record Counted (s : List ℕ) (bs : List Block) : Type 0 where
  pub own : Level
  pub outermost : Block
  pub survey : surveyed s ≡ ended own outermost bs
  pub is_link : own.link ≡ true
  pub from : ℕ
  pub to : ℕ
  pub after : ℕ
  pub text : own.blocks ≡ Some (span_of from to)
  pub count : count_in (text_in s (span_of from to)) ≡ Some (count_with (length bs) after)

module _ (s : List ℕ) (rs : List Block) (l : Level) (o : Block) (bs : List Block) (h : surveyed s ≡ ended l o bs) (k : l.link ≡ true) where
  by_count_lem : (a b : ℕ) → l.blocks ≡ Some (span_of a b) → (c : Option Count) → count_in (text_in s (span_of a b)) ≡ c → by_count s (span_of a b) bs c ≡ all_blocks rs → Counted s rs
  unfolding by_count
  by_count_lem a b t None e g = zero_one cc
  by_count_lem a b t (Some x) e g = cases (eqb x.value (length bs)) refl g
    where
      cases : (q : Bool) → eqb x.value (length bs) ≡ q → pick q (all_blocks bs) (refuse_blocks 32 (mark_of s (span_of a b))) ≡ all_blocks rs → Counted s rs
      cases true f w =
          let n = eqb-true x.value (length bs) f in
          let z : bs ≡ rs = cc in
          rw (← z) (record { own = l; outermost = o; survey = h; is_link = k; from = a; to = b; after = x.end; text = t; count = rw (← n) e })
      cases false f w = zero_one cc

  by_blocks_lem : (f : Option Span) → l.blocks ≡ f → by_blocks s o bs f ≡ all_blocks rs → Counted s rs
  unfolding by_blocks
  by_blocks_lem None e g = zero_one cc
  by_blocks_lem (Some x) e g = by_count_lem x.from x.to e (count_in (text_in s x)) refl g

by_survey_lem : (s : List ℕ) (rs : List Block) (r : Survey) → surveyed s ≡ r → by_survey s r ≡ all_blocks rs → Counted s rs
unfolding by_survey
by_survey_lem s rs (refused c a) e g = zero_one cc
by_survey_lem s rs (ended l o bs) e g = cases l.link refl g
  where
    cases : (t : Bool) → l.link ≡ t → pick t (by_blocks s o bs l.blocks) (one_block o) ≡ all_blocks rs → Counted s rs
    cases true k w = by_blocks_lem s rs l o bs e k l.blocks refl w
    cases false k w = zero_one cc

pub counted : (s : List ℕ) (bs : List Block) → find_blocks s ≡ all_blocks bs → Counted s bs
unfolding find_blocks
counted s bs h = by_survey_lem s bs (surveyed s) refl h

-- The data blocks that are found, and each of them cut out.
pub blocks_alike : (s : List ℕ) (space : ℕ) (bs : List Block) → find_blocks s ≡ all_blocks bs → AllAlike s space bs
blocks_alike s space bs h = let c = counted s bs h in cuts s space c.own c.outermost bs c.survey

-- The answers of a compound file are those of its data blocks, each cut out as a file.
pub as_cut : (s : List ℕ) (space : ℕ) (rs : List FileAnswer) → read_compound s space ≡ each rs → (bs : List Block) × (find_blocks s ≡ all_blocks bs) × (rs ≡ map (cut_answer s space) bs)
unfolding read_compound
as_cut s space rs h = cases (find_blocks s) refl h
  where
    cases : (r : BlocksAnswer) → find_blocks s ≡ r → answers_of s space r ≡ each rs → (bs : List Block) × (find_blocks s ≡ all_blocks bs) × (rs ≡ map (cut_answer s space) bs)
    cases (refuse_blocks c a) e g = zero_one cc
    cases (one_block b) e g = zero_one cc
    cases (all_blocks bs) e g = let z : map (in_block s space) bs ≡ rs = cc in (bs, e, sym z ∙ alike_map s space bs (blocks_alike s space bs e))

-- Read by its places, a data block of a file gives its answer: that of the block cut out as a file, places shifted.
pub by_places : (s : List ℕ) (space : ℕ) (b : Block) → DataBlock s b → length s ≤ longest_file → read_block s space (suc b.eq) b.end ≡ answer (cut_answer s space b)
unfolding read_block
by_places s space b d h =
    let i = bounds s b d in
    rw (le-leb (length s) longest_file h, le-leb (suc b.eq) b.end (omega (arith, i.close_low)), le-leb b.end (length s) (omega (arith, i.close_high, i.inside)))
    (ap answer (cut_out_lem s b d h space))
