-- What the survey answers for each case, and that the walk over the outermost block answers it.
use Rattle.std.specs.Prelude.{◌≡◌, Bool, true, false, ℕ, ◌+◌, ◌<◌, ◌≤◌, length, Result, Ok, Err}
use Rattle.std.proofs.Math.Path.{refl}
use mathlib.Core.List.{List, [], ◌∷◌, ◌++◌, append-nil}
use Rattle.std.proofs.Common.{arith, length-append, le-leb}
use Rattle.std.proofs.lemmas.Bool.{lt-leb}
use Rattle.terms.specs.Logic.{pick}
use Rattle.terms.specs.Refusals.{fault_at}
use Rattle.terms.specs.declared.Fault.{Fault}
use Rattle.label_spec.specs.File.{longest_file, opened}
use Rattle.label.specs.Answers.{found_in}
use Rattle.compound_spec.specs.declared.Block.{Block}
use Rattle.compound_spec.specs.declared.Own.{Own}
use Rattle.compound_spec.specs.Blocks.{Level, Survey, refused, ended, push, block_of, closed, within_title, surveyed}
use Rattle.compound_walk.specs.Walks.{fault, closes, prepend, resume, outermost}
use Rattle.compound_walk.specs.Turns.{level_of, counted, Closes}
use Rattle.label_spec.specs.Parts.{edges_with}
use Rattle.compound_walk.specs.Parts.{closing_with}
use Rattle.compound_spec.specs.Parts.{surveyed_with}
use Rattle.compound_spec.specs.declared.Surveyed.{Surveyed}

-- The outermost block's own words.
abbrev pub own_of : Level → Own
own_of l = record { link = l.link; table = l.table; blocks = l.blocks }

-- The answer for each case.
abbrev pub told : Survey → Result Surveyed Fault
told (refused c a) = Err (fault_at c a)
told (ended l o bs) = Ok (surveyed_with o (own_of l) (length bs))

-- Where the answer's places lie: the outermost block and the text of its BLOCKS stand in a file that is not too long, and TITLE is what opens it.
abbrev pub SurveyedIn : List ℕ → Result Surveyed Fault → Type 0
SurveyedIn s (Ok x) =
    (x.outermost.eq < x.outermost.end) × (x.outermost.end < x.outermost.last) × (x.outermost.last < length s) × found_in 0 (length s) x.own.blocks × (length s ≤ longest_file) × (Ok (edges_with x.outermost.title x.outermost.eq) ≡ opened s)
SurveyedIn s (Err r) = Unit

-- What the survey ensures.
pub record Surveys (s : List ℕ) (r : Result Surveyed Fault) : Type 0 where
  pub answers : r ≡ told (surveyed s)
  pub places : SurveyedIn s r

pub told_long : (s : List ℕ) → longest_file < length s → Surveys s (Err (fault_at 19 0))
unfolding surveyed
told_long s h = record { answers = rw (lt-leb (length s) longest_file h) refl; places = tt }

module _ (s : List ℕ) (h : length s ≤ longest_file) where
  short : surveyed s ≡ within_title s (opened s)
  unfolding surveyed
  short = rw (le-leb (length s) longest_file h) refl

  pub told_title : (r : Fault) → Err r ≡ opened s → Surveys s (Err r)
  unfolding within_title
  told_title r e = record { answers = rw (short, ← e) refl; places = tt }

  module _ (m e : ℕ) (o : Ok (edges_with m e) ≡ opened s) where
    pub told_fault : (r : Fault) → Closes s m e 7 (Err r) → Surveys s (Err r)
    unfolding resume
    told_fault r w = record { answers = rw (short, ← o, outermost s m e (fault r.number r.place) w) refl; places = tt }

    prepend_ended : (bs cs : List Block) (l : Level) (b : Block) → prepend bs (ended l b cs) ≡ ended l b (bs ++ cs)
    unfolding prepend push
    prepend_ended [] cs l b = refl
    prepend_ended (c ∷ bs) cs l b = rw (prepend_ended bs cs l b) refl

    count_end : (n : ℕ) (bs : List Block) (b : Block) (k : Bool) → n ≡ length bs → counted k 0 n ≡ length (bs ++ pick k [] (b ∷ []))
    count_end n bs b true f = rw (append-nil bs) (omega arith)
    count_end n bs b false f = rw (length-append bs (b ∷ [])) (omega arith)

    pub told_end : (x q : ℕ) (w : Own) (n k : ℕ) → k ≡ counted w.link 0 n → Closes s m e 7 (Ok (closing_with x q w n))
        → Surveys s (Ok (surveyed_with (record { title = m; eq = e; end = x; last = q }) w k))
    unfolding resume closed
    told_end x q w n k g c =
        let b : Block = record { title = m; eq = e; end = x; last = q } in
        record {
          answers = rw (
            short,
            ← o,
            outermost s m e (closes (level_of m e c.names w) x q c.found) c.walks,
            prepend_ended c.found (pick w.link [] (block_of (level_of m e c.names w) x q ∷ [])) (level_of m e c.names w) (block_of (level_of m e c.names w) x q),
            g,
            count_end n c.found (record { title = m; eq = e; end = x; last = q }) w.link c.count,
          ) refl;
          places = (c.low, c.mid, c.high, c.text, h, o);
        }
