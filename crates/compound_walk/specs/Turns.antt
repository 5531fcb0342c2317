-- What the walk over a block ensures and keeps, in the code's own words: what the block has said, and how many data blocks; and the turns of its loop.
use Rattle.std.specs.Prelude.{◌≡◌, refl, Bool, true, false, List, [], ◌∷◌, ◌++◌, ℕ, suc, ◌+◌, ◌-◌, ◌<◌, ◌≤◌, ltb, length, Some, None, Result, Ok, Err}
use Rattle.std.proofs.Common.{sym, ◌∙◌, append-nil, arith, length-append, le-ltb}
use Rattle.terms.specs.Logic.{pick, both}
use Rattle.label_spec.specs.Names.{sames, TITLE, END}
use Rattle.label_spec.specs.Labels.{Walk, over, bad, label, from}
use Rattle.label_spec.specs.File.{twice}
use Rattle.label_spec.specs.Records.{mark_of}
use Rattle.label.specs.Answers.{found_in}
use Rattle.compound_spec.specs.declared.Block.{Block}
use Rattle.compound_spec.specs.declared.Own.{Own}
use Rattle.compound_spec.specs.Blocks.{BLOCKS, Level, noted, block_of}
use Rattle.compound_words.specs.Post.{note_of}
use Rattle.compound_names.specs.OwnNames.{own_clash, Skips, Scanned, scan_begin, clash_is, scan_end, scan_inner, scan_own}
use Rattle.compound_walk.specs.Walks as walks
use Rattle.compound_walk.specs.Walks.{fault, closes, gained, Walks, Sofar}
use Rattle.terms.specs.declared.Fault.{Fault}
use Rattle.compound_walk.specs.declared.Closed.{Closed}
use Rattle.label_spec.specs.Parts.{span_of}

-- The level that the code's places, names and words stand for.
abbrev pub level_of : ℕ → ℕ → List (List ℕ) → Own → Level
level_of m e names o = record { title = m; eq = e; names = names; link = o.link; table = o.table; blocks = o.blocks }

abbrev pub nothing : Own
nothing = record { link = false; table = false; blocks = None }

level_noted : (s v : List ℕ) (a b m e : ℕ) (names : List (List ℕ)) (o : Own) → noted s v a b (level_of m e names o) ≡ level_of m e (names ++ v ∷ []) (note_of s v a b o)
unfolding noted note_of
level_noted s v a b m e names o = refl

-- At END, whose `##` stands at x and `=` at q: n data blocks stand in the block.
pub record Ends (s : List ℕ) (m e left x q : ℕ) (o : Own) (n : ℕ) : Type 0 where
  pub names : List (List ℕ)
  pub found : List Block
  pub walks : Walks s m e left (closes (level_of m e names o) x q found)
  pub skips : Skips s e q
  pub count : n ≡ length found
  pub text : found_in 0 (length s) o.blocks
  pub low : e < x
  pub mid : x < q
  pub high : q < length s
  pub few : n + e ≤ x

-- What the walk over a block ensures.
abbrev pub Closes : List ℕ → ℕ → ℕ → ℕ → Result Closed Fault → Type 0
Closes s m e left (Ok y) = Ends s m e left y.end y.last y.own y.count
Closes s m e left (Err r) = Walks s m e left (fault r.number r.place)

-- Its loop's invariant: the labels before i.
pub record Gone (s : List ℕ) (m e left i : ℕ) (o : Own) (n : ℕ) : Type 0 where
  pub names : List (List ℕ)
  pub found : List Block
  pub sofar : Sofar s m e left i (level_of m e names o) found
  pub scanned : Scanned s e i names
  pub count : n ≡ length found
  pub text : found_in 0 (length s) o.blocks
  pub low : e < i
  pub high : i ≤ length s
  pub few : n + e ≤ i

-- Before the first label.
pub gone_begin : (s : List ℕ) (m e left : ℕ) → e < length s → Gone s m e left (e + 1) nothing 0
gone_begin s m e left h =
    record {
      names = [];
      found = [];
      sofar = walks.begin s m e left;
      scanned = scan_begin s e;
      count = refl;
      text = tt;
      low = omega arith;
      high = omega arith;
      few = omega arith;
    }

-- An inner block that is no LINK block is one more.
abbrev pub counted : Bool → ℕ → ℕ → ℕ
counted link n k = n + k + pick link 0 1

count_inner : (bs cs : List Block) (b : Block) (k : Bool) → length bs + length cs + pick k 0 1 ≡ length (bs ++ (cs ++ pick k [] (b ∷ [])))
count_inner bs cs b true = rw (append-nil cs, length-append bs cs) (omega arith)
count_inner bs cs b false = rw (length-append bs (cs ++ b ∷ []), length-append cs (b ∷ [])) (omega arith)

few_inner : (k : Bool) (e i q y p n c : ℕ) → n + e ≤ i → i ≤ q → c + q ≤ y → y < p → counted k n c + e ≤ p + 1
few_inner true e i q y p n c h g f l = omega arith
few_inner false e i q y p n c h g f l = omega arith

text_noted : (s v : List ℕ) (a b : ℕ) (o : Own) → a ≤ b → b ≤ length s → found_in 0 (length s) o.blocks → found_in 0 (length s) (note_of s v a b o).blocks
unfolding note_of
text_noted s v a b o h g f = cases (sames v BLOCKS)
  where
    cases : (t : Bool) → found_in 0 (length s) (pick t (Some (span_of a b)) o.blocks)
    cases true = (omega arith, h, g)
    cases false = f

module _ (s : List ℕ) (m e left i : ℕ) (o : Own) (t : ℕ) (c : Gone s m e left i o t) where
  pub gone_none : from s i false ≡ over → Walks s m e left (fault 22 (length s))
  gone_none f = walks.at_over s m e left i (level_of m e c.names o) c.found c.sofar f

  pub gone_bad : (x : ℕ) (rest : Walk) → from s i false ≡ bad x rest → Walks s m e left (fault 20 x)
  gone_bad x rest f = walks.at_bad s m e left i (level_of m e c.names o) c.found c.sofar x rest f

  module _ (x n q : ℕ) (v : List ℕ) (f : from s i false ≡ label x n q v (from s (q + 1) false)) (low : i ≤ x) (mid : x < q) (high : q < length s) where
    pub gone_end : sames v END ≡ true → Ends s m e left x q o t
    gone_end g =
        record {
          names = c.names;
          found = c.found;
          walks = walks.at_end s m e left i (level_of m e c.names o) c.found c.sofar x n q v f g;
          skips = scan_end s e i c.names c.scanned x n q v f low mid g;
          count = c.count;
          text = c.text;
          low = omega (arith, c.low);
          mid = mid;
          high = high;
          few = omega (arith, c.few);
        }

    module _ (g : sames v END ≡ false) where
      module _ (h : sames v TITLE ≡ true) where
        pub gone_title : both o.link (ltb 0 left) ≡ false → Walks s m e left (fault 24 x)
        gone_title k = walks.at_title s m e left i (level_of m e c.names o) c.found c.sofar x n q v f g h k

        -- The code asks both one after the other.
        pub gone_closed : o.link ≡ false → Walks s m e left (fault 24 x)
        gone_closed k = let z : both o.link (ltb 0 left) ≡ false = rw k refl in gone_title z

        pub gone_deep : left ≡ 0 → Walks s m e left (fault 24 x)
        gone_deep k = gone_title (rw (le-ltb 0 left (omega arith)) (none o.link))
          where
            none : (b : Bool) → both b false ≡ false
            none true = refl
            none false = refl

        module _ (k : o.link ≡ true) (j : ℕ) (d : left ≡ suc j) where
          pub gone_fault : (b a : ℕ) → Walks s x q j (fault b a) → Walks s m e left (fault b a)
          gone_fault b a w = walks.at_fault s m e left i (level_of m e c.names o) c.found c.sofar x n q v f g h k j d b a w

          pub gone_inner : (y p : ℕ) (w : Own) (r : ℕ) → Ends s x q j y p w r → Gone s m e left (p + 1) o (counted w.link t r)
          gone_inner y p w r a =
              record {
                names = c.names;
                found = c.found ++ gained (level_of x q a.names w) y p a.found;
                sofar = walks.at_inner s m e left i (level_of m e c.names o) c.found c.sofar x n q v f g h k j d (level_of x q a.names w) y p a.found a.walks;
                scanned = scan_inner s e i c.names c.scanned x n q v f low mid g p (omega (arith, a.low, a.mid)) h a.skips;
                count = rw (c.count, a.count) (count_inner c.found a.found (block_of (level_of x q a.names w) y p) w.link);
                text = c.text;
                low = omega (arith, c.low, a.low, a.mid);
                high = omega (arith, a.high);
                few = few_inner w.link e i q y p t r c.few (omega arith) a.few a.mid;
              }

      module _ (h : sames v TITLE ≡ false) where
        pub gone_twice : own_clash x v (from s (e + 1) false) ≡ true → Walks s m e left (fault 23 x)
        gone_twice k = walks.at_twice s m e left i (level_of m e c.names o) c.found c.sofar x n q v f g h (sym (clash_is s e i c.names c.scanned x n q v f low mid) ∙ k)

        module _ (k : own_clash x v (from s (e + 1) false) ≡ false) (b : ℕ) (z : b ≡ mark_of (length s) (from s (q + 1) false)) (near : q + 1 ≤ b) (far : b ≤ length s) where
          once : twice v c.names ≡ false
          once = sym (clash_is s e i c.names c.scanned x n q v f low mid) ∙ k

          both_is : (w : Bool) → both (note_of s v (q + 1) b o).link (note_of s v (q + 1) b o).table ≡ w
              → both (noted s v (q + 1) (mark_of (length s) (from s (q + 1) false)) (level_of m e c.names o)).link
              (noted s v (q + 1) (mark_of (length s) (from s (q + 1) false)) (level_of m e c.names o)).table ≡ w
          unfolding noted note_of
          both_is w l = rw z at l

          pub gone_table : both (note_of s v (q + 1) b o).link (note_of s v (q + 1) b o).table ≡ true → Walks s m e left (fault 33 x)
          gone_table l = walks.at_table s m e left i (level_of m e c.names o) c.found c.sofar x n q v f g h once (both_is true l)

          pub gone_own : both (note_of s v (q + 1) b o).link (note_of s v (q + 1) b o).table ≡ false → Gone s m e left (q + 1) (note_of s v (q + 1) b o) t
          gone_own l =
              record {
                names = c.names ++ v ∷ [];
                found = c.found;
                sofar = rw z (rw (level_noted s v (q + 1) (mark_of (length s) (from s (q + 1) false)) m e c.names o) at
                    (walks.at_own s m e left i (level_of m e c.names o) c.found c.sofar x n q v f g h once (both_is false l)));
                scanned = scan_own s e i c.names c.scanned x n q v f low mid g h;
                count = c.count;
                text = text_noted s v (q + 1) b o near far c.text;
                low = omega (arith, c.low);
                high = omega arith;
                few = omega (arith, c.few);
              }
