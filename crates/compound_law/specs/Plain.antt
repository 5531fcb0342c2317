-- The labels of a data block: from after its TITLE up to its END, no TITLE, none twice, and no DATA TYPE that is LINK among them.
use Rattle.std.specs.Prelude.{◌≡◌, refl, Bool, true, false, List, [], ◌∷◌, ◌++◌, ◌⊎◌, ℕ, ◌+◌, ◌<◌, length, Ok}
use Rattle.std.proofs.Common.{inl, inr}
use Rattle.label_spec.specs.Names.{sames, TITLE, END}
use Rattle.label_spec.specs.Labels.{Walk, over, bad, label, from, hashed}
use Rattle.label_spec.specs.File.{twice, judged}
use Rattle.label_spec.specs.Records.{mark_of}
use Rattle.compound_spec.specs.declared.Block.{Block}
use Rattle.compound_spec.specs.Blocks.{says, Level, Survey, refused, ended}
use Rattle.label_spec.specs.Parts.{edges_with}

-- One label of the block's own that is not its END.
pub record Own (s : List ℕ) (done : List (List ℕ)) (e : ℕ) (v : List ℕ) (b : ℕ) : Type 0 where
  pub no_end : sames v END ≡ false
  pub no_title : sames v TITLE ≡ false
  pub once : twice v done ≡ false
  pub no_link : says s v (e + 1) b ≡ false

-- END: its `##` stands at x, its `=` at q.
pub record Last (y e : ℕ) (v : List ℕ) (x q : ℕ) : Type 0 where
  pub is_end : sames v END ≡ true
  pub mark : y ≡ x
  pub eq : e ≡ q

abbrev pub Plain : List ℕ → List (List ℕ) → Walk → ℕ → ℕ → Type 0
Plain s done over x q = ⊥
Plain s done (bad y rest) x q = ⊥
Plain s done (label y n e v rest) x q = Last y e v x q ⊎ (Own s done e v (mark_of (length s) rest) × Plain s (done ++ v ∷ []) rest x q)

-- The simple reader finds END there.
pub plain_judged : (s : List ℕ) (len : ℕ) (done : List (List ℕ)) (k : Walk) (x q : ℕ) → Plain s done k x q → judged len done k ≡ Ok (edges_with x q)
unfolding judged
plain_judged s len done over x q p = absurd p
plain_judged s len done (bad y rest) x q p = absurd p
plain_judged s len done (label y n e v rest) x q (inl p) = rw (p.is_end, p.mark, p.eq) refl
plain_judged s len done (label y n e v rest) x q (inr p) =
    rw (p.0.no_end, p.0.no_title, p.0.once) (plain_judged s len (done ++ v ∷ []) rest x q p.1)

-- What the survey promises of each data block of a file.
pub record DataBlock (s : List ℕ) (b : Block) : Type 0 where
  pub name : List ℕ
  pub text : ℕ
  pub is_title : sames name TITLE ≡ true
  pub hash : hashed s b.title ≡ true
  pub at : from s b.title true ≡ label b.title text b.eq name (from s (b.eq + 1) false)
  pub high : b.eq < length s
  pub labels : Plain s [] (from s (b.eq + 1) false) b.end b.last

-- The block l is open, and k is what follows.
pub record Since (s : List ℕ) (l : Level) (k : Walk) : Type 0 where
  pub name : List ℕ
  pub text : ℕ
  pub is_title : sames name TITLE ≡ true
  pub hash : hashed s l.title ≡ true
  pub at : from s l.title true ≡ label l.title text l.eq name (from s (l.eq + 1) false)
  pub high : l.eq < length s
  pub up_to : (x q : ℕ) → Plain s l.names k x q → Plain s [] (from s (l.eq + 1) false) x q

-- Has each block around said that it is LINK? Has the outermost?
abbrev pub AllLink : List Level → Type 0
AllLink [] = Unit
AllLink (l ∷ up) = (l.link ≡ true) × AllLink up

abbrev pub outer : Level → List Level → Bool
outer l [] = l.link
outer l (o ∷ up) = true

abbrev pub AllData : List ℕ → List Block → Type 0
AllData s [] = Unit
AllData s (b ∷ bs) = DataBlock s b × AllData s bs

-- What a survey finds are data blocks; a file whose outermost block is not LINK is that one.
abbrev pub Promised : List ℕ → Bool → Survey → Type 0
Promised s t (refused c a) = Unit
Promised s t (ended l o bs) = AllData s bs × (t ≡ true → l.link ≡ true) × (l.link ≡ false → bs ≡ o ∷ [])
