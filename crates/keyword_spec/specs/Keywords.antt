-- 02, T-07 and T-09: "Keywords are compared byte for byte, blanks and comments around them dropped"; line ends are dropped as blanks are. Assumes nothing.
use Rattle.std.specs.Prelude.{Bool, List, ℕ, ◌+◌, eqb, length, take, drop}
use Rattle.terms.specs.Logic.{both}
use Rattle.label_spec.specs.Names.{sames}
use Rattle.label_spec.specs.Space.{past_space}

-- Does the word w stand at the place p of the text t, byte for byte, with nothing but blanks, line ends and comments after it?
unfoldable pub word_from : List ℕ → List ℕ → ℕ → Bool
word_from w t p = both (sames (take (length w) (drop p t)) w) (eqb (past_space t (p + length w)) (length t))

-- Is the text of a record the word w, blanks, line ends and comments around it dropped?
unfoldable pub is_word : List ℕ → List ℕ → Bool
is_word w t = word_from w t (past_space t 0)
