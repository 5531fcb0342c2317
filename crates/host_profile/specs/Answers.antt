-- What a C host is told of a profile (02, T-09). Assumes nothing.
use Rattle.std.specs.Prelude.{◌≡◌, List, [], ◌∷◌, ℕ, ℤ, length}
use Rattle.terms.specs.Places.{line_of, column_of}
use Rattle.file_spec.specs.File.{stored_file}
use Rattle.profile_spec.specs.Profile.{source, ProfileAnswer, refuse_profile, accept_profile, read_profile, as_file, stored_shown}
use Rattle.host_numbers.specs.Numbers.{refused_of, flag, bits}

-- a profile read: refused, place, line, column, points, first, last, whether F, L and FIRSTY's quotient are exact, and whether the refusal is on the page
abbrev pub profile_answer : List ℕ → List ℕ → ProfileAnswer → List ℕ
profile_answer s p (refuse_profile q c a) = c ∷ a ∷ line_of (source s p q) a ∷ column_of (source s p q) a ∷ 0 ∷ 0 ∷ 0 ∷ 0 ∷ 0 ∷ 0 ∷ flag q ∷ []
profile_answer s p (accept_profile t ys ns) =
    0 ∷ 0 ∷ 0 ∷ 0 ∷ t.points ∷ bits t.first ∷ bits t.last ∷ flag t.exact.first ∷ flag t.exact.last ∷ flag t.exact.firsty ∷ 0 ∷ []

pub record ProfileTold (file page : List ℕ) (out out' : List ℤ) (shown shown' : List ℕ) (answer : List ℕ) (r : ℕ) : Type 0 where
  pub numbers : answer ≡ profile_answer file page (read_profile file page (length out))
  pub returned : r ≡ refused_of (profile_answer file page (read_profile file page (length out)))
  pub leaves : out' ≡ stored_file out (as_file (read_profile file page (length out)))
  pub shows : shown' ≡ stored_shown shown (read_profile file page (length out))
