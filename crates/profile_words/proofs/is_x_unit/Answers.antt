-- `profile_words::is_x_unit` meets its contract: one of the four X units.
use Rattle.profile_words.proofs.WordTurns.{one_of}
use Rattle.profile_words.proofs.is_x_unit.Goals as goal

pub returns : goal.returns
returns c =
    rw (c.is_keyword.ensures, c.is_keyword-2.ensures, c.is_keyword-3.ensures, c.is_keyword-4.ensures) (one_of _ _ _)
