-- `profile_words::is_y_unit` meets its contract: one of the three Y units.
use Rattle.profile_words.proofs.WordTurns.{one_of}
use Rattle.profile_words.proofs.is_y_unit.Goals as goal

pub returns : goal.returns
returns c =
    rw (c.is_keyword.ensures, c.is_keyword-2.ensures, c.is_keyword-3.ensures) (one_of _ _ _)
