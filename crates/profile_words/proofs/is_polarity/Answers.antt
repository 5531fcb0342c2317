-- `profile_words::is_polarity` meets its contract: one of the two polarities.
use Rattle.profile_words.proofs.WordTurns.{one_of}
use Rattle.profile_words.proofs.is_polarity.Goals as goal

pub returns : goal.returns
returns c =
    rw (c.is_keyword.ensures, c.is_keyword-2.ensures) (one_of _ _ _)
