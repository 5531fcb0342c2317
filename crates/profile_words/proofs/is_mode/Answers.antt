-- `profile_words::is_mode` meets its contract: one of the ten ionisation codes.
use Rattle.profile_words.proofs.WordTurns.{one_of}
use Rattle.profile_words.proofs.is_mode.Goals as goal

pub returns : goal.returns
returns c =
    rw (
      c.is_keyword.ensures,
      c.is_keyword-2.ensures,
      c.is_keyword-3.ensures,
      c.is_keyword-4.ensures,
      c.is_keyword-5.ensures,
      c.is_keyword-6.ensures,
      c.is_keyword-7.ensures,
      c.is_keyword-8.ensures,
      c.is_keyword-9.ensures,
      c.is_keyword-10.ensures,
    ) (one_of _ _ _)
