-- `keyword::word_at` meets its contract: as the library compares the bytes.
use native.Mathlib.Omega.{arith}
use Rattle.std.proofs.lemmas.Grind.{common_steps}
use Rattle.keyword.proofs.WordTurns.{word_starts}
use Rattle.keyword.proofs.word_at.Goals as goal

pub returns : goal.returns
returns c =
    word_starts c.args.t.now c.args.p c.args.w.now c.requires c.starts_with.result (grind (arith, common_steps))
    (λ z. let l = c.starts_with.ensures.bound z in grind (arith, common_steps))
