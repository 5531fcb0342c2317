-- `label_title::open_title` meets its contract: by the first byte that is no blank, line end or comment.
use mathlib.Core.Path.{sym, ◌∙◌}
use Rattle.label_title.proofs.OpenTurns.{open_none, open_past, file_opens}
use Rattle.label_title.proofs.open_title.Goals as goal

pub returns-then-place-file : goal.returns-then-place-file
returns-then-place-file c = let q = c.past_space-place.ensures in rw c.of.ensures (file_opens _ _ _ q (open_past _ _ c.if-place-file.true q.high))

pub returns-then-not-is_hashed : goal.returns-then-not-is_hashed
returns-then-not-is_hashed c =
    let q = c.past_space-place.ensures in
    rw c.of-then-not-is_hashed.ensures (file_opens _ _ _ q (open_none _ _ (sym c.is_hashed.ensures ∙ c.if-not-is_hashed.true) q.high))

pub title_here-requires : goal.title_here-requires
title_here-requires c = sym c.is_hashed.ensures ∙ c.if-not-is_hashed.false

pub returns : goal.returns
returns c = file_opens _ _ _ c.past_space-place.ensures c.title_here.ensures
