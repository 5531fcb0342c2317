-- `text_groups::find` meets its contract: the group that starts with the ordinate at i, after p.
use native.Mathlib.Omega.{arith}
use lib.ListN.{length-map}
use Rattle.table_spec.specs.Frame.{ordinate_of}
use Rattle.table_text.specs.Pieces.{ordinates}
use Rattle.text_tokens.proofs.TokenSteps.{found}
use Rattle.text_groups.proofs.find.Goals as goal

pub returns : goal.returns
returns c = let a = c.args in let m = c.copies_of-more.ensures in let d = c.further_digits-digits.ensures in
    found (ordinates a.ys.now) a.i a.p _ _ _ _ _ c.ordinate_at-y.ensures.0 c.token_of-t.ensures
    m.0 (omega (arith, m.1, length-map a.ys.now ordinate_of)) d.0 c.dup_bytes-rest.ensures
