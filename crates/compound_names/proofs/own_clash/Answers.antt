-- `compound_names::own_clash` meets its contract: an empty name, and the scan.
use mathlib.Core.Path.{sym, ap, ◌∙◌}
use mathlib.Core.Bool.{not}
use Rattle.compound_names.proofs.NameScan.{clash_empty, clash_some, some_name}
use Rattle.compound_names.proofs.own_clash.Goals as goal

pub own_known-requires : goal.own_known-requires
own_known-requires c = let p = c.requires in (p.0, some_name _ _ _ _ c.is_empty.ensures c.if-not-is_empty.true, p.2)

pub returns-then-not-is_empty : goal.returns-then-not-is_empty
returns-then-not-is_empty c = clash_some _ _ _ _ (sym c.is_empty.ensures ∙ c.if-not-is_empty.true) c.own_known.ensures

pub returns-else-not-is_empty : goal.returns-else-not-is_empty
returns-else-not-is_empty c = ap not c.if-not-is_empty.false ∙ clash_empty _ _ _ (sym c.is_empty.ensures ∙ c.if-not-is_empty.false)
