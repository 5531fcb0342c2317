-- `label_names::same_name` meets its contract: the bytes of either that count, in upper case, are compared.
use mathlib.Core.Path.{◌≡◌}
use borrow.Author.Tests.{tests}
use Rattle.std.proofs.Common.{rules}
use Rattle.std.proofs.lemmas.Iterator.{YieldsList-from_slice, YieldsList-from_map}
use Rattle.std.proofs.lemmas.Iterator.Consumers.{YieldsList-at, YieldsList-from_filter}
use Rattle.label_spec.specs.Names.{upper}
use Rattle.label_names.proofs.NameTurns.{counts, name_counts}
use Rattle.label_names.proofs.Comparing.{sames_from_yields}
use Rattle.label_names.proofs.same_name.Goals as goal

pub returns : goal.returns
returns c =
    let x = YieldsList-at c.filter.ensures.source (YieldsList-from_slice _ c.iter.ensures.rest) in
    let y = YieldsList-at c.filter-2.ensures.source (YieldsList-from_slice _ c.iter-2.ensures.rest) in
    rw (← name_counts c.args.s.now c.args.a c.args.ae, ← name_counts c.args.t.now c.args.b c.args.be)
    (sames_from_yields (λ p q. q ≡ p) c.map-y.result _ c.eq.ensures.ran
    (YieldsList-from_map _ upper
    (YieldsList-at c.map-x.ensures.source (YieldsList-from_filter _ counts x c.filter.ensures.closure (λ x b q k. search (rules, tests))))
    c.map-x.ensures.closure (λ x r q k. search rules))
    (λ it h. rw h (YieldsList-from_map _ upper
    (YieldsList-at c.map-y.ensures.source (YieldsList-from_filter _ counts y c.filter-2.ensures.closure (λ x b q k. search (rules, tests))))
    c.map-y.ensures.closure (λ x r q k. search rules))))
