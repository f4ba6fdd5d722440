use Rattle.std.proofs.Common.{rules, tests}
use Rattle.sy_meaning_core.proofs.Lists.{list_any-map}
use Rattle.std.proofs.lemmas.Iterator.{YieldsList-from_slice}
use Rattle.std.proofs.lemmas.Iterator.Search.{any_from_yields_List}
use Rattle.sy_terms.specs.Values.{truth}
use Rattle.sy_terms.specs.Denoted.{val_of}
use Rattle.sy_meaning_core.proofs.truths.any_true.Goals as goal

pub returns : goal.returns
returns g c =
    rw (list_any-map truth (val_of g.N.Number.denotes) c.args.values.now)
    (any_from_yields_List (λ y. truth (val_of g.N.Number.denotes y)) _ _ _ c.any.ensures.ran (YieldsList-from_slice c.args.values.now cc) (λ x b q k. search (rules, tests)))
