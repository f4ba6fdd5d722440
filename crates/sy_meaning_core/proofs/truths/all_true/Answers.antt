use Rattle.std.proofs.Common.{rules, tests}
use Rattle.std.proofs.lemmas.List.Folds.{list_all-map}
use Rattle.std.proofs.lemmas.Iterator.{YieldsList-from_slice}
use Rattle.std.proofs.lemmas.Iterator.Search.{all_from_yields_List}
use Rattle.sy_terms.specs.Values.{truth}
use Rattle.sy_terms.specs.Denoted.{val_of}
use Rattle.sy_meaning_core.proofs.truths.all_true.Goals as goal

pub returns : goal.returns
returns g c =
    rw (list_all-map truth (val_of g.N.Number.denotes) c.args.values.now)
    (all_from_yields_List (λ y. truth (val_of g.N.Number.denotes y)) _ _ _ c.all.ensures.ran (YieldsList-from_slice c.args.values.now cc) (λ x b q k. search (rules, tests)))
