use Rattle.std.proofs.Common.{rules, tests}
use Rattle.std.proofs.lemmas.List.Folds.{list_all-map}
use Rattle.std.proofs.lemmas.Iterator.{YieldsList-from_slice}
use Rattle.std.proofs.lemmas.Iterator.Search.{all_from_yields_List}
use Rattle.sy_terms.specs.Values.{same}
use Rattle.sy_terms.specs.Denoted.{val_of}
use Rattle.sy_meaning_core.proofs.equality.agrees.Goals as goal

pub returns : goal.returns
returns g c =
    let x = val_of g.N.Number.denotes c.args.value.now in
    rw (list_all-map (same x) (val_of g.N.Number.denotes) c.args.others.now)
    (all_from_yields_List (λ y. same x (val_of g.N.Number.denotes y)) _ _ _ c.all.ensures.ran (YieldsList-from_slice c.args.others.now cc) (λ x b q k. search (rules, tests)))
