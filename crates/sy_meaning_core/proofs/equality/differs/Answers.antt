use Rattle.std.proofs.Common.{rules, tests}
use Rattle.std.specs.Prelude.{not}
use Rattle.std.proofs.lemmas.Iterator.{YieldsList-from_slice}
use Rattle.std.proofs.lemmas.Iterator.Search.{all_from_yields_List}
use Rattle.sy_terms.specs.Values.{same}
use Rattle.sy_terms.specs.Denoted.{val_of}
use Rattle.sy_meaning_core.proofs.Lists.{to_all-map}
use Rattle.sy_meaning_core.proofs.equality.differs.Goals as goal

pub returns : goal.returns
returns g c =
    let x = val_of g.N.Number.denotes c.args.value.now in
    rw (to_all-map (λ x y. not (same x y)) x (val_of g.N.Number.denotes) c.args.others.now)
    (all_from_yields_List (λ y. not (same x (val_of g.N.Number.denotes y))) _ _ _ c.all.ensures.ran (YieldsList-from_slice c.args.others.now cc) (λ x b q k. search (rules, tests)))
