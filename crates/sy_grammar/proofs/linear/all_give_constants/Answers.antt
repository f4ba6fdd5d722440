use Rattle.std.proofs.Common.{rules, tests}
use Rattle.std.proofs.lemmas.List.Folds.{list_all-map}
use Rattle.std.proofs.lemmas.Iterator.{YieldsList-from_slice}
use Rattle.std.proofs.lemmas.Iterator.Search.{all_from_yields_List}
use Rattle.sy_grammar_base.specs.Formed.{gives_constants}
use Rattle.sy_grammar_base.specs.Grown.{production_of}
use Rattle.sy_grammar.proofs.linear.all_give_constants.Goals as goal

pub returns : goal.returns
returns g c =
    rw (list_all-map gives_constants (production_of g.T.Theory.denotes) c.args.rules.now)
    (all_from_yields_List (λ y. gives_constants (production_of g.T.Theory.denotes y)) _ _ _ c.all.ensures.ran (YieldsList-from_slice c.args.rules.now cc) (λ x b q k. search (rules, tests)))
