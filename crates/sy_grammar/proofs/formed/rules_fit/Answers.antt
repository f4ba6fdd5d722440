use Rattle.std.proofs.Common.{rules, tests}
use Rattle.std.proofs.lemmas.List.Folds.{list_all-map}
use Rattle.std.proofs.lemmas.Iterator.{YieldsList-from_slice}
use Rattle.std.proofs.lemmas.Iterator.Search.{all_from_yields_List}
use Rattle.sy_terms.specs.Definitions.{scope_of}
use Rattle.sy_grammar_base.specs.Formed.{rule_sort, syntax_with}
use Rattle.sy_grammar_base.specs.Trees.{Production, is_sort}
use Rattle.sy_grammar_base.specs.Grown.{production_of}
use Rattle.sy_grammar.proofs.formed.rules_fit.Goals as goal

pub returns : goal.returns
returns g c =
    let test = λ (rule : Production). is_sort c.args.sort (rule_sort (scope_of g.T.Theory.owned c.args.defs.now) (syntax_with g.T.Theory.denotes c.args.args.now c.args.nons.now) rule) in
    rw (list_all-map test (production_of g.T.Theory.denotes) c.args.rules.now)
    (all_from_yields_List (λ y. test (production_of g.T.Theory.denotes y)) _ _ _ c.all.ensures.ran (YieldsList-from_slice c.args.rules.now cc) (λ x b q k. search (rules, tests)))
