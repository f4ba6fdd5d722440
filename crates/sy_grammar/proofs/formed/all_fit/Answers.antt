use Rattle.std.proofs.Common.{rules, tests}
use Rattle.std.proofs.lemmas.List.Folds.{list_all-map}
use Rattle.std.proofs.lemmas.Iterator.{YieldsList-from_slice}
use Rattle.std.proofs.lemmas.Iterator.Search.{all_from_yields_List}
use Rattle.sy_terms.specs.Definitions.{scope_of}
use Rattle.sy_grammar_base.specs.Formed.{nonterminal_fits, syntax_with}
use Rattle.sy_grammar_base.specs.Grown.{nonterminal_of}
use Rattle.sy_grammar.proofs.formed.all_fit.Goals as goal

pub returns : goal.returns
returns g c =
    let test = nonterminal_fits g.T.Theory.numeric (scope_of g.T.Theory.owned c.args.defs.now) (syntax_with g.T.Theory.denotes c.args.args.now c.args.nons.now) in
    rw (list_all-map test (nonterminal_of g.T.Theory.denotes) c.args.all.now)
    (all_from_yields_List (λ y. test (nonterminal_of g.T.Theory.denotes y)) _ _ _ c.all.ensures.ran (YieldsList-from_slice c.args.all.now cc) (λ x b q k. search (rules, tests)))
