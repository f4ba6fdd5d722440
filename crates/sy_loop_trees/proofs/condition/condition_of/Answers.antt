use Rattle.sy_grammar_base.specs.Grown.{syntax_from}
use Rattle.sy_loop_trees.proofs.Choosing.{first_told, none_chooses}
use Rattle.sy_loop_trees.proofs.condition.condition_of.Goals as goal

pub returns-in-Some : goal.returns-in-Some
returns-in-Some g c = first_told (syntax_from g.T.Theory.denotes c.args.grammar.now) c.in-Some.place c.tested_at.result c.in-Some.ensures c.tested_at.ensures

pub returns-in-None : goal.returns-in-None
returns-in-None g c = none_chooses (syntax_from g.T.Theory.denotes c.args.grammar.now) c.in-None.ensures
