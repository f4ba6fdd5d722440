use Rattle.sy_grammar.proofs.Growing.{pushed}
use Rattle.sy_grammar.proofs.defaults_rules.push_applied.Goals as goal

pub returns : goal.returns
returns g c = pushed g.T.Theory.denotes c.args.rules.now c.push.new.self c.args.operator c.in_ok-parts.parts c.args.nonterminals.now c.in_ok-push.ensures.ok c.in_ok-parts.ensures
