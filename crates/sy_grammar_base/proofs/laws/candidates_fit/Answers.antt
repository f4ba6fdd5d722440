use Rattle.sy_grammar_base.proofs.Candidates.{bodies_fit}
use Rattle.sy_grammar_base.proofs.laws.candidates_fit.Goals as goal

pub returns : goal.returns
returns g c = bodies_fit g.T.Theory.owned g.T.Theory.numeric g.T.Theory.denotes c.args.problem.now c.args.bodies.now c.requires.problem g.met.T.Theory.negation c.requires.members
