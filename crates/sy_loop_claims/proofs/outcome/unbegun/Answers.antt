use Rattle.sy_grammar_base.specs.Questions.{question_of}
use Rattle.sy_loop_claims.proofs.Beginning.{rounds_none}
use Rattle.sy_loop_claims.proofs.outcome.unbegun.Goals as goal

pub returns-clause-right : goal.returns-clause-right
returns-clause-right g c = rw c.new.ensures (rounds_none c.args._reach (question_of g.T.Theory.denotes c.args._problem.now) c.args._limits.now c.requires)
