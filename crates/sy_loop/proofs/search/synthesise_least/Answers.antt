use Rattle.sy_grammar_base.specs.Questions.{question_of}
use Rattle.sy_loop_spec.specs.declared.reach.Reach.TheVariants.{Sizes}
use Rattle.sy_loop.proofs.Solvable.{complete}
use Rattle.sy_loop.proofs.search.synthesise_least.Goals as goal

pub returns-clause-complete : goal.returns-clause-complete
returns-clause-complete g c =
    complete g.T.Theory.owned g.T.Theory.denotes g.D.Decide.accepted g.D.Decide.budget g.D.Decide.shows Sizes (question_of g.T.Theory.denotes c.args.problem.now) c.args.limits.now c.in_ok-outcome.outcome c.in_ok-outcome.ensures.right
