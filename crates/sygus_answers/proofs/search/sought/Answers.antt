use Rattle.std.proofs.Common.{sym, ◌∙◌, true≢false}
use Rattle.sygus_answers.proofs.Seeking.{with_trees, without_trees}
use Rattle.sygus_answers.proofs.search.sought.Goals as goal

pub returns-then-tries_trees : goal.returns-then-tries_trees
returns-then-tries_trees g c =
    with_trees g.T.Theory g.D.Decide c.args.limits.now c.args.problem.now c.in_ok-outcome.outcome c.args.mode (c.tries_trees.ensures.0 c.if-tries_trees.true) c.in_ok-outcome.ensures.right c.in_ok-outcome.ensures.beyond

pub returns : goal.returns
returns g c =
    without_trees g.T.Theory g.D.Decide c.args.limits.now c.args.problem.now c.in_ok-least.least c.args.mode (λ joins. true≢false (sym (c.tries_trees.ensures.1 joins) ∙ c.if-tries_trees.false)) c.in_ok-least.ensures.right c.in_ok-least.ensures.least
