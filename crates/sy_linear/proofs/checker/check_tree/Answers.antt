use Rattle.std.proofs.Common.{◌∙◌, sym, ap, subst}
use Rattle.sy_linear_known.specs.Stored.{linear_query_of, tree_shape_of}
use Rattle.sy_linear.specs.Judging.{TellsJudgement, judged}
use Rattle.sy_linear.proofs.Refuting.{accepted, none_satisfies}
use Rattle.sy_linear.proofs.Rejecting.{rejected}
use Rattle.sy_linear.proofs.checker.check_tree.Goals as goal

pub returns-clause-accepted : goal.returns-clause-accepted
returns-clause-accepted c h =
    accepted (linear_query_of c.args.q.now) _ 0 (tree_shape_of c.args.t.now)
    (sym (ap (λ facts. judged (linear_query_of c.args.q.now) facts 0 (tree_shape_of c.args.t.now)) c.new-facts.ensures.items)
    ∙ subst (λ r. TellsJudgement r (judged (linear_query_of c.args.q.now) c.new-facts.result.items 0 (tree_shape_of c.args.t.now))) h c.judge.ensures.judged)

pub returns-clause-rejected : goal.returns-clause-rejected
returns-clause-rejected c h =
    rejected (linear_query_of c.args.q.now) _ 0 (tree_shape_of c.args.t.now)
    (sym (ap (λ facts. judged (linear_query_of c.args.q.now) facts 0 (tree_shape_of c.args.t.now)) c.new-facts.ensures.items)
    ∙ subst (λ r. TellsJudgement r (judged (linear_query_of c.args.q.now) c.new-facts.result.items 0 (tree_shape_of c.args.t.now))) h c.judge.ensures.judged)

pub returns-clause-law : goal.returns-clause-law
returns-clause-law c h =
    none_satisfies (linear_query_of c.args.q.now) (tree_shape_of c.args.t.now)
    (sym (ap (λ facts. judged (linear_query_of c.args.q.now) facts 0 (tree_shape_of c.args.t.now)) c.new-facts.ensures.items)
    ∙ subst (λ r. TellsJudgement r (judged (linear_query_of c.args.q.now) c.new-facts.result.items 0 (tree_shape_of c.args.t.now))) h c.judge.ensures.judged)
