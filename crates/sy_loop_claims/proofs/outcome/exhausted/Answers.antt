use Rattle.std.proofs.Common.{◌∙◌, sym, true≢false}
use Rattle.sy_grammar_base.specs.Questions.{question_of}
use Rattle.sy_loop_spec.proofs.Refuted.{no_solution}
use Rattle.sy_loop_claims.proofs.outcome.exhausted.Goals as goal

pub returns-then-branch-clause-right : goal.returns-then-branch-clause-right
returns-then-branch-clause-right g c =
    let most = c.in_ok-are_at_most.ensures.0 c.if-branch.true in
    (no_solution c.args.reach (question_of g.T.Theory.denotes c.args.problem.now) c.args.limits.now.size most c.requires, most)

pub returns-else-branch-clause-right : goal.returns-else-branch-clause-right
returns-else-branch-clause-right g c = (c.requires, λ most. true≢false (sym (c.in_ok-are_at_most.ensures.1 most) ∙ c.if-branch.false))
