use Rattle.std.proofs.Common.{arith}
use Rattle.sy_grammar_base.specs.Fits.{ProblemFits}
use Rattle.sygus_verdicts.proofs.Claimed.{holds_at, stated_at, stated_count}
use Rattle.sygus_verdicts.proofs.verdicts.judge_next.Goals as goal

pub unreachable-requires-in_default-get : goal.unreachable-requires-in_default-get
unreachable-requires-in_default-get g c =
    omega (arith, stated_count g.T.Theory c.args.claims.now.problems c.args.claims.now.statements c.requires.stated, c.in_default-get.ensures, c.requires.within)

pub found_of-requires-clause-problem : goal.found_of-requires-clause-problem
found_of-requires-clause-problem g c =
    holds_at (λ problem. ProblemFits g.T.Theory problem) c.args.claims.now.problems c.args.place c.in-Some.problem.now c.in-Some.ensures c.requires.fit

pub found_of-requires-clause-stated : goal.found_of-requires-clause-stated
found_of-requires-clause-stated g c =
    stated_at g.T.Theory c.args.claims.now.problems c.args.claims.now.statements c.args.place c.in-Some.problem.now c.in-Some-get.stated.now c.in-Some.ensures c.in-Some-get.ensures c.requires.stated

pub returns-clause-ok : goal.returns-clause-ok
returns-clause-ok g c = record {
  problem = c.in-Some.problem.now;
  stated = c.in-Some-get.stated.now;
  problem_at = rw c.requires.next c.in-Some.ensures;
  stated_at = rw c.requires.next c.in-Some-get.ensures;
  answer = c.in_ok-answer.answer;
  right = c.in_ok-answer.ensures.right;
  more = c.in_ok-push.ensures.ok;
  lined = rw c.requires.next c.in-Ok.ensures;
}
