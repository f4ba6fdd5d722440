use Rattle.std.proofs.Common.{arith, length, ◌≡◌}
use Rattle.std.proofs.lemmas.List.{length-map}
use Rattle.sy_grammar_base.specs.Questions.{question_of, goal_of}
use Rattle.sy_loop_banks.proofs.Carrying.{none_carried}
use Rattle.sy_loop.proofs.Beginning.{nothing_known}
use Rattle.sy_loop.proofs.search.search.Goals as goal

pub rounds-init : goal.rounds-init
rounds-init g c =
    let all : c.len-functions.result ≡ length (question_of g.T.Theory.denotes c.args.problem.now).goals = omega (arith, c.len-functions.ensures, length-map c.args.problem.now.wanted (goal_of g.T.Theory.denotes)) in
    record {
      known = rw c.new.ensures (nothing_known c.args.reach (question_of g.T.Theory.denotes c.args.problem.now) c.args.limits.now c.in_ok-new.field-0 c.len-functions.result all c.in_ok-new.ensures.tuples c.in_ok-new.ensures.limit);
      room = rw c.new.ensures (omega (arith, c.if-limits-eq0.false));
      within = c.first_size-level.ensures.within;
      plan = c.in_ok-plan.ensures;
      carried = rw c.new-banks.ensures.items (none_carried g.T.Theory.owned g.T.Theory.denotes c.args.problem.now c.args.limits.now c.first_size-level.result);
      done = c.first_size-level.ensures.done c.args.reach (question_of g.T.Theory.denotes c.args.problem.now) _ _;
    }

pub run_round-requires-clause-functions : goal.run_round-requires-clause-functions
run_round-requires-clause-functions g c = c.len-functions.ensures

pub rounds-preserved : goal.rounds-preserved
rounds-preserved g c =
    let goes = rw c.in-Goes.is at c.in_ok-more.ensures.round in
    record { known = goes.0; room = goes.1; within = goes.2; plan = c.in_ok-more.ensures.plan; carried = rw c.in-Goes.is at c.in_ok-more.ensures.carries; done = rw c.in-Goes.is at c.in_ok-more.ensures.done }

pub rounds-smaller : goal.rounds-smaller
rounds-smaller g c = (rw c.in-Goes.is at c.in_ok-more.ensures.round).3

pub returns-in-Ends-clause-right : goal.returns-in-Ends-clause-right
returns-in-Ends-clause-right g c = rw c.in-Ends.is at c.in_ok-more.ensures.round

pub returns-in-Ends-clause-least : goal.returns-in-Ends-clause-least
returns-in-Ends-clause-least g c = rw c.in-Ends.is at c.in_ok-more.ensures.least
