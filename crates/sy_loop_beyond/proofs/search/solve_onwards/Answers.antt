use Rattle.std.proofs.Common.{arith, ap, length, List}
use Rattle.std.proofs.lemmas.List.{length-map}
use Rattle.sy_grammar_base.specs.Questions.{Goal, goal_of, question_of}
use Rattle.sy_bank_level.specs.Bank.{merged_of}
use Rattle.sy_loop_bodies.proofs.Small.{kept_small}
use Rattle.sy_loop_beyond.proofs.search.solve_onwards.Goals as goal

pub solve_kept-requires-clause-kept : goal.solve_kept-requires-clause-kept
solve_kept-requires-clause-kept g c =
    rw c.kept-last.ensures (kept_small (question_of g.T.Theory.denotes c.args.task.now.problem.now) (merged_of g.T.Theory.denotes c.args.bank.now) c.args.level c.args.task.now.bound c.requires.bank c.requires.level)

pub solve_scanned-requires-clause-one : goal.solve_scanned-requires-clause-one
solve_scanned-requires-clause-one g c =
    omega (arith, ap (λ (goals : List Goal). length goals) c.requires.bank.one, length-map c.args.task.now.problem.now.wanted (goal_of g.T.Theory.denotes))

pub solve_again-requires-clause-one : goal.solve_again-requires-clause-one
solve_again-requires-clause-one g c =
    omega (arith, ap (λ (goals : List Goal). length goals) c.requires.bank.one, length-map c.args.task.now.problem.now.wanted (goal_of g.T.Theory.denotes))

pub returns : goal.returns
returns g c = c.solve_again.ensures
