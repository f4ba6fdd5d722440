use Rattle.std.proofs.Common.{arith}
use Rattle.std.proofs.lemmas.List.{length-map}
use Rattle.sy_grammar_base.specs.Questions.{goal_of, question_of}
use Rattle.sy_bank_level.specs.Bank.{merged_of}
use Rattle.sy_bank_level.specs.Stored.{entry_of}
use Rattle.sy_loop_spec.specs.Stored.{history_of}
use Rattle.sy_loop_stages.proofs.Assigned.{one_bank}
use Rattle.sy_loop_stages.proofs.beyond.found_after_cause.Goals as goal

pub solve_beyond-requires-clause-bank : goal.solve_beyond-requires-clause-bank
solve_beyond-requires-clause-bank g c =
    let number = g.T.Theory.denotes in
    let problem = c.args.task.now.problem.now in
    let limits = c.args.stage.now.limits in
    let holds = rw c.in-Bank.is at c.requires.holds in
    one_bank (question_of number problem) limits.size limits.rounds limits.bank (history_of number c.in-Bank.field-0)
    c.in-Bank.field-1 (merged_of number c.in-Bank.bank) c.in-Bank.field-3 (entry_of number c.in-Bank.field-4)
    (omega (arith, c.requires.one, length-map problem.wanted (goal_of number))) holds
