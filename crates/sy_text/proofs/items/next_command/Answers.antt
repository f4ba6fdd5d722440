use Rattle.std.proofs.Common.{drop, length}
use Rattle.sy_text.proofs.FoundItems.{answer_found, answer_none, answer_blank}
use Rattle.sy_text.proofs.Fitting.{answer_fits}
use Rattle.sy_text.proofs.Shorter.{drop_le}
use Rattle.sy_text.proofs.Lying.{answer_placed, answer_fault}
use Rattle.sy_text.proofs.Nests.{command_again, answers}
use Rattle.sy_text.proofs.items.next_command.Goals as goal

pub returns-clause-found : goal.returns-clause-found
returns-clause-found c = answer_found c.read_command.result (length c.args.bytes.now) (drop c.args.at c.args.bytes.now) c.read_command.ensures.exact

pub returns-clause-none : goal.returns-clause-none
returns-clause-none c = answer_none c.read_command.result (length c.args.bytes.now) (drop c.args.at c.args.bytes.now) c.read_command.ensures.exact

pub returns-clause-only : goal.returns-clause-only
returns-clause-only c = λ x gap text rest g h e.
    let again = command_again x (length c.args.bytes.now) (drop c.args.at c.args.bytes.now) gap text rest g h e in
    answers x again.0 _ _ c.read_command.result again.1 again.2 c.read_command.ensures.exact

pub returns-clause-fits : goal.returns-clause-fits
returns-clause-fits c = answer_fits c.read_command.result (length c.args.bytes.now) (drop c.args.at c.args.bytes.now) (answer_found c.read_command.result (length c.args.bytes.now) (drop c.args.at c.args.bytes.now) c.read_command.ensures.exact)

pub returns-clause-places : goal.returns-clause-places
returns-clause-places c = answer_placed c.read_command.result (length c.args.bytes.now) (drop c.args.at c.args.bytes.now) (drop_le c.args.at c.args.bytes.now) c.read_command.ensures.exact

pub returns-clause-fault : goal.returns-clause-fault
returns-clause-fault c = answer_fault c.read_command.result (length c.args.bytes.now) (drop c.args.at c.args.bytes.now) (drop_le c.args.at c.args.bytes.now) c.read_command.ensures.exact

pub returns-clause-blank : goal.returns-clause-blank
returns-clause-blank c = answer_blank c.read_command.result (length c.args.bytes.now) (drop c.args.at c.args.bytes.now) c.read_command.ensures.exact
