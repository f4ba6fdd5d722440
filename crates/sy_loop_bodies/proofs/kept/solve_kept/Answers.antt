use Rattle.sy_bank_level.specs.Banks.{Entry}
use Rattle.sy_bank_level.specs.Stored.{entry_of}
use Rattle.sy_loop_bodies.specs.Clauses.{IsSmallFor}
use Rattle.sy_loop_truth.proofs.Items.{all_at}
use Rattle.sy_loop_bodies.proofs.kept.solve_kept.Goals as goal

pub try_body-requires-clause-term : goal.try_body-requires-clause-term
try_body-requires-clause-term g c =
    rw c.in_ok-term.ensures
    (all_at (λ (entry : Entry). IsSmallFor g.T.Theory c.args.task.now.problem.now c.args.task.now.bound entry.term) (entry_of g.T.Theory.denotes) c.args.kept.now c.loop-entry.entry-index c.entry-item.result c.loop-entry-test.true c.entry-item.is c.requires.kept)
