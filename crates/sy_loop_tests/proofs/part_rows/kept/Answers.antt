use Rattle.sy_bank_level.specs.Shared.{term_from-Leaf}
use Rattle.sy_loop_tests.proofs.part_rows.kept.Goals as goal

pub returns : goal.returns
returns g c =
    let row = rw c.expect-row.ensures at c.term_row.ensures.ok in
    let grown = rw c.expect-grown.ensures at c.new.ensures.ok in
    rw (grown, term_from-Leaf, c.from.ensures) row
