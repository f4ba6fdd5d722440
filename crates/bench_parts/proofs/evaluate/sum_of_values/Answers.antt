use Rattle.std.specs.Prelude.{[]}
use Rattle.std.proofs.Common.{sym, ◌∙◌}
use Rattle.bench_parts.proofs.evaluate.sum_of_values.Goals as goal

pub evaluate-requires-clause-term : goal.evaluate-requires-clause-term
evaluate-requires-clause-term g c =
    let sorts = rw c.in-Some-2.is at c.in_ok-values.ensures.sorts in
    let found = rw (c.as_slice.ensures, c.as_slice-2.ensures, c.new-wanted.ensures) at (sym c.in_ok-term_sort.ensures) in
    record { wanted = []; bodies = tt; fits = record { sort = c.in-Some.field-0; is = rw (c.as_slice-in-loop-round.ensures.value, sorts) (found ∙ c.in-Some.is) } }
