use Rattle.std.proofs.Common.{◌≡◌, map}
use Rattle.std.specs.List.{range_with_len}
use Rattle.sygus_drills.specs.Examples.{state_at, example_of}
use Rattle.sygus_drills.proofs.generator.examples.Given as goal

abbrev pub invariant-loop : goal.invariant-loop
invariant-loop l = record {
  state : l.state ≡ state_at l.number l.counter;
  examples : l.examples ≡ map (λ i. example_of l.number (state_at l.number i)) (range_with_len 1 l.counter);
}
