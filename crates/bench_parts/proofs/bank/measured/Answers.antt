use Rattle.bench_parts.proofs.bank.measured.Goals as goal

pub build-requires-clause-points : goal.build-requires-clause-points
build-requires-clause-points g c = rw (c.new-grammar.ensures.args, c.in_ok-args.ensures) c.in_ok-points.ensures
