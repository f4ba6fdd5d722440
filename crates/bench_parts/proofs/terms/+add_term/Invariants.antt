use Rattle.bench_parts.proofs.terms.+add_term.Given as goal

abbrev pub decreases-add_term : goal.decreases-add_term
decreases-add_term g l = l.place
