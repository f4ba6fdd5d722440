use Rattle.std.proofs.Common.{◌≡◌, min, take}
use Rattle.sy_terms.specs.Denoted.{exprs_of}
use Rattle.sy_scope_steps.specs.Sizes.{expr_sizes}
use Rattle.sy_scope_steps.proofs.measures.+size.Given as goal

abbrev pub invariant-unfolded_sizes-loop-term : goal.invariant-unfolded_sizes-loop-term
invariant-unfolded_sizes-loop-term g l = l.total ≡ min l.cap (expr_sizes l.sizes (exprs_of g.T.Theory.denotes (take l.term-index l.terms)))
