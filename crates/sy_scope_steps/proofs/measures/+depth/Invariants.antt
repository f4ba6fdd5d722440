use Rattle.std.proofs.Common.{◌≡◌, min, take}
use Rattle.sy_terms.specs.Denoted.{exprs_of}
use Rattle.sy_scope_steps.specs.Sizes.{expr_depths}
use Rattle.sy_scope_steps.proofs.measures.+depth.Given as goal

abbrev pub invariant-unfolded_depths-loop-term : goal.invariant-unfolded_depths-loop-term
invariant-unfolded_depths-loop-term g l = l.greatest ≡ min l.cap (expr_depths l.depths (exprs_of g.T.Theory.denotes (take l.term-index l.terms)))
