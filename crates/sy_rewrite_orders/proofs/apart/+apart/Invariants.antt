use Rattle.std.proofs.Common.{take}
use Rattle.sy_terms.specs.Denoted.{exprs_of}
use Rattle.sy_rewrite_orders.specs.Alike.{AreAlike}
use Rattle.sy_rewrite_orders.proofs.apart.+apart.Given as goal

abbrev pub invariant-all_apart-loop-term : goal.invariant-all_apart-loop-term
invariant-all_apart-loop-term g l = AreAlike (exprs_of g.T.Theory.denotes l.all.items.items) (exprs_of g.T.Theory.denotes (take l.term-index l.terms))
