use Rattle.std.proofs.Common.{drop}
use Rattle.sy_meaning_integers.proofs.Ordered.{Rest}
use Rattle.sy_meaning_integers.proofs.order.follow.Given as goal

abbrev pub invariant-loop-value : goal.invariant-loop-value
invariant-loop-value g l = Rest g.R.Relation.related l.first l.rest l.last (drop l.value-index l.rest)
