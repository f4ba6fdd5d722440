use Rattle.std.proofs.Common.{drop}
use Rattle.sy_meaning_integers.proofs.Folds.{Left}
use Rattle.sy_meaning_integers.proofs.steps.fold.Given as goal

abbrev pub invariant-loop-value : goal.invariant-loop-value
invariant-loop-value g l = Left g.S.Step.exact l.first l.rest l.total (drop l.value-index l.rest)
