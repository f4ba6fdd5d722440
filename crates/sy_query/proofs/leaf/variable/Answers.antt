use Rattle.std.proofs.lemmas.Result.{IfOk-from_err}
use Rattle.sy_query.proofs.Leaves as leaf
use Rattle.sy_query.proofs.leaf.variable.Goals as goal

pub returns-in_err-take-clause-heavy : goal.returns-in_err-take-clause-heavy
returns-in_err-take-clause-heavy g c =
    leaf.any_err c.from_residual.result (leaf.var-heavy _ _ _ _ _ _ c.requires.within c.index-sort.ensures c.sort_weight.ensures.is c.in_err-take.ensures.heavy)

pub returns-clause-ok : goal.returns-clause-ok
returns-clause-ok g c =
    leaf.var-built _ _ g.T.Theory.denotes _ _ _ _ _ _ _ _ c.requires.within c.index-sort.ensures c.sort_weight.ensures.is c.in_ok-take.ensures.ok c.take.ensures.counted c.position.ensures.weight c.position.ensures.counted c.position.ensures.position

pub returns-in_err-take-clause-ok : goal.returns-in_err-take-clause-ok
returns-in_err-take-clause-ok g c = IfOk-from_err c.from_residual.result _ c.from_residual.ensures.0
