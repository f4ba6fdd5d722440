use Rattle.std.proofs.Common.{sym, ◌∙◌, ap}
use Rattle.std.proofs.lemmas.Result.{IfOk-from_err}
use Rattle.sy_terms.specs.Sorts.{sort_of}
use Rattle.sy_query.proofs.Leaves as leaf
use Rattle.sy_query.proofs.leaf.apply.Goals as goal

pub returns-in_err-take-clause-heavy : goal.returns-in_err-take-clause-heavy
returns-in_err-take-clause-heavy g c =
    leaf.any_err c.from_residual.result (leaf.applied-heavy g.T.Theory.denotes _ _ _ _ _ _ _ _ (sym (c.in-Is.ensures ∙ ap (sort_of c.args.operator.now) c.as_slice.ensures.value)) c.len.ensures c.sort_weight.ensures.is c.operator_weight.ensures c.in_err-take.ensures.heavy)

pub returns-clause-ok : goal.returns-clause-ok
returns-clause-ok g c =
    leaf.applied-built g.T.Theory.denotes _ _ _ _ _ _ _ _ _ (sym (c.in-Is.ensures ∙ ap (sort_of c.args.operator.now) c.as_slice.ensures.value)) c.len.ensures c.sort_weight.ensures.is c.operator_weight.ensures c.in_ok-take.ensures.ok c.take.ensures.counted

pub returns-in_err-take-clause-ok : goal.returns-in_err-take-clause-ok
returns-in_err-take-clause-ok g c = IfOk-from_err c.from_residual.result _ c.from_residual.ensures.0
