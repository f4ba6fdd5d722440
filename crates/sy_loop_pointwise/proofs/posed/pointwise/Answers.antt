use Rattle.std.proofs.lemmas.Result.{IfOk-from_err}
use Rattle.sy_grammar_base.specs.Questions.{question_of}
use Rattle.sy_loop_spec.specs.Pointwise.{IsPointwise}
use Rattle.sy_loop_pointwise.specs.Posed.{ArePosed}
use Rattle.sy_loop_pointwise.proofs.Constraints.{answered}
use Rattle.sy_loop_pointwise.proofs.posed.pointwise.Goals as goal

pub returns : goal.returns
returns g c =
    let question = question_of g.T.Theory.denotes c.args.problem.now in
    answered c.in_ok-posed.posed (IsPointwise question) (λ all. ArePosed question all.items) c.is_some.result c.is_some.ensures c.in_ok-posed.ensures

pub returns-in_err-posed : goal.returns-in_err-posed
returns-in_err-posed g c = IfOk-from_err c.from_residual.result _ c.from_residual.ensures.0
