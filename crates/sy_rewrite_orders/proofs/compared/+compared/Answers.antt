use Rattle.std.proofs.Common.{arith, refl, ◌<◌}
use Rattle.std.proofs.lemmas.Result.{IfOk-from_err}
use Rattle.sy_terms.specs.Expr.{nodes}
use Rattle.sy_terms.specs.Denoted.{expr_of, expr_of-App}
use Rattle.sy_rewrite_orders.proofs.Meanings.{choice_apart, here_falls, there_falls, three_appended}
use Rattle.sy_rewrite_orders.proofs.compared.+compared.Goals as goal

pub compared-requires : goal.compared-requires
compared-requires g t c κs within =
    let falls : nodes (expr_of g.T.Theory.denotes c.in-Some.parts.there.now) < nodes (expr_of g.T.Theory.denotes c.args.term.now) = rw (c.in-Some.ensures) (there_falls _ _ _) in
    (omega (arith, falls, c.decreases), within)

pub compared-requires-2 : goal.compared-requires-2
compared-requires-2 g t c κs within =
    let falls : nodes (expr_of g.T.Theory.denotes c.in-Some.parts.here.now) < nodes (expr_of g.T.Theory.denotes c.args.term.now) = rw (c.in-Some.ensures) (here_falls _ _ _) in
    (omega (arith, falls, c.decreases), within)

pub returns : goal.returns
returns g t c =
    let number = g.T.Theory.denotes in
    let arguments = three_appended number _ _ _ _ c.in_ok-test.test c.in_ok-there.there c.in_ok-here.here _ _ _ c.in_ok-arguments.ensures c.in_ok-push.ensures.ok c.in_ok-push-2.ensures.ok c.in_ok-push-3.ensures.ok c.in_ok-test.ensures refl refl in
    rw (expr_of-App, arguments, c.in-Some.ensures)
    (choice_apart c.args.with.now.operator (expr_of number c.args.with.now.known.now) c.args.with.now.is_first _ _ _ _ _ c.in_ok-there.ensures c.in_ok-here.ensures)

pub returns-in_err-arguments : goal.returns-in_err-arguments
returns-in_err-arguments g t c = IfOk-from_err c.from_residual-in_err-arguments.result _ c.from_residual-in_err-arguments.ensures.0

pub returns-in_err-test : goal.returns-in_err-test
returns-in_err-test g t c = IfOk-from_err c.from_residual-in_err-test.result _ c.from_residual-in_err-test.ensures.0

pub returns-in_err-push : goal.returns-in_err-push
returns-in_err-push g t c = IfOk-from_err c.from_residual-in_err-push.result _ c.from_residual-in_err-push.ensures.0

pub returns-in_err-there : goal.returns-in_err-there
returns-in_err-there g t c = IfOk-from_err c.from_residual-in_err-there.result _ c.from_residual-in_err-there.ensures.0

pub returns-in_err-push-2 : goal.returns-in_err-push-2
returns-in_err-push-2 g t c = IfOk-from_err c.from_residual-in_err-push-2.result _ c.from_residual-in_err-push-2.ensures.0

pub returns-in_err-here : goal.returns-in_err-here
returns-in_err-here g t c = IfOk-from_err c.from_residual-in_err-here.result _ c.from_residual-in_err-here.ensures.0

pub returns-in_err-push-3 : goal.returns-in_err-push-3
returns-in_err-push-3 g t c = IfOk-from_err c.from_residual-in_err-push-3.result _ c.from_residual-in_err-push-3.ensures.0
