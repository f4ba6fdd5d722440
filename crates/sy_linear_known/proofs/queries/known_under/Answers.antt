use Rattle.std.proofs.Common.{sym, subst}
use Rattle.std.proofs.lemmas.Result.{IfOk-from_err}
use Rattle.sy_terms.specs.Values.{Whole}
use Rattle.sy_terms.specs.Denoted.{expr_of}
use Rattle.sy_linear_known.specs.Right.{KnownIsRight, IsMisfit}
use Rattle.sy_linear_known.specs.Stored.{linear_query_of}
use Rattle.sy_linear_known.proofs.Agreement.{known_right}
use Rattle.sy_linear_known.proofs.Decided.{known_misfit}
use Rattle.sy_linear_known.proofs.Walking.{known_is}
use Rattle.sy_linear_known.proofs.queries.known_under.Goals as goal

pub returns-clause-known : goal.returns-clause-known
returns-clause-known c = known_is c.as_slice-vars.result.now c.args.q.now.vars c.in_ok-path.path c.args.facts.now c.in_ok-names.names.items (expr_of Whole c.args.q.now.body) c.in_ok-seen.seen c.known_of.result c.known_of.ensures c.in_ok-seen.ensures.seen c.in_ok-names.ensures.sights c.as_slice-vars.ensures c.in_ok-path.ensures

pub returns-clause-right : goal.returns-clause-right
returns-clause-right c =
    let is = known_is c.as_slice-vars.result.now c.args.q.now.vars c.in_ok-path.path c.args.facts.now c.in_ok-names.names.items (expr_of Whole c.args.q.now.body) c.in_ok-seen.seen c.known_of.result c.known_of.ensures c.in_ok-seen.ensures.seen c.in_ok-names.ensures.sights c.as_slice-vars.ensures c.in_ok-path.ensures in
    subst (λ k. KnownIsRight (linear_query_of c.args.q.now) c.args.facts.now k) (sym is) (known_right (linear_query_of c.args.q.now) c.args.facts.now)

pub returns-clause-range : goal.returns-clause-range
returns-clause-range c fits =
    let is = known_is c.as_slice-vars.result.now c.args.q.now.vars c.in_ok-path.path c.args.facts.now c.in_ok-names.names.items (expr_of Whole c.args.q.now.body) c.in_ok-seen.seen c.known_of.result c.known_of.ensures c.in_ok-seen.ensures.seen c.in_ok-names.ensures.sights c.as_slice-vars.ensures c.in_ok-path.ensures in
    subst (λ k. IsMisfit (linear_query_of c.args.q.now) c.args.facts.now k) (sym is) (known_misfit (linear_query_of c.args.q.now) c.args.facts.now fits)

pub returns-in_err-names-clause-known : goal.returns-in_err-names-clause-known
returns-in_err-names-clause-known c = IfOk-from_err c.from_residual.result _ c.from_residual.ensures.0

pub returns-in_err-names-clause-right : goal.returns-in_err-names-clause-right
returns-in_err-names-clause-right c = IfOk-from_err c.from_residual.result _ c.from_residual.ensures.0

pub returns-in_err-names-clause-range : goal.returns-in_err-names-clause-range
returns-in_err-names-clause-range c = λ _. IfOk-from_err c.from_residual.result _ c.from_residual.ensures.0

pub returns-in_err-path-clause-known : goal.returns-in_err-path-clause-known
returns-in_err-path-clause-known c = IfOk-from_err c.from_residual-in_err-path.result _ c.from_residual-in_err-path.ensures.0

pub returns-in_err-path-clause-right : goal.returns-in_err-path-clause-right
returns-in_err-path-clause-right c = IfOk-from_err c.from_residual-in_err-path.result _ c.from_residual-in_err-path.ensures.0

pub returns-in_err-path-clause-range : goal.returns-in_err-path-clause-range
returns-in_err-path-clause-range c = λ _. IfOk-from_err c.from_residual-in_err-path.result _ c.from_residual-in_err-path.ensures.0

pub returns-in_err-seen-clause-known : goal.returns-in_err-seen-clause-known
returns-in_err-seen-clause-known c = IfOk-from_err c.from_residual-in_err-seen.result _ c.from_residual-in_err-seen.ensures.0

pub returns-in_err-seen-clause-right : goal.returns-in_err-seen-clause-right
returns-in_err-seen-clause-right c = IfOk-from_err c.from_residual-in_err-seen.result _ c.from_residual-in_err-seen.ensures.0

pub returns-in_err-seen-clause-range : goal.returns-in_err-seen-clause-range
returns-in_err-seen-clause-range c = λ _. IfOk-from_err c.from_residual-in_err-seen.result _ c.from_residual-in_err-seen.ensures.0
