use Rattle.std.proofs.Common.{◌≡◌, ◌∙◌, ◌++◌, ◌∷◌, [], List, ap, length}
use Rattle.std.proofs.lemmas.Result.{IfOk-from_err}
use Rattle.sy_cdcl.specs.declared.store.Span.{Span}
use Rattle.sy_cdcl.specs.declared.store.Store.{Store}
use Rattle.sy_cdcl.proofs.Storing.{stored_more, fit_more}
use Rattle.sy_cdcl.proofs.store.Store.push.Goals as goal

pub returns-clause-clauses : goal.returns-clause-clauses
returns-clause-clauses c =
    let span : Span = record { start = c.in_ok-start.start; end = c.in_ok-end.end } in
    let new : Store = record { codes = c.extend.new.self.codes; spans = c.push.new.self } in
    stored_more c.args.self.now new c.args.clause.now span c.requires c.in_ok-extend.ensures.codes
    (c.in_ok-push.ensures.items ∙ ap (λ (xs : List Span). xs ++ span ∷ []) c.extend.ensures.spans)
    (c.in_ok-start.ensures ∙ ap length c.deref.ensures.value) (c.in_ok-end.ensures ∙ ap length c.deref-2.ensures.value)

pub returns-clause-fit : goal.returns-clause-fit
returns-clause-fit c =
    let span : Span = record { start = c.in_ok-start.start; end = c.in_ok-end.end } in
    let new : Store = record { codes = c.extend.new.self.codes; spans = c.push.new.self } in
    fit_more c.args.self.now new c.args.clause.now span c.requires c.in_ok-extend.ensures.codes
    (c.in_ok-push.ensures.items ∙ ap (λ (xs : List Span). xs ++ span ∷ []) c.extend.ensures.spans)
    (c.in_ok-start.ensures ∙ ap length c.deref.ensures.value) (c.in_ok-end.ensures ∙ ap length c.deref-2.ensures.value)

pub returns-in_err-start-clause-clauses : goal.returns-in_err-start-clause-clauses
returns-in_err-start-clause-clauses c = IfOk-from_err c.from_residual.result _ c.from_residual.ensures.0

pub returns-in_err-start-clause-fit : goal.returns-in_err-start-clause-fit
returns-in_err-start-clause-fit c = IfOk-from_err c.from_residual.result _ c.from_residual.ensures.0

pub returns-in_err-extend-clause-clauses : goal.returns-in_err-extend-clause-clauses
returns-in_err-extend-clause-clauses c = IfOk-from_err c.from_residual-in_err-extend.result _ c.from_residual-in_err-extend.ensures.0

pub returns-in_err-extend-clause-fit : goal.returns-in_err-extend-clause-fit
returns-in_err-extend-clause-fit c = IfOk-from_err c.from_residual-in_err-extend.result _ c.from_residual-in_err-extend.ensures.0

pub returns-in_err-end-clause-clauses : goal.returns-in_err-end-clause-clauses
returns-in_err-end-clause-clauses c = IfOk-from_err c.from_residual-in_err-end.result _ c.from_residual-in_err-end.ensures.0

pub returns-in_err-end-clause-fit : goal.returns-in_err-end-clause-fit
returns-in_err-end-clause-fit c = IfOk-from_err c.from_residual-in_err-end.result _ c.from_residual-in_err-end.ensures.0

pub returns-in_err-push-clause-clauses : goal.returns-in_err-push-clause-clauses
returns-in_err-push-clause-clauses c = IfOk-from_err c.from_residual-in_err-push.result _ c.from_residual-in_err-push.ensures.0

pub returns-in_err-push-clause-fit : goal.returns-in_err-push-clause-fit
returns-in_err-push-clause-fit c = IfOk-from_err c.from_residual-in_err-push.result _ c.from_residual-in_err-push.ensures.0
