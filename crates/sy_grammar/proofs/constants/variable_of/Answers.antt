use Rattle.std.proofs.Common.{refl}
use Rattle.std.proofs.lemmas.Option.{slice_get_read}
use Rattle.sy_terms.specs.Denoted.{expr_of-Const, expr_of-Var, expr_of-App, expr_of-Call, expr_of-Let}
use Rattle.sy_grammar.proofs.Literals.{named, variable_made, no_variable_sorted, no_variable_past}
use Rattle.sy_grammar.proofs.constants.variable_of.Goals as goal

pub returns-then-same_sort : goal.returns-then-same_sort
returns-then-same_sort g c = rw (c.in-Var.is, expr_of-Var) (variable_made c.args.sort c.in-Some.found.now c.args.arguments.now _ c.in-Var.position (slice_get_read _ _ _ _ refl c.in-Some.ensures.lookup.3.0 c.in-Some.ensures.lookup.1) (let h = c.same_sort.ensures in let k = c.if-same_sort.true in cc) refl)

pub returns-else-same_sort : goal.returns-else-same_sort
returns-else-same_sort g c = rw (c.in-Var.is, expr_of-Var) (λ p. no_variable_sorted c.args.sort c.in-Some.found.now c.args.arguments.now _ c.in-Var.position p (slice_get_read _ _ _ _ refl c.in-Some.ensures.lookup.3.0 c.in-Some.ensures.lookup.1) (let h = c.same_sort.ensures in let k = c.if-same_sort.false in cc) refl)

pub returns-in-None : goal.returns-in-None
returns-in-None g c = rw (c.in-Var.is, expr_of-Var) (λ p. no_variable_past c.args.sort c.args.arguments.now _ c.in-Var.position p c.in-None.ensures.lookup.3 refl)

pub returns-in-Const : goal.returns-in-Const
returns-in-Const g c = rw (c.in-Const.is, expr_of-Const) (λ p e. let n = named c.args.sort c.args.arguments.now _ p e in let h = n.is in cc)

pub returns-in-App : goal.returns-in-App
returns-in-App g c = rw (c.in-App.is, expr_of-App) (λ p e. let n = named c.args.sort c.args.arguments.now _ p e in let h = n.is in cc)

pub returns-in-Call : goal.returns-in-Call
returns-in-Call g c = rw (c.in-Call.is, expr_of-Call) (λ p e. let n = named c.args.sort c.args.arguments.now _ p e in let h = n.is in cc)

pub returns-in-Let : goal.returns-in-Let
returns-in-Let g c = rw (c.in-Let.is, expr_of-Let) (λ p e. let n = named c.args.sort c.args.arguments.now _ p e in let h = n.is in cc)
