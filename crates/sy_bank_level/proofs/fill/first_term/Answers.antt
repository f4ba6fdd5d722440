use Rattle.std.proofs.lemmas.Result.{IfOk-from_err}
use Rattle.sy_terms.specs.Denoted.{expr_of-Var}
use Rattle.sy_bank_level.proofs.Fillings.{first-missing, first-there}
use Rattle.sy_bank_level.proofs.fill.first_term.Goals as goal

pub returns-in-None : goal.returns-in-None
returns-in-None g c = rw (expr_of-Var) (first-missing g.T.Theory.denotes c.args.terms.now c.in-None.ensures.value)

pub returns-in_err-copy-in-Some : goal.returns-in_err-copy-in-Some
returns-in_err-copy-in-Some g c = IfOk-from_err c.from_residual.result _ c.from_residual.ensures.0

pub returns-in_ok-copy-in-Some : goal.returns-in_ok-copy-in-Some
returns-in_ok-copy-in-Some g c = first-there g.T.Theory.denotes c.args.terms.now c.in-Some.term.now c.in_ok-copy-in-Some.copy c.in-Some.ensures.value c.in_ok-copy-in-Some.ensures
