use Rattle.std.proofs.Common.{refl}
use Rattle.sy_grammar_base.specs.Written.{pattern_of-Const, pattern_of-Var, pattern_of-Non, pattern_of-App, pattern_of-Call}
use Rattle.sy_grammar_sizes.proofs.chains.chain_of.Goals as goal

pub returns-in-Non : goal.returns-in-Non
returns-in-Non g c = rw (c.in-Term.is, c.in-Non.is, pattern_of-Non) refl

pub returns-in-Const : goal.returns-in-Const
returns-in-Const g c = rw (c.in-Term.is, c.in-Const.is, pattern_of-Const) (λ to e. cc)

pub returns-in-Var : goal.returns-in-Var
returns-in-Var g c = rw (c.in-Term.is, c.in-Var.is, pattern_of-Var) (λ to e. cc)

pub returns-in-App : goal.returns-in-App
returns-in-App g c = rw (c.in-Term.is, c.in-App.is, pattern_of-App) (λ to e. cc)

pub returns-in-Call : goal.returns-in-Call
returns-in-Call g c = rw (c.in-Term.is, c.in-Call.is, pattern_of-Call) (λ to e. cc)
