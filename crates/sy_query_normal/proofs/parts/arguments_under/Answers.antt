use Rattle.std.proofs.Common.{◌∙◌, ap}
use Rattle.sy_terms.specs.Expr.{Apply}
use Rattle.sy_terms.specs.Denoted.{exprs_of}
use Rattle.sy_terms_operators.proofs.Steps.{app-is}
use Rattle.sy_meaning_words.specs.Vectors.{vector}
use Rattle.sy_query_normal.proofs.parts.arguments_under.Goals as goal

pub returns-clause-is : goal.returns-clause-is
returns-clause-is c =
    app-is vector c.args.term.now c.in-App.inner c.in-App.arguments c.in-App.is ∙ ap (λ operator. Apply operator (exprs_of vector c.in-App.arguments.items.items)) (c.equals.ensures.0 c.if-not-equals.false)
