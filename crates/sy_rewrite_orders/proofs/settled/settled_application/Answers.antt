use Rattle.std.proofs.Common.{refl}
use Rattle.sy_terms.specs.Denoted.{exprs_of, expr_of-App, expr_of-Const}
use Rattle.sy_meaning_words.specs.Vectors.{vector}
use Rattle.sy_rewrite_orders.proofs.TermsLaws.{truth-same}
use Rattle.sy_rewrite_orders.proofs.settled.settled_application.Goals as goal

pub returns-in-Some : goal.returns-in-Some
returns-in-Some c = rw (expr_of-Const) (truth-same c.args.sorts.now c.args.operator (exprs_of vector c.args.arguments.items.items) c.in-Some.truth (rw c.in-Some.is at c.in_ok-truth.ensures))

pub returns-in-None : goal.returns-in-None
returns-in-None c = rw (expr_of-App) (λ values sorted. refl)
