use Rattle.std.proofs.Common.{ap, ◌∙◌}
use Rattle.sy_terms.specs.Values.{Whole}
use Rattle.sy_terms.specs.Expr.{Variable}
use Rattle.sy_terms.specs.Denoted.{expr_of, expr_of-Var}
use Rattle.sy_lower.specs.Stored.{progress_in}
use Rattle.sy_lower.proofs.Lists.{pushed}
use Rattle.sy_lower.proofs.Making.{equates}
use Rattle.sy_lower.proofs.progress.Progress.equate.Goals as goal

pub returns : goal.returns
returns c =
    equates (progress_in c.args.self.now) c.args.sort _ (expr_of Whole c.args.term) (expr_of Whole c.in_ok-equation.equation) _ _ (expr_of-Var _ Whole _ ∙ ap Variable c.in_ok-variable.ensures.variable) c.in_ok-variable.ensures.sorts
    c.in_ok-equation.ensures (pushed _ _ c.in_ok-equation.equation c.in_ok-push.ensures.ok)
