use Rattle.std.proofs.Common.{sym, ◌∙◌}
use Rattle.sy_terms.specs.Values.{Whole}
use Rattle.sy_terms.specs.Denoted.{expr_of}
use Rattle.sy_lower.specs.Stored.{progress_in}
use Rattle.sy_lower.proofs.Making.{is_variable_itself, is_made_variable}
use Rattle.sy_lower.proofs.applied.as_variable.Goals as goal

pub returns-then-is_variable : goal.returns-then-is_variable
returns-then-is_variable c = is_variable_itself (progress_in c.args.progress.now) (expr_of Whole c.args.term) (sym c.is_variable.ensures ∙ c.if-is_variable.true)

pub returns : goal.returns
returns c = is_made_variable (progress_in c.args.progress.now) _ (expr_of Whole c.args.term) _ (sym c.is_variable.ensures ∙ c.if-is_variable.false) c.in_ok-variable.ensures
