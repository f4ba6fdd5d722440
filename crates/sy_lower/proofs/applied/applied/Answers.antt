use Rattle.sy_terms.specs.Values.{Whole}
use Rattle.sy_terms.specs.Denoted.{exprs_of, expr_of-App}
use Rattle.sy_lower.specs.Stored.{progress_in}
use Rattle.sy_lower.proofs.Making as step
use Rattle.sy_lower.proofs.applied.applied.Goals as goal

pub returns-in_ok-found-in-Div : goal.returns-in_ok-found-in-Div
returns-in_ok-found-in-Div c =
    step.applied_divides c.args.operator.now (progress_in c.args.progress.now) _ (exprs_of Whole c.args.terms.items.items) _ c.in-Div.is (rw c.as_slice.ensures at c.in_ok-found-in-Div.ensures)

pub returns-in_ok-found-in-Mod : goal.returns-in_ok-found-in-Mod
returns-in_ok-found-in-Mod c = step.applied_reduces c.args.operator.now (progress_in c.args.progress.now) _ (exprs_of Whole c.args.terms.items.items) _ c.in-Mod.is c.in_ok-found-in-Mod.ensures

pub returns-in_ok-found-in-Abs : goal.returns-in_ok-found-in-Abs
returns-in_ok-found-in-Abs c = step.applied_unsigned c.args.operator.now (progress_in c.args.progress.now) _ (exprs_of Whole c.args.terms.items.items) _ c.in-Abs.is c.in_ok-found-in-Abs.ensures

pub returns-in_default : goal.returns-in_default
returns-in_default c =
    step.applied_itself c.args.operator.now (progress_in c.args.progress.now) (exprs_of Whole c.args.terms.items.items) _ c.in_default.not-Div c.in_default.not-Mod c.in_default.not-Abs (expr_of-App Whole c.args.operator.now c.args.terms)
