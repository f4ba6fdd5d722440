use Rattle.std.proofs.Common.{sym, ◌∙◌}
use Rattle.sy_terms.specs.Values.{Whole}
use Rattle.sy_terms.specs.Denoted.{expr_of, exprs_of}
use Rattle.sy_query_base.specs.Asked.{query_of}
use Rattle.sy_lower.specs.Stored.{progress_in}
use Rattle.sy_lower.proofs.Making.{its_own, is_lowered_to}
use Rattle.sy_lower.proofs.lowering.lowered.Goals as goal

pub returns-then-not-has_divisions : goal.returns-then-not-has_divisions
returns-then-not-has_divisions c = c.in_ok-copy.ensures ∙ its_own (query_of Whole c.args.query.now) (sym c.has_divisions.ensures ∙ c.if-not-has_divisions.true)

pub returns : goal.returns
returns c =
    is_lowered_to (query_of Whole c.args.query.now) (query_of Whole c.in_ok-found.found) (exprs_of Whole c.in_ok-names.names.items) (progress_in c.in_ok-progress.progress) _ (expr_of Whole c.in_ok-body.body) (sym c.has_divisions.ensures ∙ c.if-not-has_divisions.false)
    (rw c.len.ensures at c.in_ok-names.ensures) (rw c.as_slice.ensures at c.in_ok-progress.ensures) c.in_ok-body.ensures.lowered c.in_ok-found.ensures
