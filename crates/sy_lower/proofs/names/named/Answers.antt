use Rattle.std.proofs.Common.{sym, ◌∙◌}
use Rattle.sy_terms.specs.Values.{Whole}
use Rattle.sy_terms.specs.Denoted.{expr_of}
use Rattle.sy_lower.specs.Stored.{progress_in}
use Rattle.sy_lower.proofs.Making.{named_itself, named_fresh, named_unsorted}
use Rattle.sy_lower.proofs.names.named.Goals as goal

pub returns-then-is_name : goal.returns-then-is_name
returns-then-is_name c = named_itself (progress_in c.args.progress.now) (expr_of Whole c.args.term) (sym c.is_name.ensures ∙ c.if-is_name.true)

pub returns-in_ok-variable-in-Some : goal.returns-in_ok-variable-in-Some
returns-in_ok-variable-in-Some c =
    named_fresh (progress_in c.args.progress.now) _ (expr_of Whole c.args.term) _ c.in-Some.sort (sym c.is_name.ensures ∙ c.if-is_name.false) (sym c.in-Some.is ∙ rw c.as_slice-sorts.ensures.value at c.in_ok-found.ensures) c.in_ok-variable-in-Some.ensures

pub returns-in-None : goal.returns-in-None
returns-in-None c = named_unsorted (progress_in c.args.progress.now) (expr_of Whole c.args.term) (sym c.is_name.ensures ∙ c.if-is_name.false) (sym c.in-None.is ∙ rw c.as_slice-sorts.ensures.value at c.in_ok-found.ensures)
