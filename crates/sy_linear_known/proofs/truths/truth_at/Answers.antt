use Rattle.std.proofs.Common.{sym, ap, ◌∙◌}
use Rattle.std.proofs.lemmas.Result.{IfOk-from_err}
use Rattle.sy_terms.specs.Sorts.{sort_of}
use Rattle.sy_linear_known.proofs.Valid.{all_valid}
use Rattle.sy_linear_known.proofs.truths.truth_at.Goals as goal

pub core_value-requires-clause-sorted : goal.core_value-requires-clause-sorted
core_value-requires-clause-sorted c = record {
  sort = c.in-Is.field-0;
  fits = sym (c.operator_sort.ensures ∙ ap (sort_of c.args.operator.now) (c.as_slice.ensures ∙ c.in_ok-sorts.ensures)) ∙ c.in-Is.is;
  each = all_valid c.args.values.now;
}

pub returns-in_err-sorts : goal.returns-in_err-sorts
returns-in_err-sorts c = IfOk-from_err c.from_residual.result _ c.from_residual.ensures.0
