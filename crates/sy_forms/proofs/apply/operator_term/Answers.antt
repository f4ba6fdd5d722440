use Rattle.std.proofs.Common.{◌≡◌, ◌∙◌, ap, sym, true, false}
use Rattle.std.specs.Prelude.{if◌then◌else◌, Ok}
use Rattle.sy_terms.specs.Sorts.{sort_of}
use Rattle.sy_terms.specs.declared.sorts.Sorted.{Sorted}
use Rattle.sy_scope_causes.specs.declared.cause.Cause.TheVariants as cause
use Rattle.sy_forms_items.specs.Meant.{phrases_of}
use Rattle.sy_forms_items.specs.Phrases as phrase
use Rattle.sy_forms_items.specs.Readings.{refuse}
use Rattle.sy_forms_linear.specs.Linear.{is_linear}
use Rattle.sy_forms.specs.Terms.{operation_by, typed}
use Rattle.sy_forms.proofs.apply.operator_term.Goals as goal

pub returns-then-is_linear : goal.returns-then-is_linear
returns-then-is_linear g c =
    let constants = c.args.constants.now in
    let divisors = c.args.divisors.now in
    let arguments = phrases_of g.T.Theory.denotes c.args.arguments.phrases.items.items in
    let linear = ap (λ xs. is_linear constants divisors c.args.operator (phrases_of g.T.Theory.denotes xs)) (sym c.as_slice-in-Is.ensures) ∙ sym c.is_linear.ensures ∙ c.if-is_linear.true in
    ap (operation_by constants divisors c.args.place c.args.operator arguments) (ap (sort_of c.args.operator) (sym c.as_slice.ensures) ∙ sym c.operator_sort.ensures ∙ c.in-Is.is)
    ∙ ap (λ b. if b then typed (phrase.Operation c.args.operator arguments) c.in-Is.sort else refuse c.args.place cause.Nonlinear) linear
    ∙ ap Ok (sym c.operation.ensures)

pub returns-else-is_linear : goal.returns-else-is_linear
returns-else-is_linear g c =
    let constants = c.args.constants.now in
    let divisors = c.args.divisors.now in
    let arguments = phrases_of g.T.Theory.denotes c.args.arguments.phrases.items.items in
    let linear = ap (λ xs. is_linear constants divisors c.args.operator (phrases_of g.T.Theory.denotes xs)) (sym c.as_slice-in-Is.ensures) ∙ sym c.is_linear.ensures ∙ c.if-is_linear.false in
    ap (operation_by constants divisors c.args.place c.args.operator arguments) (ap (sort_of c.args.operator) (sym c.as_slice.ensures) ∙ sym c.operator_sort.ensures ∙ c.in-Is.is)
    ∙ ap (λ b. if b then typed (phrase.Operation c.args.operator arguments) c.in-Is.sort else refuse c.args.place cause.Nonlinear) linear
