use Rattle.std.proofs.Common.{◌∙◌, sym, ap}
use Rattle.sy_forms_items.specs.Environments.{or_else}
use Rattle.sy_forms_items.specs.Operators.{core_operators, theory_operators, operator_spelled}
use Rattle.sy_forms_items.proofs.Lookups.{spelled-append}
use Rattle.sy_forms_items.proofs.operators.operator_named.Goals as goal

pub returns-in-Some : goal.returns-in-Some
returns-in-Some c =
    sym (spelled-append c.args.name.now core_operators (theory_operators c.args.logic)
    ∙ ap (λ found. or_else found (operator_spelled c.args.name.now (theory_operators c.args.logic))) (sym c.spelled.ensures ∙ c.in-Some.is))
