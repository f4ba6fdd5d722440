use Rattle.std.specs.Prelude.{◌≡◌, Ok}
use Rattle.std.proofs.Common.{sym, ◌∙◌, ap, subst}
use Rattle.sy_linear_known.specs.declared.path.Fact.{Fact}
use Rattle.sy_linear.specs.Judging.{AnswersAt, Adds, split_outcome}
use Rattle.sy_intsolve_paths_laws.specs.Paths.{TestIsOpen}
use Rattle.sy_intsolve_order.proofs.Openings.{form_opens, truth_opens, not_given}
use Rattle.sy_intsolve_order.proofs.splitting.can_split.Goals as goal

pub returns-in-AtLeast : goal.returns-in-AtLeast
returns-in-AtLeast c can path =
    let gives = subst (λ r. AnswersAt {A = Fact × Fact} 0 r (split_outcome c.args.vars.now c.args.test.now)) (c.in-Ok-Some.is ∙ ap Ok c.in-Ok-Some.field-0-is) c.split.ensures in
    subst (TestIsOpen c.args.vars.now c.args.facts.now) (sym c.in-AtLeast.is)
    (form_opens c.args.vars.now c.args.facts.now c.in-AtLeast.form c.in-Ok-Some.field-0-0
    (subst (λ t. split_outcome c.args.vars.now t ≡ Adds c.in-Ok-Some.field-0-0) c.in-AtLeast.is gives) (c.is_form-can.ensures.0 can) path)

pub returns-in-Holds : goal.returns-in-Holds
returns-in-Holds c can path =
    let gives = subst (λ r. AnswersAt {A = Fact × Fact} 0 r (split_outcome c.args.vars.now c.args.test.now)) (c.in-Ok-Some.is ∙ ap Ok c.in-Ok-Some.field-0-is) c.split.ensures in
    subst (TestIsOpen c.args.vars.now c.args.facts.now) (sym c.in-Holds.is)
    (truth_opens c.args.vars.now c.args.facts.now c.in-Holds.variable c.in-Ok-Some.field-0-0
    (subst (λ t. split_outcome c.args.vars.now t ≡ Adds c.in-Ok-Some.field-0-0) c.in-Holds.is gives)
    (sym c.given.ensures ∙ not_given c.given.result c.is_none-can.result c.is_none-can.ensures can) path)
