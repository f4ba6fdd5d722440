use Rattle.std.proofs.Common.{◌≡◌, ◌∙◌, ap, sym, length, refl, arith}
use Rattle.std.proofs.lemmas.List.{length-map, length_push}
use Rattle.std.proofs.lemmas.Option.{none-some}
use Rattle.std.proofs.lemmas.Result.{IfOk-from_err}
use Rattle.sy_terms.specs.Denoted.{expr_of}
use Rattle.sy_grammar_base.specs.Questions.{goal_of, question_of}
use Rattle.sy_loop_pointwise.specs.Posed.{ArePosed}
use Rattle.sy_loop_pointwise.proofs.Constraints.{all_posed, constraint_at, kept_more, not_pointwise}
use Rattle.sy_loop_pointwise.proofs.posed.pose.Goals as goal

pub returns-then-len-ne1 : goal.returns-then-len-ne1
returns-then-len-ne1 g c = λ pointwise. c.if-len-ne1.true (c.len.ensures ∙ sym (length-map c.args.problem.now.wanted (goal_of g.T.Theory.denotes)) ∙ pointwise.one)

pub loop-constraint-init : goal.loop-constraint-init
loop-constraint-init g c = rw (c.in_ok-all.ensures.items) (record { many = refl; each = λ place constraint posed at found. absurd (none-some posed found) })

pub returns-in-None : goal.returns-in-None
returns-in-None g c =
    let number = g.T.Theory.denotes in
    let l = c.loop-constraint in
    let term = c.constraint-item.result in
    let at = constraint_at number c.args.problem.now.constraints c.as_slice-constraint-items.result.now l.constraint-index term c.as_slice-constraint-items.ensures c.loop-constraint-test.true c.constraint-item.is in
    let never = rw (c.in-None.is) at c.in_ok-posed.ensures in
    not_pointwise (question_of number c.args.problem.now) l.constraint-index (expr_of number term) at never

pub loop-constraint-preserved : goal.loop-constraint-preserved
loop-constraint-preserved g c =
    let number = g.T.Theory.denotes in
    let l = c.loop-constraint in
    let term = c.constraint-item.result in
    let at = constraint_at number c.args.problem.now.constraints c.as_slice-constraint-items.result.now l.constraint-index term c.as_slice-constraint-items.ensures c.loop-constraint-test.true c.constraint-item.is in
    let poses = rw (c.in-Some.is) at c.in_ok-posed.ensures in
    rw (c.in_ok-push-in-Some.ensures.items) (record {
      many = length_push l.all.items c.in-Some.posed ∙ omega (arith, l.invariant.many);
      each = kept_more (question_of number c.args.problem.now) l.all.items l.constraint-index (expr_of number term) c.in-Some.posed l.invariant.many l.invariant.each at poses;
    })

pub returns : goal.returns
returns g c =
    let number = g.T.Theory.denotes in
    let question = question_of number c.args.problem.now in
    let l = c.loop-constraint in
    let many : length l.all.items ≡ length question.constraints = omega (arith, l.invariant.many, l.auto.constraint-index-end, c.loop-constraint-test.false, length-map c.args.problem.now.constraints (expr_of number), ap length c.as_slice-constraint-items.ensures) in
    let are : ArePosed question l.all.items = record { many = many; each = l.invariant.each } in
    let one : length question.goals ≡ 1 = omega (arith, length-map c.args.problem.now.wanted (goal_of number), c.len.ensures, c.if-len-ne1.false) in
    (all_posed question l.all.items one are, are)

pub returns-in_err-all : goal.returns-in_err-all
returns-in_err-all g c = IfOk-from_err c.from_residual.result _ c.from_residual.ensures.0

pub returns-in_err-posed : goal.returns-in_err-posed
returns-in_err-posed g c = IfOk-from_err c.from_residual-in_err-posed.result _ c.from_residual-in_err-posed.ensures.0

pub returns-in_err-push-in-Some : goal.returns-in_err-push-in-Some
returns-in_err-push-in-Some g c = IfOk-from_err c.from_residual-in_err-push-in-Some.result _ c.from_residual-in_err-push-in-Some.ensures.0
