use Rattle.std.proofs.Common.{refl, ap, sym, subst, ◌∙◌, arith}
use Rattle.std.specs.List.{Contains}
use Rattle.std.proofs.lemmas.List.{take_all}
use mathlib.Core.Bool.{true≢false}
use Rattle.sy_terms.specs.Denoted.{vals_of}
use Rattle.sy_points.specs.Asked.{tuples_of}
use Rattle.sy_points.proofs.Distinct.{has_at, none_with}
use Rattle.sy_points.proofs.points.has.Goals as goal

pub loop-other-init : goal.loop-other-init
loop-other-init g c = λ at. absurd (omega (arith, at.1))

pub loop-other-preserved : goal.loop-other-preserved
loop-other-preserved g c =
    let number = g.T.Theory.denotes in
    none_with number c.args.list.now c.loop-other.other-index c.other-item.result (vals_of number c.args.tuple.now) c.loop-other-test.true c.other-item.is c.loop-other.invariant
    (λ same. true≢false (sym (c.same_values.ensures.1 (ap (vals_of number) c.as_slice.ensures ∙ same)) ∙ c.if-same_values.false))

pub returns-then-same_values : goal.returns-then-same_values
returns-then-same_values g c =
    let number = g.T.Theory.denotes in
    let same = ap (vals_of number) (sym c.as_slice.ensures) ∙ c.same_values.ensures.0 c.if-same_values.true in
    ((λ _. has_at number c.args.list.now c.loop-other.other-index c.other-item.result (vals_of number c.args.tuple.now) c.loop-other-test.true c.other-item.is same), (λ _. refl))

pub returns : goal.returns
returns g c =
    let number = g.T.Theory.denotes in
    let all = take_all c.loop-other.other-index c.args.list.now (omega arith) in
    ((λ e. absurd (true≢false (sym e))), (λ at. absurd (c.loop-other.invariant (subst (λ l. Contains (tuples_of number l) (vals_of number c.args.tuple.now)) (sym all) at))))
