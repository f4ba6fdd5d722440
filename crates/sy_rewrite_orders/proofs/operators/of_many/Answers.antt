use Rattle.std.proofs.Common.{List, ◌∷◌, arith, subst, take}
use Rattle.std.proofs.lemmas.List.{take_all, take_more}
use Rattle.sy_terms.specs.Values.{Val}
use Rattle.sy_terms.specs.Operators.{op_value}
use Rattle.sy_bits_sums.specs.declared.sum.Sum.{Sum}
use Rattle.sy_rewrite_orders.specs.Sums.{HasSum, HaveSums}
use Rattle.sy_rewrite_orders.proofs.TermsLaws.{two-folded, one-more-folded}
use Rattle.sy_rewrite_orders.proofs.operators.of_many.Goals as goal

pub loop-sum-init : goal.loop-sum-init
loop-sum-init c = two-folded c.args.operator c.args.first.now c.args.second.now c.in-Some.start (rw c.in-Some.is at c.in_ok-start.ensures)

pub loop-sum-preserved : goal.loop-sum-preserved
loop-sum-preserved c =
    let more = take_more c.args.rest.now c.loop-sum.sum-index c.sum-item.result (grind arith) in
    rw (more, ← c.sum-item.is)
    (one-more-folded c.args.operator c.args.first.now c.args.second.now c.loop-sum.whole c.sum-item.result c.in-Some-2.next (take c.loop-sum.sum-index c.args.rest.now) (c.is_folded.ensures c.if-not-is_folded.false) c.loop-sum.invariant (rw c.in-Some-2.is at c.in_ok-next.ensures))

pub returns : goal.returns
returns c =
    let all = take_all c.loop-sum.sum-index c.args.rest.now (omega arith) in
    subst (λ (rest : List Sum). (values arguments : List Val) → HaveSums values (c.args.first.now ∷ c.args.second.now ∷ rest) arguments → HasSum values c.loop-sum.whole (op_value c.args.operator arguments)) all c.loop-sum.invariant
