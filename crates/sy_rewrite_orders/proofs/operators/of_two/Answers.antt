use Rattle.std.proofs.Common.{◌≡◌, arith}
use Rattle.sy_rewrite_orders.specs.Sums.{number_at}
use Rattle.sy_rewrite_orders.proofs.Operations.{added, subtracted}
use Rattle.sy_rewrite_orders.proofs.operators.of_two.Goals as goal

pub returns-in_ok-sum-in-BvAdd : goal.returns-in_ok-sum-in-BvAdd
returns-in_ok-sum-in-BvAdd c = λ values x y has also.
    let same : c.args.right.now.width ≡ c.args.left.now.width = omega arith in
    rw c.in-BvAdd.is (added values c.args.left.now c.args.right.now c.in_ok-sum-in-BvAdd.sum x y same c.in_ok-sum-in-BvAdd.ensures.width (c.in_ok-sum-in-BvAdd.ensures.value (number_at values)) has also)

pub returns-in_ok-difference-in-BvSub : goal.returns-in_ok-difference-in-BvSub
returns-in_ok-difference-in-BvSub c = λ values x y has also.
    let same : c.args.right.now.width ≡ c.args.left.now.width = omega arith in
    rw c.in-BvSub.is (subtracted values c.args.left.now c.args.right.now c.in_ok-difference-in-BvSub.difference x y c.greatest.result same c.in_ok-difference-in-BvSub.ensures.width c.greatest.ensures (c.in_ok-difference-in-BvSub.ensures.value (number_at values)) has also)

pub returns-in_ok-product-in-BvMul : goal.returns-in_ok-product-in-BvMul
returns-in_ok-product-in-BvMul c = rw c.in-BvMul.is c.in_ok-product-in-BvMul.ensures

pub returns-in_ok-shifted-in-BvShl : goal.returns-in_ok-shifted-in-BvShl
returns-in_ok-shifted-in-BvShl c = rw c.in-BvShl.is c.in_ok-shifted-in-BvShl.ensures
