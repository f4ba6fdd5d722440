use Rattle.std.proofs.Common.{◌<◌, ◌-◌, ◌^◌, length, arith, refl}
use Rattle.std.proofs.lemmas.Result.{IfOk-from_err}
use Rattle.sy_bits_sums.proofs.Agreeing.{multiple-less}
use Rattle.sy_bits_words.proofs.Laws.{stands-at, kept-at, add-sum, sub-sum, mul-sum}
use Rattle.sy_bits_words.proofs.operations.pair_sum.Goals as goal

pub returns-in_ok-sum-in-BvAdd-clause-sum : goal.returns-in_ok-sum-in-BvAdd-clause-sum
returns-in_ok-sum-in-BvAdd-clause-sum c = λ circuit all.
    let h : c.in-Some.first < length c.enter.new.self = rw c.in-Some.is at c.in_ok-first.ensures.within in
    let left = stands-at circuit c.enter-2.new.self c.in-Some.first c.args.s.now c.at.result.now all (omega (arith, h, c.in_ok-second.ensures.longer)) (kept-at c.enter.new.self c.enter-2.new.self c.in-Some.first c.args.s.now c.in_ok-second.ensures.kept h (rw c.in-Some.is at c.in_ok-first.ensures.same)) c.at.ensures in
    let right = stands-at circuit c.enter-2.new.self c.in-Some-2.second c.args.t.now c.at-2.result.now all (rw c.in-Some-2.is at c.in_ok-second.ensures.within) (rw c.in-Some-2.is at c.in_ok-second.ensures.same) c.at-2.ensures in
    rw c.in-BvAdd.is (add-sum circuit c.enter-2.new.self c.args.s.now c.args.t.now c.at.result.now.sum c.at-2.result.now.sum c.in_ok-sum-in-BvAdd.sum c.requires.same left right c.in_ok-sum-in-BvAdd.ensures.width c.in_ok-sum-in-BvAdd.ensures.value)

pub returns-in_ok-difference-in-BvSub-clause-sum : goal.returns-in_ok-difference-in-BvSub-clause-sum
returns-in_ok-difference-in-BvSub-clause-sum c = λ circuit all.
    let h : c.in-Some.first < length c.enter.new.self = rw c.in-Some.is at c.in_ok-first.ensures.within in
    let left = stands-at circuit c.enter-2.new.self c.in-Some.first c.args.s.now c.at.result.now all (omega (arith, h, c.in_ok-second.ensures.longer)) (kept-at c.enter.new.self c.enter-2.new.self c.in-Some.first c.args.s.now c.in_ok-second.ensures.kept h (rw c.in-Some.is at c.in_ok-first.ensures.same)) c.at.ensures in
    let right = stands-at circuit c.enter-2.new.self c.in-Some-2.second c.args.t.now c.at-2.result.now all (rw c.in-Some-2.is at c.in_ok-second.ensures.within) (rw c.in-Some-2.is at c.in_ok-second.ensures.same) c.at-2.ensures in
    rw c.in-BvSub.is (sub-sum circuit c.enter-2.new.self c.args.s.now c.args.t.now c.at.result.now.sum c.at-2.result.now.sum c.in_ok-difference-in-BvSub.difference c.requires.same left right c.in_ok-difference-in-BvSub.ensures.width (2 ^ length c.args.s.now - 1) refl (λ values. multiple-less (length c.args.s.now) _ _ _ _ refl (c.in_ok-difference-in-BvSub.ensures.value values)))

pub returns-in_ok-product-in-BvMul-clause-sum : goal.returns-in_ok-product-in-BvMul-clause-sum
returns-in_ok-product-in-BvMul-clause-sum c = λ circuit all.
    let h : c.in-Some.first < length c.enter.new.self = rw c.in-Some.is at c.in_ok-first.ensures.within in
    let left = stands-at circuit c.enter-2.new.self c.in-Some.first c.args.s.now c.at.result.now all (omega (arith, h, c.in_ok-second.ensures.longer)) (kept-at c.enter.new.self c.enter-2.new.self c.in-Some.first c.args.s.now c.in_ok-second.ensures.kept h (rw c.in-Some.is at c.in_ok-first.ensures.same)) c.at.ensures in
    let right = stands-at circuit c.enter-2.new.self c.in-Some-2.second c.args.t.now c.at-2.result.now all (rw c.in-Some-2.is at c.in_ok-second.ensures.within) (rw c.in-Some-2.is at c.in_ok-second.ensures.same) c.at-2.ensures in
    rw c.in-BvMul.is (mul-sum circuit c.enter-2.new.self c.args.s.now c.args.t.now c.at.result.now.sum c.at-2.result.now.sum c.in_ok-product-in-BvMul.product c.requires.same left right c.in_ok-product-in-BvMul.ensures.width c.in_ok-product-in-BvMul.ensures.value)

pub returns-in_err-first-clause-stand : goal.returns-in_err-first-clause-stand
returns-in_err-first-clause-stand c = IfOk-from_err c.from_residual.result _ c.from_residual.ensures.0

pub returns-in_err-first-clause-sum : goal.returns-in_err-first-clause-sum
returns-in_err-first-clause-sum c = IfOk-from_err c.from_residual.result _ c.from_residual.ensures.0

pub returns-in_err-second-clause-stand : goal.returns-in_err-second-clause-stand
returns-in_err-second-clause-stand c = IfOk-from_err c.from_residual-in_err-second.result _ c.from_residual-in_err-second.ensures.0

pub returns-in_err-second-clause-sum : goal.returns-in_err-second-clause-sum
returns-in_err-second-clause-sum c = IfOk-from_err c.from_residual-in_err-second.result _ c.from_residual-in_err-second.ensures.0

pub returns-in_err-sum-in-BvAdd-clause-stand : goal.returns-in_err-sum-in-BvAdd-clause-stand
returns-in_err-sum-in-BvAdd-clause-stand c = IfOk-from_err c.from_residual-in_err-sum-in-BvAdd.result _ c.from_residual-in_err-sum-in-BvAdd.ensures.0

pub returns-in_err-sum-in-BvAdd-clause-sum : goal.returns-in_err-sum-in-BvAdd-clause-sum
returns-in_err-sum-in-BvAdd-clause-sum c = IfOk-from_err c.from_residual-in_err-sum-in-BvAdd.result _ c.from_residual-in_err-sum-in-BvAdd.ensures.0

pub returns-in_err-difference-in-BvSub-clause-stand : goal.returns-in_err-difference-in-BvSub-clause-stand
returns-in_err-difference-in-BvSub-clause-stand c = IfOk-from_err c.from_residual-in_err-difference-in-BvSub.result _ c.from_residual-in_err-difference-in-BvSub.ensures.0

pub returns-in_err-difference-in-BvSub-clause-sum : goal.returns-in_err-difference-in-BvSub-clause-sum
returns-in_err-difference-in-BvSub-clause-sum c = IfOk-from_err c.from_residual-in_err-difference-in-BvSub.result _ c.from_residual-in_err-difference-in-BvSub.ensures.0

pub returns-in_err-product-in-BvMul-clause-stand : goal.returns-in_err-product-in-BvMul-clause-stand
returns-in_err-product-in-BvMul-clause-stand c = IfOk-from_err c.from_residual-in_err-product-in-BvMul.result _ c.from_residual-in_err-product-in-BvMul.ensures.0

pub returns-in_err-product-in-BvMul-clause-sum : goal.returns-in_err-product-in-BvMul-clause-sum
returns-in_err-product-in-BvMul-clause-sum c = IfOk-from_err c.from_residual-in_err-product-in-BvMul.result _ c.from_residual-in_err-product-in-BvMul.ensures.0
