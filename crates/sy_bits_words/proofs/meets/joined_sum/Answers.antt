use Rattle.std.proofs.Common.{◌<◌, ◌-◌, ◌^◌, length, arith, refl}
use Rattle.std.proofs.lemmas.Result.{IfOk-from_err}
use Rattle.sy_bits_sums.proofs.Agreeing.{multiple-less}
use Rattle.sy_bits_words.proofs.Laws.{stands-at, kept-at}
use Rattle.sy_bits_words.proofs.Joining.{both-is, either-is, differ-is, and-sum, or-sum, xor-sum}
use Rattle.sy_bits_words.proofs.meets.joined_sum.Goals as goal

pub returns-in-BvAnd-clause-sum : goal.returns-in-BvAnd-clause-sum
returns-in-BvAnd-clause-sum c = λ circuit all.
    let h : c.in-Some.first < length c.enter.new.self = rw c.in-Some.is at c.in_ok-first.ensures.within in
    let k : c.in-Some-2.second < length c.enter-2.new.self = rw c.in-Some-2.is at c.in_ok-second.ensures.within in
    let up = c.in_ok-second.ensures.longer in
    let higher = c.in_ok-meet.ensures.longer in
    let left = stands-at circuit c.meeting.new.words c.in-Some.first c.args.s.now c.at.result.now all (omega (arith, h, up, higher)) (kept-at c.enter-2.new.self c.meeting.new.words c.in-Some.first c.args.s.now c.in_ok-meet.ensures.kept (omega (arith, h, up)) (kept-at c.enter.new.self c.enter-2.new.self c.in-Some.first c.args.s.now c.in_ok-second.ensures.kept h (rw c.in-Some.is at c.in_ok-first.ensures.same))) c.at.ensures in
    let right = stands-at circuit c.meeting.new.words c.in-Some-2.second c.args.t.now c.at-2.result.now all (omega (arith, k, higher)) (kept-at c.enter-2.new.self c.meeting.new.words c.in-Some-2.second c.args.t.now c.in_ok-meet.ensures.kept k (rw c.in-Some-2.is at c.in_ok-second.ensures.same)) c.at-2.ensures in
    let meets = both-is circuit c.meeting.new.words c.args.s.now c.args.t.now c.at.result.now.sum c.at-2.result.now.sum c.in_ok-both.both c.requires.same left right c.in-Some-3.meet.place c.in-Some-3.meet.left c.in-Some-3.meet.right c.at.result.now (rw c.in-Some-3.is at c.in_ok-meet.ensures.within) (rw c.in-Some-3.is at c.in_ok-meet.ensures.number) c.in_ok-both.ensures.value in
    rw c.in-BvAnd.is (and-sum circuit c.meeting.new.words c.args.s.now c.args.t.now c.in_ok-both.both c.in_ok-both.ensures.width c.requires.same meets)

pub returns-in-BvOr-clause-sum : goal.returns-in-BvOr-clause-sum
returns-in-BvOr-clause-sum c = λ circuit all.
    let h : c.in-Some.first < length c.enter.new.self = rw c.in-Some.is at c.in_ok-first.ensures.within in
    let k : c.in-Some-2.second < length c.enter-2.new.self = rw c.in-Some-2.is at c.in_ok-second.ensures.within in
    let up = c.in_ok-second.ensures.longer in
    let higher = c.in_ok-meet.ensures.longer in
    let left = stands-at circuit c.meeting.new.words c.in-Some.first c.args.s.now c.at.result.now all (omega (arith, h, up, higher)) (kept-at c.enter-2.new.self c.meeting.new.words c.in-Some.first c.args.s.now c.in_ok-meet.ensures.kept (omega (arith, h, up)) (kept-at c.enter.new.self c.enter-2.new.self c.in-Some.first c.args.s.now c.in_ok-second.ensures.kept h (rw c.in-Some.is at c.in_ok-first.ensures.same))) c.at.ensures in
    let right = stands-at circuit c.meeting.new.words c.in-Some-2.second c.args.t.now c.at-2.result.now all (omega (arith, k, higher)) (kept-at c.enter-2.new.self c.meeting.new.words c.in-Some-2.second c.args.t.now c.in_ok-meet.ensures.kept k (rw c.in-Some-2.is at c.in_ok-second.ensures.same)) c.at-2.ensures in
    let meets = both-is circuit c.meeting.new.words c.args.s.now c.args.t.now c.at.result.now.sum c.at-2.result.now.sum c.in_ok-both.both c.requires.same left right c.in-Some-3.meet.place c.in-Some-3.meet.left c.in-Some-3.meet.right c.at.result.now (rw c.in-Some-3.is at c.in_ok-meet.ensures.within) (rw c.in-Some-3.is at c.in_ok-meet.ensures.number) c.in_ok-both.ensures.value in
    let joins = either-is circuit c.meeting.new.words c.args.s.now c.args.t.now c.at.result.now.sum c.at-2.result.now.sum c.in_ok-both.both c.requires.same left right c.in_ok-either.either meets c.in_ok-either.ensures.value in
    rw c.in-BvOr.is (or-sum circuit c.meeting.new.words c.args.s.now c.args.t.now c.in_ok-either.either c.in_ok-either.ensures.width c.requires.same joins)

pub returns-in_ok-differ-in-BvXor-clause-sum : goal.returns-in_ok-differ-in-BvXor-clause-sum
returns-in_ok-differ-in-BvXor-clause-sum c = λ circuit all.
    let h : c.in-Some.first < length c.enter.new.self = rw c.in-Some.is at c.in_ok-first.ensures.within in
    let k : c.in-Some-2.second < length c.enter-2.new.self = rw c.in-Some-2.is at c.in_ok-second.ensures.within in
    let up = c.in_ok-second.ensures.longer in
    let higher = c.in_ok-meet.ensures.longer in
    let left = stands-at circuit c.meeting.new.words c.in-Some.first c.args.s.now c.at.result.now all (omega (arith, h, up, higher)) (kept-at c.enter-2.new.self c.meeting.new.words c.in-Some.first c.args.s.now c.in_ok-meet.ensures.kept (omega (arith, h, up)) (kept-at c.enter.new.self c.enter-2.new.self c.in-Some.first c.args.s.now c.in_ok-second.ensures.kept h (rw c.in-Some.is at c.in_ok-first.ensures.same))) c.at.ensures in
    let right = stands-at circuit c.meeting.new.words c.in-Some-2.second c.args.t.now c.at-2.result.now all (omega (arith, k, higher)) (kept-at c.enter-2.new.self c.meeting.new.words c.in-Some-2.second c.args.t.now c.in_ok-meet.ensures.kept k (rw c.in-Some-2.is at c.in_ok-second.ensures.same)) c.at-2.ensures in
    let meets = both-is circuit c.meeting.new.words c.args.s.now c.args.t.now c.at.result.now.sum c.at-2.result.now.sum c.in_ok-both.both c.requires.same left right c.in-Some-3.meet.place c.in-Some-3.meet.left c.in-Some-3.meet.right c.at.result.now (rw c.in-Some-3.is at c.in_ok-meet.ensures.within) (rw c.in-Some-3.is at c.in_ok-meet.ensures.number) c.in_ok-both.ensures.value in
    let joins = either-is circuit c.meeting.new.words c.args.s.now c.args.t.now c.at.result.now.sum c.at-2.result.now.sum c.in_ok-both.both c.requires.same left right c.in_ok-either.either meets c.in_ok-either.ensures.value in
    rw c.in-BvXor.is (xor-sum circuit c.meeting.new.words c.args.s.now c.args.t.now c.in_ok-differ-in-BvXor.differ c.in_ok-differ-in-BvXor.ensures.width c.requires.same
    (differ-is circuit c.meeting.new.words c.args.s.now c.args.t.now c.at.result.now.sum c.at-2.result.now.sum c.in_ok-both.both c.requires.same left right c.in_ok-either.either c.in_ok-differ-in-BvXor.differ (2 ^ length c.args.s.now - 1) refl meets joins (λ values. multiple-less (length c.args.s.now) _ _ _ _ refl (c.in_ok-differ-in-BvXor.ensures.value values))))

pub returns-in_err-first-clause-stand : goal.returns-in_err-first-clause-stand
returns-in_err-first-clause-stand c = IfOk-from_err c.from_residual.result _ c.from_residual.ensures.0

pub returns-in_err-first-clause-sum : goal.returns-in_err-first-clause-sum
returns-in_err-first-clause-sum c = IfOk-from_err c.from_residual.result _ c.from_residual.ensures.0

pub returns-in_err-second-clause-stand : goal.returns-in_err-second-clause-stand
returns-in_err-second-clause-stand c = IfOk-from_err c.from_residual-in_err-second.result _ c.from_residual-in_err-second.ensures.0

pub returns-in_err-second-clause-sum : goal.returns-in_err-second-clause-sum
returns-in_err-second-clause-sum c = IfOk-from_err c.from_residual-in_err-second.result _ c.from_residual-in_err-second.ensures.0

pub returns-in_err-meet-clause-stand : goal.returns-in_err-meet-clause-stand
returns-in_err-meet-clause-stand c = IfOk-from_err c.from_residual-in_err-meet.result _ c.from_residual-in_err-meet.ensures.0

pub returns-in_err-meet-clause-sum : goal.returns-in_err-meet-clause-sum
returns-in_err-meet-clause-sum c = IfOk-from_err c.from_residual-in_err-meet.result _ c.from_residual-in_err-meet.ensures.0

pub returns-in_err-both-clause-stand : goal.returns-in_err-both-clause-stand
returns-in_err-both-clause-stand c = IfOk-from_err c.from_residual-in_err-both.result _ c.from_residual-in_err-both.ensures.0

pub returns-in_err-both-clause-sum : goal.returns-in_err-both-clause-sum
returns-in_err-both-clause-sum c = IfOk-from_err c.from_residual-in_err-both.result _ c.from_residual-in_err-both.ensures.0

pub returns-in_err-either-clause-stand : goal.returns-in_err-either-clause-stand
returns-in_err-either-clause-stand c = IfOk-from_err c.from_residual-in_err-either.result _ c.from_residual-in_err-either.ensures.0

pub returns-in_err-either-clause-sum : goal.returns-in_err-either-clause-sum
returns-in_err-either-clause-sum c = IfOk-from_err c.from_residual-in_err-either.result _ c.from_residual-in_err-either.ensures.0

pub returns-in_err-differ-in-BvXor-clause-stand : goal.returns-in_err-differ-in-BvXor-clause-stand
returns-in_err-differ-in-BvXor-clause-stand c = IfOk-from_err c.from_residual-in_err-differ-in-BvXor.result _ c.from_residual-in_err-differ-in-BvXor.ensures.0

pub returns-in_err-differ-in-BvXor-clause-sum : goal.returns-in_err-differ-in-BvXor-clause-sum
returns-in_err-differ-in-BvXor-clause-sum c = IfOk-from_err c.from_residual-in_err-differ-in-BvXor.result _ c.from_residual-in_err-differ-in-BvXor.ensures.0
