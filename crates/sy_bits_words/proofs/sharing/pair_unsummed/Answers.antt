use Rattle.std.proofs.Common.{refl, subst, sym}
use Rattle.sy_bits_operators.specs.declared.signal.Signal.TheVariants as signals
use Rattle.sy_bits_words.specs.Standing.{Serves}
use Rattle.sy_bits_words.proofs.Tables.{all-grown}
use Rattle.sy_bits_words.proofs.Dividing.{both-words, quotient-width, remainder-width, quotient-serves, remainder-serves}
use Rattle.sy_bits_words.proofs.sharing.pair_unsummed.Goals as goal

pub divided-requires-clause-same : goal.divided-requires-clause-same
divided-requires-clause-same c =
    let words = both-words c.args.args.now c.args.s.now c.args.t.now c.as_slice.result.now c.as_slice-in-BvUdiv-Vector-Vector.result.now c.in-BvUdiv-Vector-Vector.a c.in-BvUdiv-Vector-Vector.b c.requires.two c.in-BvUdiv-Vector-Vector.is-1 c.in-BvUdiv-Vector-Vector.is-2 c.as_slice.ensures c.as_slice-in-BvUdiv-Vector-Vector.ensures in
    quotient-width c.args.op.now c.args.args.now c.as_slice.result.now c.as_slice-in-BvUdiv-Vector-Vector.result.now c.in-BvUdiv-Vector-Vector.is-0 words c.requires.takes c.requires.sorts

pub divided-requires-in-BvUrem-Vector-Vector-clause-same : goal.divided-requires-in-BvUrem-Vector-Vector-clause-same
divided-requires-in-BvUrem-Vector-Vector-clause-same c =
    let words = both-words c.args.args.now c.args.s.now c.args.t.now c.as_slice-in-BvUrem-Vector-Vector.result.now c.as_slice-in-BvUrem-Vector-Vector-2.result.now c.in-BvUrem-Vector-Vector.a c.in-BvUrem-Vector-Vector.b c.requires.two c.in-BvUrem-Vector-Vector.is-1 c.in-BvUrem-Vector-Vector.is-2 c.as_slice-in-BvUrem-Vector-Vector.ensures c.as_slice-in-BvUrem-Vector-Vector-2.ensures in
    remainder-width c.args.op.now c.args.args.now c.as_slice-in-BvUrem-Vector-Vector.result.now c.as_slice-in-BvUrem-Vector-Vector-2.result.now c.in-BvUrem-Vector-Vector.is-0 words c.requires.takes c.requires.sorts

pub returns-in_ok-division-in-BvUdiv-Vector-Vector-clause-serves : goal.returns-in_ok-division-in-BvUdiv-Vector-Vector-clause-serves
returns-in_ok-division-in-BvUdiv-Vector-Vector-clause-serves c =
    let words = both-words c.args.args.now c.args.s.now c.args.t.now c.as_slice.result.now c.as_slice-in-BvUdiv-Vector-Vector.result.now c.in-BvUdiv-Vector-Vector.a c.in-BvUdiv-Vector-Vector.b c.requires.two c.in-BvUdiv-Vector-Vector.is-1 c.in-BvUdiv-Vector-Vector.is-2 c.as_slice.ensures c.as_slice-in-BvUdiv-Vector-Vector.ensures in
    let served = quotient-serves c.divided.new.circuit c.as_slice.result.now c.as_slice-in-BvUdiv-Vector-Vector.result.now c.in_ok-division-in-BvUdiv-Vector-Vector.division c.args.args.now words c.in_ok-division-in-BvUdiv-Vector-Vector.ensures.divided in
    subst (λ op. Serves c.divided.new.circuit op c.args.args.now (signals.Vector c.in_ok-division-in-BvUdiv-Vector-Vector.division.quotient)) (sym c.in-BvUdiv-Vector-Vector.is-0) served

pub returns-in_ok-division-in-BvUrem-Vector-Vector-clause-serves : goal.returns-in_ok-division-in-BvUrem-Vector-Vector-clause-serves
returns-in_ok-division-in-BvUrem-Vector-Vector-clause-serves c =
    let words = both-words c.args.args.now c.args.s.now c.args.t.now c.as_slice-in-BvUrem-Vector-Vector.result.now c.as_slice-in-BvUrem-Vector-Vector-2.result.now c.in-BvUrem-Vector-Vector.a c.in-BvUrem-Vector-Vector.b c.requires.two c.in-BvUrem-Vector-Vector.is-1 c.in-BvUrem-Vector-Vector.is-2 c.as_slice-in-BvUrem-Vector-Vector.ensures c.as_slice-in-BvUrem-Vector-Vector-2.ensures in
    let served = remainder-serves c.divided-in-BvUrem-Vector-Vector.new.circuit c.as_slice-in-BvUrem-Vector-Vector.result.now c.as_slice-in-BvUrem-Vector-Vector-2.result.now c.in_ok-division-in-BvUrem-Vector-Vector.division c.args.args.now words c.in_ok-division-in-BvUrem-Vector-Vector.ensures.divided in
    subst (λ op. Serves c.divided-in-BvUrem-Vector-Vector.new.circuit op c.args.args.now (signals.Vector c.in_ok-division-in-BvUrem-Vector-Vector.division.remainder)) (sym c.in-BvUrem-Vector-Vector.is-0) served

pub returns-in_ok-signal-in_default-clause-stand : goal.returns-in_ok-signal-in_default-clause-stand
returns-in_ok-signal-in_default-clause-stand c = all-grown c.args.circuit.now c.applied.new.circuit c.args.words.now c.in_ok-signal-in_default.ensures.grown c.requires.stand
