use Rattle.std.proofs.Common.{subst, sym}
use Rattle.sy_bits_words.specs.Standing.{IsDifference}
use Rattle.sy_bits_words.proofs.Dividing.{difference-serves}
use Rattle.sy_bits_words.proofs.sharing.made_of_sum.Goals as goal

pub returns-in-Some-clause-serves : goal.returns-in-Some-clause-serves
returns-in-Some-clause-serves c =
    let apart = (rw (c.in-Some.is, c.in-Some.first-is, c.in-Some.second-is) at c.in_ok-first.ensures.difference) c.args.circuit.now c.requires.stand in
    let left = subst (λ xs. IsDifference c.args.circuit.now c.args.words.now xs c.in-Some.second c.args.sum.now) (sym c.as_slice.ensures) apart in
    let both = subst (λ ys. IsDifference c.args.circuit.now c.args.words.now c.as_slice.result.now ys c.args.sum.now) (sym c.as_slice-in-Some.ensures) left in
    difference-serves c.args.circuit.now c.sub.new.self c.args.words.now c.args.op.now c.args.args.now c.as_slice.result.now c.as_slice-in-Some.result.now c.in_ok-word.word c.args.sum.now c.requires.is both c.in_ok-word.ensures.grown c.in_ok-word.ensures.width c.in_ok-word.ensures.inside c.in_ok-word.ensures.value
