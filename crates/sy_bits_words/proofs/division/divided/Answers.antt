use Rattle.std.proofs.Common.{arith}
use Rattle.std.proofs.lemmas.Result.{IfOk-from_err}
use Rattle.sy_bits_words.specs.Standing.{IsDivided}
use Rattle.sy_bits_words.proofs.Tables.{all-grown}
use Rattle.sy_bits_words.proofs.division.divided.Goals as goal

pub returns-clause-stand : goal.returns-clause-stand
returns-clause-stand c =
    let is : IsDivided c.divide.new.self c.args.a.now c.args.b.now c.in_ok-division.division = record {
      quotient_width = c.in_ok-division.ensures.quotient_width;
      remainder_width = c.in_ok-division.ensures.remainder_width;
      left = omega (arith, c.requires.left, c.divide.ensures.grown.more);
      right = omega (arith, c.requires.right, c.divide.ensures.grown.more);
      quotient_inside = c.in_ok-division.ensures.quotient_inside;
      remainder_inside = c.in_ok-division.ensures.remainder_inside;
      quotient = c.in_ok-division.ensures.quotient;
      remainder = c.in_ok-division.ensures.remainder;
    } in
    c.in_ok-note_remainder.ensures c.divide.new.self is (all-grown c.args.circuit.now c.divide.new.self c.args.words.now c.divide.ensures.grown c.requires.stand)

pub returns-in_err-division-clause-stand : goal.returns-in_err-division-clause-stand
returns-in_err-division-clause-stand c = IfOk-from_err c.from_residual.result _ c.from_residual.ensures.0

pub returns-in_err-division-clause-cost : goal.returns-in_err-division-clause-cost
returns-in_err-division-clause-cost c = IfOk-from_err c.from_residual.result _ c.from_residual.ensures.0

pub returns-in_err-division-clause-divided : goal.returns-in_err-division-clause-divided
returns-in_err-division-clause-divided c = IfOk-from_err c.from_residual.result _ c.from_residual.ensures.0

pub returns-in_err-note_remainder-clause-stand : goal.returns-in_err-note_remainder-clause-stand
returns-in_err-note_remainder-clause-stand c = IfOk-from_err c.from_residual-in_err-note_remainder.result _ c.from_residual-in_err-note_remainder.ensures.0

pub returns-in_err-note_remainder-clause-cost : goal.returns-in_err-note_remainder-clause-cost
returns-in_err-note_remainder-clause-cost c = IfOk-from_err c.from_residual-in_err-note_remainder.result _ c.from_residual-in_err-note_remainder.ensures.0

pub returns-in_err-note_remainder-clause-divided : goal.returns-in_err-note_remainder-clause-divided
returns-in_err-note_remainder-clause-divided c = IfOk-from_err c.from_residual-in_err-note_remainder.result _ c.from_residual-in_err-note_remainder.ensures.0
