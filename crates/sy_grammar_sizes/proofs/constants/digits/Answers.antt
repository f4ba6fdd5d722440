use Rattle.sy_grammar_sizes.proofs.BinaryDigits.{digits_of}
use Rattle.sy_grammar_sizes.proofs.constants.digits.Goals as goal

pub returns-clause-is : goal.returns-clause-is
returns-clause-is c = digits_of 128 c.args.number c.ranges.number.fits
