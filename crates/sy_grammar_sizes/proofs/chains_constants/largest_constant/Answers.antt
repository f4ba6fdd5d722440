use Rattle.std.proofs.Common.{map}
use Rattle.std.proofs.lemmas.Result.{IfOk-from_err}
use Rattle.sy_terms.specs.Denoted.{val_of}
use Rattle.sy_grammar_sizes.proofs.Magnitudes.{greatest_truth}
use Rattle.sy_grammar_sizes.proofs.chains_constants.largest_constant.Goals as goal

pub returns-in-Bool : goal.returns-in-Bool
returns-in-Bool g c = rw (c.in-Bool.is) (greatest_truth (map (val_of g.T.Theory.denotes) c.args.pool.now))

pub returns-in_ok-size-in-Bits : goal.returns-in_ok-size-in-Bits
returns-in_ok-size-in-Bits g c = rw (c.in-Bits.is) c.in_ok-size-in-Bits.ensures

pub returns-in_err-size-in-Int : goal.returns-in_err-size-in-Int
returns-in_err-size-in-Int g c = IfOk-from_err c.from_residual.result _ c.from_residual.ensures.0

pub returns-in_err-size-in-Bits : goal.returns-in_err-size-in-Bits
returns-in_err-size-in-Bits g c = IfOk-from_err c.from_residual-in_err-size-in-Bits.result _ c.from_residual-in_err-size-in-Bits.ensures.0
