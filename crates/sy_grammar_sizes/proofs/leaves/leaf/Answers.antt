use Rattle.std.proofs.Common.{◌∙◌, ap, map, min}
use Rattle.std.proofs.lemmas.Result.{IfOk-from_err}
use Rattle.sy_terms.specs.Denoted.{val_of}
use Rattle.sy_grammar_sizes.specs.Constants.{IsConstantSize}
use Rattle.sy_grammar_sizes.proofs.Best.{best_cut}
use Rattle.sy_grammar_sizes.proofs.leaves.leaf.Goals as goal

pub returns-in-Some : goal.returns-in-Some
returns-in-Some g c =
    let greatest = rw c.in-Some.is at c.in_ok-size-in-AnyConstant.ensures in
    rw (c.in-AnyConstant.is) (best_cut c.args.limit (IsConstantSize (map (val_of g.T.Theory.denotes) c.args.pool.now) c.in-AnyConstant.sort) c.in-Some.size c.min.result greatest (c.min.ensures ∙ ap (min c.args.limit) c.from.ensures))

pub returns-in-None : goal.returns-in-None
returns-in-None g c = rw (c.in-AnyConstant.is) (rw c.in-None.is at c.in_ok-size-in-AnyConstant.ensures)

pub returns-in_err-size-in-AnyConstant : goal.returns-in_err-size-in-AnyConstant
returns-in_err-size-in-AnyConstant g c = IfOk-from_err c.from_residual.result _ c.from_residual.ensures.0
