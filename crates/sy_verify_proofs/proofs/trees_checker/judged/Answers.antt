use Rattle.std.proofs.Common.{subst}
use Rattle.std.specs.Prelude.{IfOk}
use Rattle.sy_linear_known.specs.Stored.{tree_shape_of}
use Rattle.sy_linear.specs.Accepted.{linear_query}
use Rattle.sy_verify_proofs.specs.Trees.{IsTreeChecking}
use Rattle.sy_verify_proofs.proofs.trees_checker.judged.Goals as goal

pub returns : goal.returns
returns c =
    subst (λ query. IfOk c.judged_linear-answer.result (IsTreeChecking (linear_query query) (tree_shape_of c.args.tree))) c.in_ok-lowered.ensures.is c.judged_linear-answer.ensures
