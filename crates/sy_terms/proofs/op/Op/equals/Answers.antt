use Rattle.std.proofs.Common.{sym, ◌∙◌}
use Rattle.sy_terms.proofs.Equal.{same_operator, operator_is}
use Rattle.sy_terms.proofs.op.Op.equals.Goals as goal

pub returns : goal.returns
returns g =
    ((λ e. same_operator g.args.self.now g.args.other.now (sym g.eq.ensures ∙ e)), (λ e. g.eq.ensures ∙ operator_is g.args.self.now g.args.other.now e))
