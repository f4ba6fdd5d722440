use Rattle.std.proofs.Common.{sym, ◌∙◌}
use Rattle.sy_terms.proofs.Equal.{same_function, function_is}
use Rattle.sy_terms.proofs.term.Fun.equals.Goals as goal

pub returns : goal.returns
returns g =
    ((λ e. same_function g.args.self.now g.args.other.now (sym g.eq.ensures ∙ e)), (λ e. g.eq.ensures ∙ function_is g.args.self.now g.args.other.now e))
