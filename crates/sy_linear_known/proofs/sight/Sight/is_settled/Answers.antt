use Rattle.std.specs.Prelude.{cond}
use Rattle.std.proofs.Common.{sym, ap, ◌∙◌}
use Rattle.sy_linear_known.specs.Sights.{is_true, is_false}
use Rattle.sy_linear_known.proofs.sight.Sight.is_settled.Goals as goal

pub returns-then-truth : goal.returns-then-truth
returns-then-truth c = c.is_true.ensures ∙ sym (ap (λ truth. cond truth is_true is_false c.args.self.now) c.if-truth.true)

pub returns-else-truth : goal.returns-else-truth
returns-else-truth c = c.is_false.ensures ∙ sym (ap (λ truth. cond truth is_true is_false c.args.self.now) c.if-truth.false)
