use Rattle.std.specs.Prelude.{true, false, cond}
use Rattle.std.specs.List.{list_all}
use Rattle.std.proofs.Common.{sym, ap, ap₂, ◌∙◌}
use Rattle.sy_linear_known.specs.declared.sight.Sight.TheVariants.{Settled, Open}
use Rattle.sy_linear_known.specs.Sights.{is_true}
use Rattle.sy_linear_known.proofs.sight.all_of.Goals as goal

pub returns-then-some_settled : goal.returns-then-some_settled
returns-then-some_settled c = sym (ap (λ a. cond a (Settled false) (cond (list_all is_true c.args.sights.now) (Settled true) Open)) (sym c.some_settled.ensures ∙ c.if-some_settled.true))

pub returns-then-each_settled : goal.returns-then-each_settled
returns-then-each_settled c = sym (ap₂ (λ a b. cond a (Settled false) (cond b (Settled true) Open)) (sym c.some_settled.ensures ∙ c.if-some_settled.false) (sym c.each_settled.ensures ∙ c.if-each_settled.true))

pub returns-else-each_settled : goal.returns-else-each_settled
returns-else-each_settled c = sym (ap₂ (λ a b. cond a (Settled false) (cond b (Settled true) Open)) (sym c.some_settled.ensures ∙ c.if-some_settled.false) (sym c.each_settled.ensures ∙ c.if-each_settled.false))
