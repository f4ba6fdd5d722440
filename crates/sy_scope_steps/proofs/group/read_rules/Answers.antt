use Rattle.std.proofs.Common.{◌∙◌, sym, ap, arith}
use Rattle.std.proofs.lemmas.Bool.{le-ltb, lt-ltb}
use Rattle.std.proofs.lemmas.Result.{err_from_is_err_and}
use Rattle.sy_text_items.specs.Views.{item_of}
use Rattle.sy_scope_causes.specs.declared.cause.Cause.TheVariants as cause
use Rattle.sy_forms_items.specs.Rulings.{ruling_of}
use Rattle.sy_forms_items.specs.Readings.{refuse}
use Rattle.sy_forms.specs.Rules.{read_rule}
use Rattle.sy_forms_items.specs.Seen.{environment_of}
use Rattle.sy_forms_items.specs.Views.{items_in}
use Rattle.sy_forms_items.proofs.Readings as readings
use Rattle.sy_scope_steps.specs.Grammars as spec
use Rattle.sy_scope_steps.specs.Seen.{collected_of}
use Rattle.sy_scope_steps.proofs.Walking.{rules_none, rules_many, rules_more}
use Rattle.sy_scope_steps.proofs.group.read_rules.Goals as goal

pub returns-then-collected-ge-RULES_MAX : goal.returns-then-collected-ge-RULES_MAX
returns-then-collected-ge-RULES_MAX g c =
    sym c.loop-item.invariant
    ∙ rules_many (environment_of c.args.env.now) c.args.sort (collected_of g.T.Theory.denotes c.loop-item.collected) (items_in c.loop-item.left) (item_of c.in-Some.item.now) (items_in c.in-Some.rest) c.in-Some.ensures
    (le-ltb c.loop-item.collected.count 1024 (omega (arith, c.if-collected-ge-RULES_MAX.true)))
    ∙ ap (λ p. refuse {A = spec.Collected} p cause.TooMany) (sym c.place_of.ensures)

pub returns-in_err-ruling : goal.returns-in_err-ruling
returns-in_err-ruling g c =
    let p = err_from_is_err_and c.from_residual.result c.from_residual.ensures.1 in
    let more = rules_more (environment_of c.args.env.now) c.args.sort (collected_of g.T.Theory.denotes c.loop-item.collected) (items_in c.loop-item.left) (item_of c.in-Some.item.now) (items_in c.in-Some.rest) c.in-Some.ensures
    (lt-ltb c.loop-item.collected.count 1024 (omega (arith, c.if-collected-ge-RULES_MAX.false))) in
    rw (p.1, p.2) (readings.fails_same c.in_err-ruling.field-0.0 _ _ (sym c.loop-item.invariant ∙ more) (readings.fails_bind c.in_err-ruling.field-0.0 _ _ c.in_err-ruling.ensures))

pub loop-item-preserved : goal.loop-item-preserved
loop-item-preserved g c =
    let more = rules_more (environment_of c.args.env.now) c.args.sort (collected_of g.T.Theory.denotes c.loop-item.collected) (items_in c.loop-item.left) (item_of c.in-Some.item.now) (items_in c.in-Some.rest) c.in-Some.ensures
    (lt-ltb c.loop-item.collected.count 1024 (omega (arith, c.if-collected-ge-RULES_MAX.false))) in
    ap (λ d. spec.read_rules (environment_of c.args.env.now) c.args.sort d (items_in c.in-Some.rest)) c.in_ok-push.ensures
    ∙ sym (readings.bound (read_rule (environment_of c.args.env.now) c.args.sort (item_of c.in-Some.item.now)) (ruling_of g.T.Theory.denotes c.in_ok-ruling.ruling)
    (λ rule. spec.read_rules (environment_of c.args.env.now) c.args.sort (spec.with_rule (collected_of g.T.Theory.denotes c.loop-item.collected) rule) (items_in c.in-Some.rest)) c.in_ok-ruling.ensures)
    ∙ sym more ∙ c.loop-item.invariant

pub returns : goal.returns
returns g c =
    sym c.loop-item.invariant ∙ rules_none (environment_of c.args.env.now) c.args.sort (collected_of g.T.Theory.denotes c.loop-item.collected) (items_in c.loop-item.left) c.in_default.ensures
