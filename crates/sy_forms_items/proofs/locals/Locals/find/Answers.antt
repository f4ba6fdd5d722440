use Rattle.std.proofs.Common.{◌∙◌, ap}
use Rattle.sy_forms_items.specs.Environments.{place_among}
use Rattle.sy_forms_items.specs.Locals.{in_force}
use Rattle.sy_forms_items.proofs.Lookups.{entry-under}
use Rattle.sy_forms_items.proofs.locals.Locals.find.Goals as goal

pub returns-in-Some : goal.returns-in-Some
returns-in-Some c = ap in_force (c.in-Some.ensures.value ∙ entry-under (λ k. k.items) c.args.name.now c.self.inside.places.entries) ∙ c.self.invariant.last c.args.name.now ∙ ap (place_among c.args.name.now) c.self.view_is

pub returns-in-None : goal.returns-in-None
returns-in-None c = ap in_force (c.in-None.ensures.value ∙ entry-under (λ k. k.items) c.args.name.now c.self.inside.places.entries) ∙ c.self.invariant.last c.args.name.now ∙ ap (place_among c.args.name.now) c.self.view_is
