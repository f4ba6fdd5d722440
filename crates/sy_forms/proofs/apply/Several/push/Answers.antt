use Rattle.std.proofs.Common.{refl}
use Rattle.sy_forms_items.specs.Meant.{phrases_of-append}
use Rattle.sy_forms.proofs.apply.Several.push.Goals as goal

pub returns : goal.returns
returns g c = rw (c.in_ok-push.ensures.ok, phrases_of-append, c.in_ok-push-2.ensures.ok) refl
