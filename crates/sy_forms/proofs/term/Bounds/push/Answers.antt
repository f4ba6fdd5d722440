use Rattle.std.proofs.Common.{refl}
use Rattle.sy_forms_items.specs.Meant.{phrases_of-append}
use Rattle.sy_forms.proofs.term.Bounds.push.Goals as goal

pub returns : goal.returns
returns g c = rw (c.in_ok-kept.ensures.ok, c.in_ok-push.ensures.ok, phrases_of-append) refl
