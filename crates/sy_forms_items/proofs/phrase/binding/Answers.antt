use Rattle.std.proofs.Common.{refl}
use Rattle.sy_forms_items.specs.Meant.{phrase_of-Let}
use Rattle.sy_forms_items.proofs.phrase.binding.Goals as goal

pub returns : goal.returns
returns g c = rw (phrase_of-Let, c.in_ok-new.ensures.ok) refl
