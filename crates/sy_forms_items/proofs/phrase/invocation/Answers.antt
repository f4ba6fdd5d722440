use Rattle.std.proofs.Common.{refl}
use Rattle.sy_forms_items.specs.Meant.{phrase_of-Invocation}
use Rattle.sy_forms_items.proofs.phrase.invocation.Goals as goal

pub returns : goal.returns
returns g c = rw (phrase_of-Invocation) refl
