use Rattle.sy_meaning_core.proofs.Masks.{masked}
use Rattle.sy_meaning_core.proofs.wrapped.lowest.Goals as goal

pub returns : goal.returns
returns c = masked c.args.number c.args.width c.requires.most
