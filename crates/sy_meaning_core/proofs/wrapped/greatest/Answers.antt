use Rattle.sy_meaning_core.proofs.Masks.{greatest}
use Rattle.sy_meaning_core.proofs.wrapped.greatest.Goals as goal

pub returns : goal.returns
returns c = greatest c.args.width c.requires.most
