use Rattle.sy_terms.proofs.Reading.{read_at}
use Rattle.sy_terms.proofs.term.Terms.get.Goals as goal

pub returns : goal.returns
returns g c = rw c.deref.ensures.value at (read_at c.get.result _ c.args.i _ c.get.ensures.lookup.3 c.get.ensures.lookup.1)
