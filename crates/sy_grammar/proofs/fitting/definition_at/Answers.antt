use Rattle.sy_terms.specs.Definitions.{signature}
use Rattle.sy_grammar.proofs.Reading.{read_as}
use Rattle.sy_grammar.proofs.fitting.definition_at.Goals as goal

pub returns : goal.returns
returns g c = read_as signature c.get.result c.args.defs.now c.args.definition _ c.get.ensures.lookup.3 c.get.ensures.lookup.1
