use Rattle.std.proofs.Common.{map}
use Rattle.sy_terms.specs.Definitions.{signature}
use Rattle.sy_scope_names.specs.Contexts.{goal_sought}
use Rattle.sy_scope_declared.specs.Seen.{sought_of}
use Rattle.sy_scope_declared.proofs.Alike.{value_known}
use Rattle.sy_scope_declared.proofs.check.grammar_in.Goals as goal

pub default_grammar-requires-clause-value : goal.default_grammar-requires-clause-value
default_grammar-requires-clause-value g c =
    value_known g.T.Theory.owned g.T.Theory.numeric (map signature c.args.defs.now) (goal_sought (sought_of g.T.Theory.denotes c.args.logic c.args.sought.now)) c.requires.fits
