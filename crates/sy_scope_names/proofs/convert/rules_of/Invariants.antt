use Rattle.std.proofs.Common.{◌≡◌, map, take}
use Rattle.sy_grammar_base.specs.Grown.{production_of}
use Rattle.sy_scope_names.specs.Groups.{production_in}
use Rattle.sy_scope_names.proofs.convert.rules_of.Given as goal

abbrev pub invariant-loop-ruling : goal.invariant-loop-ruling
invariant-loop-ruling g l = map (production_of g.T.Theory.denotes) l.rules ≡ map (production_in g.T.Theory.denotes) (take l.ruling-index l.rulings)
