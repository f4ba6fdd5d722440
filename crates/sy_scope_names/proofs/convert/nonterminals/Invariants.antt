use Rattle.std.proofs.Common.{◌≡◌, map, take}
use Rattle.sy_grammar_base.specs.Grown.{nonterminal_of}
use Rattle.sy_scope_names.specs.Groups.{group_of}
use Rattle.sy_scope_names.proofs.convert.nonterminals.Given as goal

abbrev pub invariant-loop-group : goal.invariant-loop-group
invariant-loop-group g l = map (nonterminal_of g.T.Theory.denotes) l.nons ≡ map (group_of g.T.Theory.denotes) (take l.group-index l.groups)
