use Rattle.std.proofs.Common.{◌≡◌, map, take}
use Rattle.sy_scope_names.specs.Contexts.{Definition}
use Rattle.sy_scope_declared.specs.Seen.{definition_of}
use Rattle.sy_scope_declared.proofs.titles.defined_names.Given as goal

abbrev pub invariant-loop-definition : goal.invariant-loop-definition
invariant-loop-definition g l = l.names ≡ map (λ (d : Definition). d.name) (map (definition_of g.T.Theory.denotes) (take l.definition-index l.definitions))
