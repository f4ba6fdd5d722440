use Rattle.std.proofs.Common.{◌≡◌, map, take}
use Rattle.sy_forms_items.specs.declared.names.Named.{Named}
use Rattle.sy_scope_declared.proofs.titles.names_of.Given as goal

abbrev pub invariant-loop-argument : goal.invariant-loop-argument
invariant-loop-argument l = l.names ≡ map (λ (x : Named). x.name) (take l.argument-index l.arguments)
