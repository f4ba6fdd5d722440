use Rattle.std.proofs.Common.{◌≡◌, map, take}
use Rattle.sy_terms.specs.Denoted.{expr_of}
use Rattle.sy_scope_names.specs.Contexts.{condition_at}
use Rattle.sy_scope_declared.specs.Seen.{condition_of}
use Rattle.sy_scope_declared.proofs.check.constraints_of.Given as goal

abbrev pub invariant-loop-condition : goal.invariant-loop-condition
invariant-loop-condition g l =
    let number = g.T.Theory.denotes in
    map (expr_of number) l.terms ≡ map (condition_at l.outside) (map (condition_of number) (take l.condition-index l.conditions))
