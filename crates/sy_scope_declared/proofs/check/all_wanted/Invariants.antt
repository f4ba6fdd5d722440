use Rattle.std.proofs.Common.{◌≡◌, map, take}
use Rattle.sy_grammar_base.specs.Questions as questions
use Rattle.sy_scope_names.specs.Contexts as contexts
use Rattle.sy_scope_declared.specs.Seen.{sought_of}
use Rattle.sy_scope_declared.proofs.check.all_wanted.Given as goal

abbrev pub invariant-loop-one : goal.invariant-loop-one
invariant-loop-one g l =
    let number = g.T.Theory.denotes in
    map (questions.goal_of number) l.wanted ≡ map contexts.goal_sought (map (sought_of number l.logic) (take l.one-index l.sought))
