use Rattle.std.proofs.Common.{◌≡◌, map, take}
use Rattle.sy_scope_names.specs.Jobs.{title_of}
use Rattle.sy_scope_declared.specs.Seen.{sought_of}
use Rattle.sy_terms.specs.declared.sort.Logic.{Logic}
use Rattle.sy_scope_declared.proofs.titles.wanted_titles.Given as goal

abbrev pub invariant-loop-one : goal.invariant-loop-one
invariant-loop-one g l = (logic : Logic) → l.titles ≡ map title_of (map (sought_of g.T.Theory.denotes logic) (take l.one-index l.sought))
