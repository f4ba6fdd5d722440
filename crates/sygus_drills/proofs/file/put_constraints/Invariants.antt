use Rattle.std.proofs.Common.{◌≡◌, ◌++◌, drop}
use Rattle.std.specs.List.{flat_map}
use Rattle.sygus_drills.specs.Files.{constraint}
use Rattle.sygus_drills.proofs.file.put_constraints.Given as goal

-- what is appended and what is left make up all
abbrev pub invariant-loop-example : goal.invariant-loop-example
invariant-loop-example l = l.file ++ flat_map constraint (drop l.example-index l.examples) ≡ l.fn.file ++ flat_map constraint l.examples
