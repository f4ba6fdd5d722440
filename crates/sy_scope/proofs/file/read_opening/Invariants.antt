use Rattle.std.proofs.Common.{◌-◌, length}
use Rattle.sy_scope_names.specs.Contexts.{beginning}
use Rattle.sy_scope_steps.specs.Files.{file_read}
use Rattle.sy_scope.specs.Read.{LeadsToOutcome}
use Rattle.sy_scope.proofs.file.read_opening.Given as goal

abbrev pub invariant-loop-item : goal.invariant-loop-item
invariant-loop-item l = LeadsToOutcome l.bytes l.at l.command beginning (file_read l.bytes)

abbrev pub decreases-loop-item : goal.decreases-loop-item
decreases-loop-item l = length l.bytes - l.at
