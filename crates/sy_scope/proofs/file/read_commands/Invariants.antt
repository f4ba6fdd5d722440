use Rattle.std.proofs.Common.{◌≡◌, ◌-◌, length}
use Rattle.sy_scope_steps.specs.Files.{file_read}
use Rattle.sy_scope.specs.Sound.{Sound}
use Rattle.sy_scope.specs.Read.{LeadsToOutcome}
use Rattle.sy_scope_declared.specs.Seen.{context_of}
use Rattle.sy_scope.proofs.file.read_commands.Given as goal

abbrev pub invariant-loop-item : goal.invariant-loop-item
invariant-loop-item g l = record {
  leads : LeadsToOutcome l.bytes l.at l.command (context_of g.T.Theory.denotes l.context) (file_read l.bytes);
  logic : l.context.logic ≡ l.fn.opened.logic;
  sound : Sound (context_of g.T.Theory.denotes l.context);
}

abbrev pub decreases-loop-item : goal.decreases-loop-item
decreases-loop-item g l = length l.bytes - l.at
