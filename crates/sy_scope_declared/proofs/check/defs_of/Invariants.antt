use Rattle.std.proofs.Common.{◌≡◌, map, take}
use Rattle.sy_terms.specs.Definitions.{signature, bodies}
use Rattle.sy_scope_names.specs.Contexts.{definition_signature, body_of}
use Rattle.sy_scope_declared.specs.Seen.{definition_of}
use Rattle.sy_scope_declared.proofs.check.defs_of.Given as goal

abbrev pub invariant-loop-definition : goal.invariant-loop-definition
invariant-loop-definition g l =
    let number = g.T.Theory.denotes in
    record {
      signatures : map signature l.defs ≡ map definition_signature (map (definition_of number) (take l.definition-index l.definitions));
      bodies : bodies number l.defs ≡ map body_of (map (definition_of number) (take l.definition-index l.definitions));
    }
