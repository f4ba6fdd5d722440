use Rattle.std.proofs.Common.{◌≡◌, drop}
use Rattle.sy_forms_items.specs.Seen.{environment_of}
use Rattle.sy_forms_items.specs.Views.{items_in}
use Rattle.sy_scope_steps.specs.Grammars as spec
use Rattle.sy_scope_steps.specs.Seen.{grown_grammar_of}
use Rattle.sy_scope_steps.proofs.groups.read_groups.Given as goal

abbrev pub invariant-loop-named : goal.invariant-loop-named
invariant-loop-named g l =
    spec.read_groups (environment_of l.env) (drop l.named-index l.env.nonterminals.now) (items_in l.left) (grown_grammar_of g.T.Theory.denotes l.grown)
    ≡ spec.read_groups (environment_of l.env) l.env.nonterminals.now l.groups spec.nothing_grown
