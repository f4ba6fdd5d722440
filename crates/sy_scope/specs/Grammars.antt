-- What is read of a grammar, apart from memory.
use Rattle.std.specs.Prelude.{List}
use Rattle.sy_terms.specs.Values.{Val}
use Rattle.sy_terms.specs.Denoted.{vals_of}
use Rattle.sy_terms.specs.declared.sort.Logic.{Logic}
use Rattle.sy_terms.specs.declared.sort.Sort.{Sort}
use Rattle.sy_forms_items.specs.declared.names.Named.{Named}
use Rattle.sy_scope_declared.specs.Seen.{grammar_of}
use Rattle.sy_scope_steps.specs.Grammars.{Written}
use Rattle.sy_scope.specs.declared.functions.Ruled.{Ruled}

-- what is read of a grammar
abbrev pub ruled_of : {T N : Type 0} → (N → Val) → Logic → List Named → Sort → Ruled T N → Written
ruled_of number logic arguments sort x = record { grammar = grammar_of number logic arguments sort x.groups; values = vals_of number x.values }
