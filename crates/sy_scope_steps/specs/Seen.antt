-- What is read of a grammar, apart from memory.
use Rattle.std.specs.Prelude.{List, map}
use Rattle.sy_text_items.specs.Views.{item_of}
use Rattle.sy_terms.specs.Values.{Val}
use Rattle.sy_terms.specs.Denoted.{vals_of}
use Rattle.sy_forms_items.specs.declared.names.Named.{Named}
use Rattle.sy_scope_names.specs.Groups.{production_in, group_of}
use Rattle.sy_scope_steps.specs.Grammars as spec
use Rattle.sy_scope_names.specs.Lists.{sorts_of_names}
use Rattle.sy_scope_steps.specs.declared.group.Collected.{Collected}
use Rattle.sy_scope_steps.specs.declared.group.Grouped.{Grouped}
use Rattle.sy_scope_steps.specs.declared.groups.Grown.{Grown}
use Rattle.sy_scope_steps.specs.declared.rulebook.Written.{Written}

abbrev pub grouped_of : Grouped → spec.Grouped
grouped_of x = record { name = item_of x.name.now; sort = item_of x.sort.now; rules = x.rules.now }

abbrev pub collected_of : {T N : Type 0} → (N → Val) → Collected T N → spec.Collected
collected_of number x = record { count = x.count; rules = map (production_in number) x.rules; values = vals_of number x.values }

abbrev pub grown_grammar_of : {T N : Type 0} → (N → Val) → Grown T N → spec.GrownGrammar
grown_grammar_of number x = record { count = x.count; nonterminals = map (group_of number) x.groups; values = vals_of number x.values }

-- a grammar over these arguments
abbrev pub written_of : {T N : Type 0} → (N → Val) → List Named → Written T N → spec.Written
written_of number arguments x = record { grammar = record { arguments = sorts_of_names arguments; nonterminals = map (group_of number) x.groups }; values = vals_of number x.values }
