-- Nonterminals that were read, apart from memory.
use Rattle.std.specs.Prelude.{map}
use Rattle.sy_terms.specs.Values.{Val}
use Rattle.sy_grammar_base.specs.Trees.{Production, Nonterminal}
use Rattle.sy_forms_items.specs.Productions.{production_at}
use Rattle.sy_forms_items.specs.Rulings.{ruling_of}
use Rattle.sy_forms_items.specs.declared.ruling.Ruling.{Ruling}
use Rattle.sy_scope_names.specs.declared.convert.Group.{Group}

abbrev pub production_in : {T N : Type 0} → (N → Val) → Ruling T N → Production
production_in number ruling = production_at (ruling_of number ruling)

abbrev pub group_of : {T N : Type 0} → (N → Val) → Group T N → Nonterminal
group_of number group = record { sort = group.sort; rules = map (production_in number) group.rules }
