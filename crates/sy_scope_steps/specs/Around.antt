-- What names stand for around the bodies of a problem: definitions, and functions to be found.
use Rattle.std.specs.Prelude.{ℕ, ◌+◌, List, [], ◌∷◌, ◌++◌, is_some, if◌then◌else◌}
use Rattle.sy_terms.specs.Expr.{Expr}
use Rattle.sy_terms.specs.Fitting.{Signature}
use Rattle.sy_terms.specs.declared.sort.Sort.TheVariants as sorts
use Rattle.sy_terms.specs.declared.term.Fun.TheVariants.{Defined, Wanted}
use Rattle.sy_scope_causes.specs.declared.titles.Title.{Title}
use Rattle.sy_scope_causes.specs.declared.titles.Titles.{Titles}
use Rattle.sy_forms_items.specs.declared.names.Entity.{Entity}
use Rattle.sy_forms_items.specs.declared.names.Entity.TheVariants as entity
use Rattle.sy_forms_items.specs.Environments.{entry_under}
use Rattle.sy_scope_names.specs.Contexts.{Context, beginning}
use Rattle.sy_scope_steps.specs.Sizes.{measures_in}

-- the definition of this number
abbrev pub definition_at : ℕ → Signature → Entity
definition_at number f = entity.Function (Defined number) f.takes f.gives

-- the function to be found of this number; no body may call it, so its signature says nothing
abbrev pub sought_at : ℕ → Entity
sought_at number = entity.Function (Wanted number) [] sorts.Bool

-- definitions under their names, from a number on
unfoldable pub defined_from : ℕ → List (List ℕ) → List Signature → List (List ℕ × Entity)
defined_from number [] signatures = []
defined_from number (name ∷ names) [] = []
defined_from number (name ∷ names) (f ∷ signatures) = (name, definition_at number f) ∷ defined_from (number + 1) names signatures

-- functions to be found under their names, from a number on
unfoldable pub wanted_from : ℕ → List Title → List (List ℕ × Entity)
wanted_from number [] = []
wanted_from number (title ∷ titles) = (title.name, sought_at number) ∷ wanted_from (number + 1) titles

-- an entry more, unless there is one under its name
abbrev pub with_entry : List (List ℕ × Entity) → List ℕ × Entity → List (List ℕ × Entity)
with_entry entries entry = if is_some (entry_under entry.0 entries) then entries else entries ++ entry ∷ []

-- so for each in turn
unfoldable pub with_entries : List (List ℕ × Entity) → List (List ℕ × Entity) → List (List ℕ × Entity)
with_entries entries [] = entries
with_entries entries (entry ∷ later) = with_entries (with_entry entries entry) later

-- the definitions under the first names of definitions, then the functions to be found
abbrev pub entities_in : Titles → List Signature → List (List ℕ × Entity)
entities_in titles signatures = with_entries (with_entries [] (defined_from 0 titles.defined signatures)) (wanted_from 0 titles.wanted)

-- a context in which nothing else is declared: no abbreviations of sorts, and no variables
abbrev pub surroundings : Titles → List Signature → List Expr → Context
surroundings titles signatures definitions = record beginning { entities = entities_in titles signatures; measures = measures_in definitions }
