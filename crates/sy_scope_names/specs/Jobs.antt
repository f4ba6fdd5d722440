-- What a read file asks for.
use Rattle.std.specs.Prelude.{ℕ, List, map, Option, Result, Ok, Err}
use Rattle.sy_terms.specs.declared.sort.Logic.{Logic}
use Rattle.sy_scope_causes.specs.declared.cause.Refused.{Refused}
use Rattle.sy_scope_causes.specs.declared.titles.Title.{Title}
use Rattle.sy_scope_causes.specs.declared.titles.Titles.{Titles}
use Rattle.sy_grammar_base.specs.Questions.{Question}
use Rattle.sy_forms_items.specs.declared.names.Named.{Named}
use Rattle.sy_scope_names.specs.Contexts.{Context, Definition, Sought}

-- the names of the functions, in order of declaration
abbrev pub headed : List ℕ → List Named → Title
headed name arguments = record { name = name; args = map (λ (x : Named). x.name) arguments }

abbrev pub title_of : Sought → Title
title_of f = headed f.name f.arguments

abbrev pub titles_of : Context → Titles
titles_of context = record { wanted = map title_of context.sought; defined = map (λ (d : Definition). d.name) context.definitions }

-- the logic, if one was set, what each check-synth asks, and the names of the functions
pub record Wish : Type 0 where
  pub logic : Option Logic
  pub questions : List Question
  pub titles : Titles

abbrev pub wish_of : Context → Wish
wish_of context = record { logic = context.logic; questions = context.questions; titles = titles_of context }

-- what the reading of a file gives
abbrev pub wished : Result Context Refused → Result Wish Refused
wished (Ok context) = Ok (wish_of context)
wished (Err refused) = Err refused
