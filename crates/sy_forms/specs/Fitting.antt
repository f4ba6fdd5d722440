-- When a phrase fits: every name is there, every application has a sort, every call has its function's arguments.
use Rattle.std.specs.Prelude.{◌++◌, Bool, List, [], slice_get, Option, Some, None, if◌then◌else◌}
use Rattle.sy_terms.specs.Theories.{sort_of_value}
use Rattle.sy_terms.specs.Fitting.{Scope, applied_sort, called_sort, signature_of, with_sort, after}
use Rattle.sy_terms.specs.declared.sort.Sort.{Sort}
use Rattle.sy_grammar_base.specs.Formed.{is_plain}
use Rattle.sy_forms_items.specs.Phrases.{Phrase, Phrases, Literal, Position, Local, Nonterminal, Operation, Invocation, Let, none, more}
use Rattle.sy_forms_linear.specs.Linear.{is_linear_product}

-- What a phrase may name: operators and functions, the sorts of the variables or arguments in force and of the
-- nonterminals, and which of these derive numerals alone. In some places no let may stand.
pub record Setting : Type 0 where
  pub scope : Scope
  pub values : List Sort
  pub nonterminals : List Sort
  pub constants : List Bool
  pub lets : Bool

unfoldable mutual
  -- the sort of a phrase that fits, where let names of these sorts are in force
  pub phrase_sort : Setting → List Sort → Phrase → Option Sort
  phrase_sort setting locals (Literal value) = if is_plain value then Some (sort_of_value value) else None
  phrase_sort setting locals (Position position) = slice_get setting.values position
  phrase_sort setting locals (Local level) = slice_get locals level
  phrase_sort setting locals (Nonterminal number) = slice_get setting.nonterminals number
  phrase_sort setting locals (Operation operator arguments) =
      if is_linear_product setting.constants operator arguments then applied_sort setting.scope operator (phrase_sorts setting locals arguments) else None
  phrase_sort setting locals (Invocation function arguments) = called_sort (signature_of setting.scope function) (phrase_sorts setting locals arguments)
  phrase_sort setting locals (Let bound inner) =
      if setting.lets then after (phrase_sorts setting locals bound) (λ found. phrase_sort setting (locals ++ found) inner) else None

  pub phrase_sorts : Setting → List Sort → Phrases → Option (List Sort)
  phrase_sorts setting locals none = Some []
  phrase_sorts setting locals (more first rest) = with_sort (phrase_sort setting locals first) (phrase_sorts setting locals rest)
