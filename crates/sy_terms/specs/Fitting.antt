-- When terms fit: every name is in range, every application has a sort, every call has its function's arguments.
use Rattle.std.specs.Prelude.{Bool, true, false, ◌&&◌, List, [], ◌∷◌, ◌++◌, slice_get, Option, Some, None, if◌then◌else◌}
use Rattle.sy_terms.specs.Sorts.{sort_of, same_sort}
use Rattle.sy_terms.specs.Theories.{sort_of_value, valid}
use Rattle.sy_terms.specs.Expr.{Expr, Exprs, Constant, Variable, Apply, Invoke, Bind, none, more}
use Rattle.sy_terms.specs.declared.op.Op.{Op}
use Rattle.sy_terms.specs.declared.sort.Sort.{Sort}
use Rattle.sy_terms.specs.declared.sorts.Sorted.{Sorted}
use Rattle.sy_terms.specs.declared.sorts.Sorted.TheVariants.{Is, Mismatch, BadWidth}
use Rattle.sy_terms.specs.declared.term.Fun.{Fun}
use Rattle.sy_terms.specs.declared.term.Fun.TheVariants.{Defined, Wanted}

-- the sorts that a function takes, and the sort of its value
pub record Signature : Type 0 where
  pub takes : List Sort
  pub gives : Sort

-- what names may be used: the logic's operators, the signatures of definitions and of functions to be found
pub record Scope : Type 0 where
  pub owned : Op → Bool
  pub defined : List Signature
  pub wanted : List Signature

abbrev pub same_sorts : List Sort → List Sort → Bool
same_sorts [] [] = true
same_sorts (s ∷ ss) (t ∷ ts) = same_sort s t && same_sorts ss ts
same_sorts _ _ = false

abbrev pub signature_of : Scope → Fun → Option Signature
signature_of scope (Defined f) = slice_get scope.defined f
signature_of scope (Wanted f) = slice_get scope.wanted f

abbrev pub given_by : Sorted → Option Sort
given_by (Is s) = Some s
given_by Mismatch = None
given_by BadWidth = None

abbrev pub applied_sort : Scope → Op → Option (List Sort) → Option Sort
applied_sort scope operator None = None
applied_sort scope operator (Some sorts) = if scope.owned operator then given_by (sort_of operator sorts) else None

abbrev pub called_sort : Option Signature → Option (List Sort) → Option Sort
called_sort None sorts = None
called_sort (Some f) None = None
called_sort (Some f) (Some sorts) = if same_sorts sorts f.takes then Some f.gives else None

abbrev pub with_sort : Option Sort → Option (List Sort) → Option (List Sort)
with_sort None sorts = None
with_sort (Some s) None = None
with_sort (Some s) (Some sorts) = Some (s ∷ sorts)

abbrev pub after : Option (List Sort) → (List Sort → Option Sort) → Option Sort
after None next = None
after (Some sorts) next = next sorts

unfoldable mutual
  -- the sort of a term that fits, where the values in force have these sorts
  pub sort_in : Scope → List Sort → Expr → Option Sort
  sort_in scope sorts (Constant value) = if valid value then Some (sort_of_value value) else None
  sort_in scope sorts (Variable position) = slice_get sorts position
  sort_in scope sorts (Apply operator arguments) = applied_sort scope operator (sorts_in scope sorts arguments)
  sort_in scope sorts (Invoke function arguments) = called_sort (signature_of scope function) (sorts_in scope sorts arguments)
  sort_in scope sorts (Bind bound inner) = after (sorts_in scope sorts bound) (λ found. sort_in scope (sorts ++ found) inner)

  pub sorts_in : Scope → List Sort → Exprs → Option (List Sort)
  sorts_in scope sorts none = Some []
  sorts_in scope sorts (more first rest) = with_sort (sort_in scope sorts first) (sorts_in scope sorts rest)
