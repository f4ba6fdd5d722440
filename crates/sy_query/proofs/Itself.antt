-- What stands for a term without calls is the term itself.
use Rattle.std.specs.Prelude.{ℕ, Bool, List, [], ◌++◌, ◌≡◌, refl, Some, length}
use Rattle.std.proofs.Common.{arith, ap}
use Rattle.std.proofs.lemmas.Option.{none-some}
use Rattle.sy_terms.specs.Values.{Val}
use Rattle.sy_terms.specs.Denoted.{expr_of}
use Rattle.sy_terms.specs.Expr as expr
use Rattle.sy_terms.specs.Expr.{Expr, Exprs, Constant, Variable, Apply, Invoke, Bind}
use Rattle.sy_terms.specs.Fitting.{sort_in, sorts_in}
use Rattle.sy_terms.specs.declared.op.Op.{Op}
use Rattle.sy_terms.specs.declared.sort.Sort.{Sort}
use Rattle.sy_terms.specs.declared.sort.Sort.TheVariants as sorts
use Rattle.sy_terms.specs.declared.term.Def.{Def}
use Rattle.sy_terms.specs.declared.term.Fun.TheVariants.{Defined, Wanted}
use Rattle.sy_terms.specs.declared.term.Term.{Term}
use Rattle.sy_terms_operators.proofs.Equations.{applied_sort_Some, after_Some, with_sort_Some}
use Rattle.sy_query_base.specs.Placed.{placed, all_placed}
use Rattle.sy_query_base.specs.Weights.{weight, query_scope}
use Rattle.sy_query.specs.Placing.{placed_with, FitsOver}

mutual
  unfolding sort_in sorts_in placed all_placed

  placed-itself : (owned : Op → Bool) (ss : List Sort) (long : ℕ) (term : Expr) (s : Sort) → sort_in (query_scope owned) ss term ≡ Some s → placed [] [] 0 long term ≡ term
  placed-itself owned ss long (Constant value) s e = refl
  placed-itself owned ss long (Variable position) s e = ap Variable (omega arith)
  placed-itself owned ss long (Apply operator arguments) s e =
      let parts = applied_sort_Some (query_scope owned) operator (sorts_in (query_scope owned) ss arguments) s e in
      ap (Apply operator) (all_placed-themselves owned ss long arguments parts.sorts parts.is)
  placed-itself owned ss long (Invoke (Defined f) arguments) s e = absurd (none-some s e)
  placed-itself owned ss long (Invoke (Wanted f) arguments) s e = absurd (none-some s e)
  placed-itself owned ss long (Bind bound inner) s e =
      let parts = after_Some (sorts_in (query_scope owned) ss bound) (λ (more : List Sort). sort_in (query_scope owned) (ss ++ more) inner) s e in
      let front = all_placed-themselves owned ss long bound parts.sorts parts.is in
      let back = placed-itself owned (ss ++ parts.sorts) _ inner s parts.next_is in
      λ k. Bind (front k) (back k)

  all_placed-themselves : (owned : Op → Bool) (ss : List Sort) (long : ℕ) (terms : Exprs) (found : List Sort) → sorts_in (query_scope owned) ss terms ≡ Some found → all_placed [] [] 0 long terms ≡ terms
  all_placed-themselves owned ss long expr.none found e = refl
  all_placed-themselves owned ss long (expr.more first rest) found e =
      let parts = with_sort_Some (sort_in (query_scope owned) ss first) (sorts_in (query_scope owned) ss rest) found e in
      let front = placed-itself owned ss long first parts.sort parts.first_is in
      let back = all_placed-themselves owned ss long rest parts.sorts parts.rest_is in
      λ k. expr.more (front k) (back k)

module _ {T N : Type 0} (owned : Op → Bool) (number : N → Val) (defs : List (Def T N)) (terms : List (Term T N)) (all vars : List Sort) (body : Term T N)
    (no_defs : defs ≡ []) (no_terms : terms ≡ []) (same : all ≡ vars) (fits : sort_in (query_scope owned) vars (expr_of number body) ≡ Some sorts.Bool) where
  -- a query's body fits where there are no definitions and bodies
  pub body-fits : FitsOver owned number defs terms all (expr_of number body)
  body-fits = rw (no_defs, no_terms, same) (record { wanted = []; bodies = tt; sort = sorts.Bool; is = fits })

  -- what stands for it weighs what it weighs
  pub body-weight : weight (query_scope owned) all (placed_with number defs terms 0 (length all) (expr_of number body)) ≡ weight (query_scope owned) vars (expr_of number body)
  body-weight = rw (no_defs, no_terms, same) (ap (weight (query_scope owned) vars) (placed-itself owned vars (length vars) (expr_of number body) sorts.Bool fits))
