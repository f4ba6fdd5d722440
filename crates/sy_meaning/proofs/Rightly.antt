-- The calls that terms ask for, by the form of the term.
use Rattle.std.specs.Prelude.{ℕ, ◌+◌, ◌<◌, List, [], ◌∷◌, ◌++◌, ◌≡◌, take, length, Some, slice_get, All}
use Rattle.std.proofs.Common.{ap, sym, ◌∙◌, subst, get_or}
use Rattle.std.proofs.lemmas.List.{take_more}
use Rattle.std.proofs.lemmas.List.Elements.{All-nil, All-cons, All-append}
use Rattle.std.specs.declared.boxed.Box.{Box}
use Rattle.std.specs.declared.alloc.Global.{Global}
use Rattle.sy_terms.specs.Values.{Val}
use Rattle.sy_terms.specs.Expr.{none}
use Rattle.sy_terms.specs.Denoted.{vals_of, expr_of, exprs_of}
use Rattle.sy_terms.specs.Meaning.{Function, meanings, asked, all_asked}
use Rattle.sy_terms.specs.Fitting.{Signature, Scope}
use Rattle.sy_terms.specs.declared.op.Op.{Op}
use Rattle.sy_terms.specs.declared.sort.Sort.{Sort}
use Rattle.sy_terms.specs.declared.sort.Value.{Value}
use Rattle.sy_terms.specs.declared.term.Fun.{Fun}
use Rattle.sy_terms.specs.declared.term.Fun.TheVariants.{Defined, Wanted}
use Rattle.sy_terms.specs.declared.term.Term.{Term, Const, Var, App, Call, Let}
use Rattle.sy_terms.specs.declared.term.Terms.{Terms}
use Rattle.sy_terms_operators.specs.Evaluation.{HaveValues}
use Rattle.sy_terms_operators.proofs.Asks as asks
use Rattle.sy_terms_operators.proofs.Cases as cases
use Rattle.sy_terms_operators.proofs.Steps.{map-both}
use Rattle.sy_meaning.specs.Calls.{IsCallOf}

module _ (signatures : List Signature) {T N : Type 0} (number : N → Val) (defined wanted : List Function) (values : List Val) (term : Term T N) where
  pub constant : (value : Value N) → term ≡ Const value → All (IsCallOf signatures) (asked defined wanted values (expr_of number term))
  constant value is = subst (All (IsCallOf signatures)) (sym (asks.const-asks number defined wanted values [] term value is)) (All-nil (IsCallOf signatures))

  pub variable : (position : ℕ) → term ≡ Var position → All (IsCallOf signatures) (asked defined wanted values (expr_of number term))
  variable position is = subst (All (IsCallOf signatures)) (sym (asks.var-asks number defined wanted values [] term position is)) (All-nil (IsCallOf signatures))

  pub application : (operator : Op) (arguments : Terms T N) → term ≡ App operator arguments → All (IsCallOf signatures) (all_asked defined wanted values (exprs_of number arguments.items.items)) → All (IsCallOf signatures) (asked defined wanted values (expr_of number term))
  application operator arguments is each = subst (All (IsCallOf signatures)) (sym (asks.app-asks number defined wanted values [] term operator arguments is)) each

  pub definition : (function : Fun) (arguments : Terms T N) (n : ℕ) → term ≡ Call function arguments → function ≡ Defined n → All (IsCallOf signatures) (all_asked defined wanted values (exprs_of number arguments.items.items)) → All (IsCallOf signatures) (asked defined wanted values (expr_of number term))
  definition function arguments n is same each = subst (All (IsCallOf signatures)) (sym (asks.defined-asks number defined wanted values [] term function arguments n is same)) each

  -- a call of a function to be found, at values that its arguments have
  pub call : (scope : Scope) → scope.wanted ≡ signatures → (function : Fun) (arguments : Terms T N) (n : ℕ) (found : List Val) (gives : Sort) → term ≡ Call function arguments → function ≡ Wanted n → cases.Takes scope (Wanted n) found gives
      → HaveValues scope defined wanted values (exprs_of number arguments.items.items) found → All (IsCallOf signatures) (all_asked defined wanted values (exprs_of number arguments.items.items)) → All (IsCallOf signatures) (asked defined wanted values (expr_of number term))
  call scope listed function arguments n found gives is same takes have each =
      let at : slice_get signatures n ≡ Some takes.signature = ap (λ (all : List Signature). slice_get all n) (sym listed) ∙ takes.is in
      let one : IsCallOf signatures (n, found) = record { signature = takes.signature; at = at; sorted = sym takes.takes; valid = have.valid } in
      let last : IsCallOf signatures (n, meanings defined wanted values (exprs_of number arguments.items.items)) = subst (λ (tuple : List Val). IsCallOf signatures (n, tuple)) have.meanings one in
      subst (All (IsCallOf signatures)) (sym (asks.wanted-asks number defined wanted values [] term function arguments n is same))
      (All-append (IsCallOf signatures) _ _ each (All-cons (IsCallOf signatures) _ [] last (All-nil (IsCallOf signatures))))

-- the inner term of a binding, over the values with those of the bound terms behind them
pub binding : (signatures : List Signature) {T N : Type 0} (number : N → Val) (defined wanted : List Function) (values found : List (Value N)) (term : Term T N) (bound : Terms T N) (inner : Box (Term T N) Global) → term ≡ Let bound inner
    → vals_of number found ≡ meanings defined wanted (vals_of number values) (exprs_of number bound.items.items)
    → All (IsCallOf signatures) (all_asked defined wanted (vals_of number values) (exprs_of number bound.items.items)) → All (IsCallOf signatures) (asked defined wanted (vals_of number (values ++ found)) (expr_of number inner.value))
    → All (IsCallOf signatures) (asked defined wanted (vals_of number values) (expr_of number term))
binding signatures number defined wanted values found term bound inner is means each rest =
    let longer = map-both number values found ∙ ap (λ (vs : List Val). vals_of number values ++ vs) means in
    subst (All (IsCallOf signatures)) (sym (asks.let-asks number defined wanted (vals_of number values) [] term bound inner is))
    (All-append (IsCallOf signatures) _ _ each (subst (λ (vs : List Val). All (IsCallOf signatures) (asked defined wanted vs (expr_of number inner.value))) longer rest))

pub no_term : (signatures : List Signature) (defined wanted : List Function) (values : List Val) → All (IsCallOf signatures) (all_asked defined wanted values none)
unfolding all_asked
no_term signatures defined wanted values = All-nil (IsCallOf signatures)

-- one term more
only : (signatures : List Signature) (defined wanted : List Function) (values : List Val) {T N : Type 0} (number : N → Val) (term : Term T N) → All (IsCallOf signatures) (asked defined wanted values (expr_of number term)) → All (IsCallOf signatures) (all_asked defined wanted values (exprs_of number (term ∷ [])))
unfolding all_asked
only signatures defined wanted values number term one = All-append (IsCallOf signatures) (asked defined wanted values (expr_of number term)) [] one (All-nil (IsCallOf signatures))

pub next : (signatures : List Signature) (defined wanted : List Function) (values : List Val) {T N : Type 0} (number : N → Val) (terms : List (Term T N)) (i : ℕ) (term : Term T N) → i < length terms → term ≡ get_or terms i term
    → All (IsCallOf signatures) (all_asked defined wanted values (exprs_of number (take i terms))) → All (IsCallOf signatures) (asked defined wanted values (expr_of number term)) → All (IsCallOf signatures) (all_asked defined wanted values (exprs_of number (take (i + 1) terms)))
next signatures defined wanted values number terms i term within is each one =
    rw (take_more terms i term within, ← is, asks.all_asked-append defined wanted values number (take i terms) (term ∷ []))
    (All-append (IsCallOf signatures) _ _ each (only signatures defined wanted values number term one))
