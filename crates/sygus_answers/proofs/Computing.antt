-- Where every value of a theory's operators fits, each value on the way to a term does.
use Rattle.std.specs.Prelude.{ℕ, zero, suc, Bool, true, ◌&&◌, List, [], ◌∷◌, ◌++◌, slice_get, Option, Some, None, ◌≡◌, refl}
use Rattle.std.proofs.Common.{subst}
use Rattle.sy_terms.specs.Values.{Val}
use Rattle.sy_terms.specs.Theories.{fits}
use Rattle.sy_terms.specs.Expr.{Expr, Exprs, Constant, Variable, Apply, Invoke, Bind, none, more}
use Rattle.sy_terms.specs.Meaning.{Function, can_call, function_from, functions, functions_after, meanings, computable, all_computable}
use Rattle.sy_terms.specs.Fitting.{Scope, Signature, signature_of, sort_in, sorts_in}
use Rattle.sy_terms.specs.declared.op.Op.{Op}
use Rattle.sy_terms.specs.declared.sort.Sort.{Sort}
use Rattle.sy_terms.specs.declared.term.Fun.TheVariants.{Defined, Wanted}
use Rattle.sy_terms_operators.proofs.Equations.{applied_sort_Some, called_sort_Some, after_Some, with_sort_Some}
use Rattle.sy_grammar_base.specs.Fits.{with_functions, FitInTurn}

-- a function can be called at any values
abbrev pub IsTotal : Function → Type 0
IsTotal f = (values : List Val) → f.computable values ≡ true

abbrev pub AreTotal : List Function → Type 0
AreTotal fs = (k : ℕ) (f : Function) → slice_get fs k ≡ Some f → IsTotal f

pub none_total : AreTotal []
none_total zero f at = absurd cc
none_total (suc k) f at = absurd cc

pub more_total : (f : Function) (fs : List Function) → IsTotal f → AreTotal fs → AreTotal (f ∷ fs)
more_total f fs one all zero g at = let same : f ≡ g = cc in subst IsTotal same one
more_total f fs one all (suc k) g at = all k g at

push_total : (fs : List Function) (f : Function) → AreTotal fs → IsTotal f → AreTotal (fs ++ f ∷ [])
push_total [] f all one = more_total f [] one all
push_total (g ∷ fs) f all one = more_total g (fs ++ f ∷ []) (all zero g refl) (push_total fs f (λ k h at. all (suc k) h at) one)

can_be_called : (fs : List Function) (k : ℕ) (values : List Val) → AreTotal fs → can_call (slice_get fs k) values ≡ true
can_be_called fs k values all = go (slice_get fs k) refl
  where
    go : (found : Option Function) → slice_get fs k ≡ found → can_call found values ≡ true
    go None e = refl
    go (Some f) e = all k f e values

both_hold : (a b : Bool) → a ≡ true → b ≡ true → (a && b) ≡ true
both_hold a b e f = rw (e, f) refl

module _ (owned : Op → Bool) (always : (op : Op) (values : List Val) → owned op ≡ true → fits op values ≡ true) where
  mutual
    unfolding sort_in sorts_in computable all_computable

    -- a term that fits
    pub computes : (scope : Scope) (sorts : List Sort) (defined wanted : List Function) (values : List Val) (term : Expr) (sort : Sort) → scope.owned ≡ owned → AreTotal defined → AreTotal wanted
        → sort_in scope sorts term ≡ Some sort → computable defined wanted values term ≡ true
    computes scope sorts defined wanted values (Constant value) sort same all others fit = refl
    computes scope sorts defined wanted values (Variable position) sort same all others fit = refl
    computes scope sorts defined wanted values (Apply operator arguments) sort same all others fit =
        let below = applied_sort_Some scope operator (sorts_in scope sorts arguments) sort fit in
        both_hold _ _ (all_compute scope sorts defined wanted values arguments below.sorts same all others below.is)
        (always operator (meanings defined wanted values arguments) (subst (λ (o : Op → Bool). o operator ≡ true) same below.owned))
    computes scope sorts defined wanted values (Invoke (Defined f) arguments) sort same all others fit =
        let below = called_sort_Some (signature_of scope (Defined f)) (sorts_in scope sorts arguments) sort fit in
        both_hold _ _ (all_compute scope sorts defined wanted values arguments below.function.takes same all others below.takes)
        (can_be_called defined f (meanings defined wanted values arguments) all)
    computes scope sorts defined wanted values (Invoke (Wanted f) arguments) sort same all others fit =
        let below = called_sort_Some (signature_of scope (Wanted f)) (sorts_in scope sorts arguments) sort fit in
        both_hold _ _ (all_compute scope sorts defined wanted values arguments below.function.takes same all others below.takes)
        (can_be_called wanted f (meanings defined wanted values arguments) others)
    computes scope sorts defined wanted values (Bind bound inner) sort same all others fit =
        let below = after_Some (sorts_in scope sorts bound) (λ found. sort_in scope (sorts ++ found) inner) sort fit in
        both_hold _ _ (all_compute scope sorts defined wanted values bound below.sorts same all others below.is)
        (computes scope (sorts ++ below.sorts) defined wanted (values ++ meanings defined wanted values bound) inner sort same all others below.next_is)

    all_compute : (scope : Scope) (sorts : List Sort) (defined wanted : List Function) (values : List Val) (terms : Exprs) (found : List Sort) → scope.owned ≡ owned → AreTotal defined → AreTotal wanted
        → sorts_in scope sorts terms ≡ Some found → all_computable defined wanted values terms ≡ true
    all_compute scope sorts defined wanted values none found same all others fit = refl
    all_compute scope sorts defined wanted values (more first rest) found same all others fit =
        let below = with_sort_Some (sort_in scope sorts first) (sorts_in scope sorts rest) found fit in
        both_hold _ _ (computes scope sorts defined wanted values first below.sort same all others below.first_is)
        (all_compute scope sorts defined wanted values rest below.sorts same all others below.rest_is)

  -- a body that fits, under total functions
  pub body_total : (scope : Scope) (sorts : List Sort) (defined : List Function) (body : Expr) (sort : Sort) → scope.owned ≡ owned → AreTotal defined → sort_in scope sorts body ≡ Some sort → IsTotal (function_from defined body)
  body_total scope sorts defined body sort same all fit values = computes scope sorts defined [] values body sort same all none_total fit

  -- definitions that fit in turn
  in_turn_total : (earlier signatures : List Signature) (before : List Function) (bodies : List Expr) → AreTotal before → FitInTurn owned earlier signatures bodies → AreTotal (functions_after before bodies)
  in_turn_total earlier [] before [] all fit = all
  in_turn_total earlier [] before (body ∷ bodies) all fit = absurd fit
  in_turn_total earlier (s ∷ signatures) before [] all fit = absurd fit
  in_turn_total earlier (s ∷ signatures) before (body ∷ bodies) all fit =
      let here = body_total (with_functions owned earlier []) s.takes before body s.gives refl all fit.0 in
      in_turn_total (earlier ++ s ∷ []) signatures (before ++ function_from before body ∷ []) bodies (push_total before (function_from before body) all here) fit.1

  pub definitions_total : (signatures : List Signature) (bodies : List Expr) → FitInTurn owned [] signatures bodies → AreTotal (functions bodies)
  definitions_total signatures bodies fit = in_turn_total [] signatures [] bodies none_total fit
