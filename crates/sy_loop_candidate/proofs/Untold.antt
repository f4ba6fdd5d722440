-- Values that rows don't tell, by the form of the term.
use Rattle.std.specs.Prelude.{ℕ, ◌<◌, Bool, false, List, [], ◌∷◌, ◌++◌, ◌≡◌, ◌⊎◌, refl, take, length}
use Rattle.std.proofs.Common.{arith, ap, ◌∙◌, sym, get_or, subst, zero, suc, inl, inr, ⊎_elim}
use Rattle.std.specs.declared.boxed.Box.{Box}
use Rattle.std.specs.declared.alloc.Global.{Global}
use Rattle.sy_terms.specs.Values.{Val}
use Rattle.sy_terms.specs.Expr.{Expr}
use Rattle.sy_terms.specs.Denoted.{vals_of, expr_of, exprs_of}
use Rattle.sy_terms.specs.Theories.{fits}
use Rattle.sy_terms.specs.Definitions.{DefinitionsFit, bodies, body}
use Rattle.sy_terms.specs.Meaning.{functions, asked, all_asked}
use Rattle.sy_terms.specs.declared.op.Op.{Op}
use Rattle.sy_terms.specs.declared.sort.Value.{Value}
use Rattle.sy_terms.specs.declared.term.Def.{Def}
use Rattle.sy_terms.specs.declared.term.Fun.{Fun}
use Rattle.sy_terms.specs.declared.term.Fun.TheVariants.{Defined, Wanted}
use Rattle.sy_terms.specs.declared.term.Term.{Term, App, Call, Let}
use Rattle.sy_terms.specs.declared.term.Terms.{Terms}
use Rattle.sy_terms_operators.specs.Evaluation.{scope_with}
use Rattle.sy_terms_operators.proofs.Steps as step
use Rattle.sy_terms_operators.proofs.Reached as reached
use Rattle.sy_terms_operators.proofs.Asks as by_form
use Rattle.sy_points.specs.Asked.{Asked}
use Rattle.sy_loop_spec.specs.Adding.{IsAsked}
use Rattle.sy_loop_candidate.specs.Bodies.{functions_by, FitsUnder, can_compute_under, asks_under, all_asks_under}
use Rattle.sy_loop_candidate.specs.Observing.{IsMissing, IsUntold, AllUntold, AllAreTold}
use Rattle.sy_loop_candidate.proofs.Calls.{none_missing, first_missing, second_missing, one_missing}
use Rattle.sy_loop_candidate.proofs.Reaching.{defined-unfit}

-- by a lack of a value or a missing call of a part
from_part : (part whole : Bool) (calls all : List (ℕ × List Val)) (points : Asked) → (part ≡ false → whole ≡ false) → (IsMissing calls points → IsMissing all points)
    → (part ≡ false) ⊎ IsMissing calls points → (whole ≡ false) ⊎ IsMissing all points
from_part part whole calls all points unfit missing untold = ⊎_elim
    (λ (no : part ≡ false). inl (unfit no))
    (λ (one : IsMissing calls points). inr (missing one))
    untold

module _ {T N : Type 0} (owned : Op → Bool) (number : N → Val) (defs : List (Def T N)) (exprs : List Expr) (points : Asked) where
  missing_as : (calls all : List (ℕ × List Val)) → all ≡ calls → IsMissing calls points → IsMissing all points
  missing_as calls all e missing = subst (λ some. IsMissing some points) (sym e) missing

  pub app-untold-arguments : (values : List Val) (term : Term T N) (operator : Op) (arguments : Terms T N) → term ≡ App operator arguments
      → AllUntold number defs exprs points values (exprs_of number arguments.items.items) → IsUntold number defs exprs points values (expr_of number term)
  app-untold-arguments values term operator arguments is untold = from_part _ _ _ _ points
      (step.app-unfit-arguments _ _ number values term operator arguments is)
      (missing_as _ _ (by_form.app-asks number _ _ values [] term operator arguments is)) untold

  pub app-untold : (values : List Val) (term : Term T N) (operator : Op) (arguments : Terms T N) (found : List Val) → term ≡ App operator arguments → FitsUnder owned defs exprs values (expr_of number term)
      → AllAreTold owned number defs exprs points values (exprs_of number arguments.items.items) found → fits operator found ≡ false → IsUntold number defs exprs points values (expr_of number term)
  app-untold values term operator arguments found is with_bodies all unfit =
      inl (step.app-unfit (scope_with owned defs with_bodies.wanted) _ _ number values term operator arguments found is
      (all.give with_bodies.wanted with_bodies.bodies (step.app-arguments _ [] [] number values term operator arguments is with_bodies.fits)) unfit)

  call_missing : (values : List Val) (term : Term T N) (function : Fun) (arguments : Terms T N) (which : Fun) → term ≡ Call function arguments → function ≡ which
      → IsMissing (all_asks_under number defs exprs values (exprs_of number arguments.items.items)) points → IsMissing (asks_under number defs exprs values (expr_of number term)) points
  call_missing values term function arguments (Defined n) is same missing = missing_as _ _ (by_form.defined-asks number _ _ values [] term function arguments n is same) missing
  call_missing values term function arguments (Wanted n) is same missing = missing_as _ _ (by_form.wanted-asks number _ _ values [] term function arguments n is same) (first_missing _ _ points missing)

  pub call-untold-arguments : (values : List Val) (term : Term T N) (function : Fun) (arguments : Terms T N) → term ≡ Call function arguments
      → AllUntold number defs exprs points values (exprs_of number arguments.items.items) → IsUntold number defs exprs points values (expr_of number term)
  call-untold-arguments values term function arguments is untold = from_part _ _ _ _ points
      (step.call-unfit-arguments _ _ number values term function arguments is)
      (call_missing values term function arguments function is refl) untold

  -- the body of a definition, which calls no function to be found
  pub defined-untold : (values : List Val) (term : Term T N) (function : Fun) (arguments : Terms T N) (found : List Val) (n : ℕ) (d : Def T N) → term ≡ Call function arguments → function ≡ Defined n → DefinitionsFit owned number defs
      → FitsUnder owned defs exprs values (expr_of number term) → AllAreTold owned number defs exprs points values (exprs_of number arguments.items.items) found
      → IsUntold {T = T} {N = N} number (take n defs) [] points found (body number (get_or defs n d)) → IsUntold number defs exprs points values (expr_of number term)
  defined-untold values term function arguments found n d is defined definitions with_bodies all untold =
      let have = all.give with_bodies.wanted with_bodies.bodies (step.call-arguments _ [] [] number values term function arguments is with_bodies.fits) in
      let takes = step.call-takes _ _ _ number values term function arguments found (Defined n) is defined with_bodies.fits have in
      let called = reached.calls owned number defs with_bodies.wanted n found _ definitions takes in
      ⊎_elim
      (λ (no : can_compute_under {T = T} {N = N} number (take n defs) [] found (body number (get_or defs n d)) ≡ false).
      inl (defined-unfit owned number defs with_bodies.wanted values term function arguments found n is with_bodies.fits (functions_by number defs exprs) d defined definitions have no))
      (λ (one : IsMissing (asks_under {T = T} {N = N} number (take n defs) [] found (body number (get_or defs n d))) points).
      absurd (none_missing _ points (reached.defined-asks owned number defs called d) one))
      untold

  -- a tuple that isn't among the points
  pub wanted-untold : (values : List Val) (term : Term T N) (function : Fun) (arguments : Terms T N) (found : List Val) (n : ℕ) → term ≡ Call function arguments → function ≡ Wanted n
      → FitsUnder owned defs exprs values (expr_of number term) → AllAreTold owned number defs exprs points values (exprs_of number arguments.items.items) found
      → (IsAsked points n found → ⊥) → IsUntold number defs exprs points values (expr_of number term)
  wanted-untold values term function arguments found n is is_wanted with_bodies all new =
      let have = all.give with_bodies.wanted with_bodies.bodies (step.call-arguments _ [] [] number values term function arguments is with_bodies.fits) in
      inr (missing_as _ _ (by_form.wanted-asks number _ _ values [] term function arguments n is is_wanted)
      (second_missing _ _ points (one_missing points n _ (subst (λ (tuple : List Val). IsAsked points n tuple → ⊥) have.meanings new))))

  pub let-untold-bound : (values : List Val) (term : Term T N) (bound : Terms T N) (inner : Box (Term T N) Global) → term ≡ Let bound inner
      → AllUntold number defs exprs points values (exprs_of number bound.items.items) → IsUntold number defs exprs points values (expr_of number term)
  let-untold-bound values term bound inner is untold = from_part _ _ _ _ points
      (step.let-unfit-bound _ _ number values term bound inner is)
      (λ missing. missing_as _ _ (by_form.let-asks number _ _ values [] term bound inner is) (first_missing _ _ points missing)) untold

  pub let-untold : (values found : List (Value N)) (term : Term T N) (bound : Terms T N) (inner : Box (Term T N) Global) → term ≡ Let bound inner → FitsUnder owned defs exprs (vals_of number values) (expr_of number term)
      → AllAreTold owned number defs exprs points (vals_of number values) (exprs_of number bound.items.items) (vals_of number found)
      → IsUntold number defs exprs points (vals_of number (values ++ found)) (expr_of number inner.value) → IsUntold number defs exprs points (vals_of number values) (expr_of number term)
  let-untold values found term bound inner is with_bodies all untold =
      let have = all.give with_bodies.wanted with_bodies.bodies (step.let-bound _ [] [] number _ term bound inner is with_bodies.fits) in
      let longer = step.map-both number values found ∙ ap (λ (vs : List Val). vals_of number values ++ vs) have.meanings in
      from_part _ _ _ _ points
      (step.let-unfit _ _ _ number values found term bound inner is have)
      (λ missing. missing_as _ _ (by_form.let-asks number _ _ (vals_of number values) [] term bound inner is) (second_missing _ _ points
      (subst (λ (vs : List Val). IsMissing (asked (functions (bodies number defs)) (functions_by number defs exprs) vs (expr_of number inner.value)) points) longer missing))) untold

  -- one term of a list
  item_asked : (values : List Val) (items : List (Term T N)) (i : ℕ) (term : Term T N) → i < length items → term ≡ get_or items i term → IsMissing (asks_under number defs exprs values (expr_of number term)) points
      → IsMissing (all_asks_under number defs exprs values (exprs_of number items)) points
  unfolding all_asked
  item_asked values [] i term within is missing = absurd (omega (arith, within))
  item_asked values (t ∷ items) zero term within is missing = first_missing _ _ points (subst (λ u. IsMissing (asks_under number defs exprs values (expr_of number u)) points) is missing)
  item_asked values (t ∷ items) (suc i) term within is missing = second_missing _ _ points (item_asked values items i term (omega (arith, within)) is missing)

  pub item-untold : (values : List Val) (items : List (Term T N)) (i : ℕ) (term : Term T N) → i < length items → term ≡ get_or items i term
      → IsUntold number defs exprs points values (expr_of number term) → AllUntold number defs exprs points values (exprs_of number items)
  item-untold values items i term within is untold = from_part _ _ _ _ points
      (step.all-unfit _ _ number values items i term within is)
      (item_asked values items i term within is) untold
