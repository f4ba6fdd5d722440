-- Values that rows tell, by the form of the term.
use Rattle.std.specs.Prelude.{ℕ, ◌+◌, ◌<◌, ◌≤◌, Bool, true, List, [], ◌∷◌, ◌++◌, ◌≡◌, refl, slice_get, Some, take, length}
use Rattle.std.specs.Option.{option_map}
use Rattle.std.proofs.Common.{arith, ap, ◌∙◌, sym, get_or, subst, zero, suc}
use Rattle.std.proofs.lemmas.Option.{none-some, same_Some, slice_get-get_or}
use Rattle.std.proofs.lemmas.List.{take_more, take_all, append-nil}
use denote.Ref.{Bor}
use Rattle.std.specs.declared.boxed.Box.{Box}
use Rattle.std.specs.declared.alloc.Global.{Global}
use Rattle.sy_terms.specs.Values.{Val}
use Rattle.sy_terms.specs.Operators.{op_value}
use Rattle.sy_terms.specs.Expr.{Expr}
use Rattle.sy_terms.specs.Denoted.{val_of, vals_of, expr_of, exprs_of, AreValid, IsSorted}
use Rattle.sy_terms.specs.Theories.{fits, valid}
use Rattle.sy_terms.specs.Definitions.{DefinitionsFit, scope_of, bodies, body}
use Rattle.sy_terms.specs.Meaning.{functions, asked, all_asked, value_at_position}
use Rattle.sy_terms.specs.Fitting.{Signature}
use Rattle.sy_terms.specs.declared.op.Op.{Op}
use Rattle.sy_terms.specs.declared.sort.Value.{Value}
use Rattle.sy_terms.specs.declared.term.Def.{Def}
use Rattle.sy_terms.specs.declared.term.Fun.{Fun}
use Rattle.sy_terms.specs.declared.term.Fun.TheVariants.{Defined, Wanted}
use Rattle.sy_terms.specs.declared.term.Term.{Term, Const, Var, App, Call, Let}
use Rattle.sy_terms.specs.declared.term.Terms.{Terms}
use Rattle.sy_terms_operators.specs.Evaluation.{TermsFit, HasValue, HaveValues, scope_with}
use Rattle.sy_terms_operators.proofs.Steps as step
use Rattle.sy_terms_operators.proofs.Reached as reached
use Rattle.sy_terms_operators.proofs.Asks as by_form
use Rattle.sy_terms_operators.proofs.Lists.{HaveValues-none}
use Rattle.sy_points.specs.Asked.{Asked, of_function}
use Rattle.sy_bank_level.specs.Columns.{HasRow}
use Rattle.sy_bank_level.specs.Stored.{entry_of}
use Rattle.sy_loop_spec.specs.Adding.{IsAsked, AreAsked}
use Rattle.sy_loop_truth.proofs.Items.{has_place}
use Rattle.sy_bank_level.specs.declared.kept.Kept.{Kept}
use Rattle.sy_loop_candidate.specs.Bodies.{bodies_of, AreBodies, functions_by, FitsUnder, asks_under, all_asks_under}
use Rattle.sy_loop_candidate.specs.Observing.{HasValueAt, IsTold, AllAreTold}
use Rattle.sy_loop_candidate.proofs.Calls.{no_calls, both_asked, one_asked}
use Rattle.sy_loop_candidate.proofs.Reaching.{calls-body, body-within, defined-ok, wanted-ok}

-- what stands at a place
at_position : (row : List Val) (place : ℕ) (value : Val) → slice_get row place ≡ Some value → value_at_position row place ≡ value
at_position [] place value e = absurd (none-some value e)
at_position (v ∷ row) zero value e = same_Some v value e
at_position (v ∷ row) (suc place) value e = at_position row place value e

-- the kept term of a place, and the body that it is
pub bodies-length : {T N : Type 0} (number : N → Val) (chosen : List (Bor (Kept T N))) → length (bodies_of number chosen) ≡ length chosen
bodies-length number [] = refl
bodies-length number (kept ∷ chosen) = ap suc (bodies-length number chosen)

pub chosen-at : {T N : Type 0} (number : N → Val) (chosen : List (Bor (Kept T N))) (n : ℕ) (kept : Bor (Kept T N)) → n < length (bodies_of number chosen) → kept ≡ get_or chosen n kept → slice_get chosen n ≡ Some kept
chosen-at number chosen n kept within is = slice_get-get_or chosen n kept (omega (arith, within, bodies-length number chosen)) ∙ ap Some (sym is)

pub term-at : {T N : Type 0} (number : N → Val) (chosen : List (Bor (Kept T N))) (n : ℕ) (kept : Bor (Kept T N)) → slice_get chosen n ≡ Some kept → slice_get (bodies_of number chosen) n ≡ Some (entry_of number kept.now).term
term-at number [] n kept at = absurd (none-some kept at)
term-at {T} {N} number (first ∷ chosen) zero kept at = ap (option_map (λ (k : Bor (Kept T N)). (entry_of number k.now).term)) at
term-at number (first ∷ chosen) (suc n) kept at = term-at number chosen n kept at

module _ {T N : Type 0} (owned : Op → Bool) (number : N → Val) (defs : List (Def T N)) (exprs : List Expr) (points : Asked) where
  pub const-told : (values : List Val) (term : Term T N) (value : Value N) → term ≡ Const value → IsTold owned number defs exprs points values (expr_of number term) (val_of number value)
  const-told values term value is = record {
    gives = λ wanted fit fits. step.const-ok _ _ _ number values term value is fits;
    there = no_calls _ points (by_form.const-asks number _ _ values [] term value is);
  }

  pub var-told : (values : List (Value N)) (term : Term T N) (position : ℕ) (value : Value N) → term ≡ Var position → AreValid number values → value ≡ get_or values position value
      → IsTold owned number defs exprs points (vals_of number values) (expr_of number term) (val_of number value)
  var-told values term position value is each found = record {
    gives = λ wanted fit fits. step.var-ok _ _ _ number values term position value is fits each found;
    there = no_calls _ points (by_form.var-asks number _ _ (vals_of number values) [] term position is);
  }

  pub app-told : (values : List Val) (term : Term T N) (operator : Op) (arguments : Terms T N) (found : List Val) (value : Val) → term ≡ App operator arguments
      → AllAreTold owned number defs exprs points values (exprs_of number arguments.items.items) found → (valid value ≡ true) × (fits operator found ≡ true) × (value ≡ op_value operator found)
      → IsTold owned number defs exprs points values (expr_of number term) value
  app-told values term operator arguments found value is all applied = record {
    gives = λ wanted fit fits_now. step.app-ok _ _ _ number values term operator arguments found value is fits_now (all.give wanted fit (step.app-arguments _ [] [] number values term operator arguments is fits_now)) applied;
    there = subst (λ calls. AreAsked calls points) (sym (by_form.app-asks number _ _ values [] term operator arguments is)) all.there;
  }

  -- what an application asks of the theory
  pub app-sorted : (values : List Val) (term : Term T N) (operator : Op) (arguments : Terms T N) (found : List Val) → term ≡ App operator arguments → FitsUnder owned defs exprs values (expr_of number term)
      → AllAreTold owned number defs exprs points values (exprs_of number arguments.items.items) found → IsSorted operator found
  app-sorted values term operator arguments found is with_bodies all =
      step.app-sorted (scope_with owned defs with_bodies.wanted) _ _ number values term operator arguments found is with_bodies.fits
      (all.give with_bodies.wanted with_bodies.bodies (step.app-arguments _ [] [] number values term operator arguments is with_bodies.fits))

  -- the arguments of a call
  pub arguments-have : (values : List Val) (term : Term T N) (function : Fun) (arguments : Terms T N) (found : List Val) → term ≡ Call function arguments → (with_bodies : FitsUnder owned defs exprs values (expr_of number term))
      → AllAreTold owned number defs exprs points values (exprs_of number arguments.items.items) found
      → HaveValues (scope_with owned defs with_bodies.wanted) (functions (bodies number defs)) (functions_by number defs exprs) values (exprs_of number arguments.items.items) found
  arguments-have values term function arguments found is with_bodies all = all.give with_bodies.wanted with_bodies.bodies (step.call-arguments _ [] [] number values term function arguments is with_bodies.fits)

  -- the definition that is called
  pub calls : (values : List Val) (term : Term T N) (function : Fun) (arguments : Terms T N) (found : List Val) (n : ℕ) → term ≡ Call function arguments → function ≡ Defined n → DefinitionsFit owned number defs
      → (with_bodies : FitsUnder owned defs exprs values (expr_of number term)) → AllAreTold owned number defs exprs points values (exprs_of number arguments.items.items) found → reached.Calls owned number defs n found with_bodies.fits.sort
  calls values term function arguments found n is defined definitions with_bodies all =
      reached.calls owned number defs with_bodies.wanted n found with_bodies.fits.sort definitions
      (step.call-takes _ _ _ number values term function arguments found (Defined n) is defined with_bodies.fits (arguments-have values term function arguments found is with_bodies all))

  pub calls-within : (values : List Val) (term : Term T N) (function : Fun) (arguments : Terms T N) (found : List Val) (n : ℕ) → term ≡ Call function arguments → function ≡ Defined n → DefinitionsFit owned number defs
      → FitsUnder owned defs exprs values (expr_of number term) → AllAreTold owned number defs exprs points values (exprs_of number arguments.items.items) found → n < length defs
  calls-within values term function arguments found n is defined definitions with_bodies all =
      reached.calls-within number (calls values term function arguments found n is defined definitions with_bodies all)

  -- the kept term that is called
  pub wanted-within : (values : List Val) (term : Term T N) (function : Fun) (arguments : Terms T N) (found : List Val) (n : ℕ) → term ≡ Call function arguments → function ≡ Wanted n
      → FitsUnder owned defs exprs values (expr_of number term) → AllAreTold owned number defs exprs points values (exprs_of number arguments.items.items) found → n < length exprs
  wanted-within values term function arguments found n is is_wanted with_bodies all =
      body-within (calls-body owned defs exprs with_bodies.wanted n found with_bodies.fits.sort with_bodies.bodies
      (step.call-takes _ _ _ number values term function arguments found (Wanted n) is is_wanted with_bodies.fits (arguments-have values term function arguments found is with_bodies all)))

  -- the body of a definition
  pub defined-told : (values : List Val) (term : Term T N) (function : Fun) (arguments : Terms T N) (found : List Val) (n : ℕ) (d : Def T N) (value : Val) → term ≡ Call function arguments → function ≡ Defined n → DefinitionsFit owned number defs
      → AllAreTold owned number defs exprs points values (exprs_of number arguments.items.items) found → IsTold owned number (take n defs) [] points found (body number (get_or defs n d)) value
      → IsTold owned number defs exprs points values (expr_of number term) value
  defined-told values term function arguments found n d value is defined definitions all told = record {
    gives = λ wanted fit fits_now. defined-ok owned number defs wanted values term function arguments found n is fits_now (functions_by number defs exprs) d value defined definitions
        (all.give wanted fit (step.call-arguments _ [] [] number values term function arguments is fits_now)) told.gives;
    there = subst (λ calls. AreAsked calls points) (sym (by_form.defined-asks number _ _ values [] term function arguments n is defined)) all.there;
  }

  -- the row of a kept term
  pub wanted-told : (values : List Val) (term : Term T N) (function : Fun) (arguments : Terms T N) (found : List Val) (n : ℕ) (t : Expr) (row : List Val) (value : Val) → term ≡ Call function arguments → function ≡ Wanted n
      → FitsUnder owned defs exprs values (expr_of number term) → AllAreTold owned number defs exprs points values (exprs_of number arguments.items.items) found
      → slice_get exprs n ≡ Some t → HasRow (scope_of owned defs) (functions (bodies number defs)) (of_function points n) t row → HasValueAt (of_function points n) row found value
      → IsTold owned number defs exprs points values (expr_of number term) value
  wanted-told values term function arguments found n t row value is is_wanted with_bodies all at has found_at =
      let its_value = subst (λ (v : Val). HasValue (scope_of owned defs) (functions (bodies number defs)) [] found t v) (at_position row found_at.place value found_at.value_is) (has.each found_at.place found found_at.tuple_is) in
      let have_now = all.give with_bodies.wanted with_bodies.bodies (step.call-arguments _ [] [] number values term function arguments is with_bodies.fits) in
      let stands : IsAsked points n found = has_place (of_function points n) found_at.place found found_at.tuple_is in
      record {
        gives = λ wanted fit fits_now. wanted-ok owned number defs wanted values term function arguments found n is fits_now exprs t value is_wanted at fit
            (all.give wanted fit (step.call-arguments _ [] [] number values term function arguments is fits_now)) its_value;
        there = subst (λ calls. AreAsked calls points) (sym (by_form.wanted-asks number _ _ values [] term function arguments n is is_wanted))
            (both_asked _ _ points all.there (one_asked points n _ (subst (λ (tuple : List Val). IsAsked points n tuple) have_now.meanings stands)));
      }

  -- the inner term of a binding
  pub let-told : (values found : List (Value N)) (term : Term T N) (bound : Terms T N) (inner : Box (Term T N) Global) (value : Val) → term ≡ Let bound inner
      → FitsUnder owned defs exprs (vals_of number values) (expr_of number term)
      → AllAreTold owned number defs exprs points (vals_of number values) (exprs_of number bound.items.items) (vals_of number found)
      → IsTold owned number defs exprs points (vals_of number (values ++ found)) (expr_of number inner.value) value
      → IsTold owned number defs exprs points (vals_of number values) (expr_of number term) value
  let-told values found term bound inner value is with_bodies all told =
      let have_now = all.give with_bodies.wanted with_bodies.bodies (step.let-bound _ [] [] number _ term bound inner is with_bodies.fits) in
      let longer = step.map-both number values found ∙ ap (λ (vs : List Val). vals_of number values ++ vs) have_now.meanings in
      record {
        gives = λ wanted fit fits_now.
            let have = all.give wanted fit (step.let-bound _ [] [] number _ term bound inner is fits_now) in
            step.let-ok _ _ _ number values found term bound inner value is have (told.gives wanted fit (step.let-inner _ _ _ number values found term bound inner is fits_now have));
        there = subst (λ calls. AreAsked calls points) (sym (by_form.let-asks number _ _ (vals_of number values) [] term bound inner is))
            (both_asked _ _ points all.there (subst (λ (vs : List Val). AreAsked (asked (functions (bodies number defs)) (functions_by number defs exprs) vs (expr_of number inner.value)) points) longer told.there));
      }

  -- the first terms of a list that fits
  pub record AreToldTo (values : List Val) (items : List (Term T N)) (i : ℕ) (found : List Val) : Type 0 where
    pub give : (wanted : List Signature) → AreBodies owned defs exprs wanted → TermsFit (scope_with owned defs wanted) values (exprs_of number items)
        → HaveValues (scope_with owned defs wanted) (functions (bodies number defs)) (functions_by number defs exprs) values (exprs_of number (take i items)) found
    pub there : AreAsked (all_asks_under number defs exprs values (exprs_of number (take i items))) points

  pub none-told : (values : List Val) (items : List (Term T N)) → AreToldTo values items 0 []
  unfolding all_asked
  none-told values items = record { give = λ wanted fit fits_now. HaveValues-none T number _ _ _ _; there = no_calls [] points refl }

  next_asked : (values : List Val) (items : List (Term T N)) (i : ℕ) (term : Term T N) → i < length items → term ≡ get_or items i term
      → all_asks_under number defs exprs values (exprs_of number (take (i + 1) items)) ≡ all_asks_under number defs exprs values (exprs_of number (take i items)) ++ asks_under number defs exprs values (expr_of number term)
  unfolding all_asked
  next_asked values items i term within is =
      rw (take_more items i term within, ← is, by_form.all_asked-append)
      (ap (λ calls. all_asks_under number defs exprs values (exprs_of number (take i items)) ++ calls) (append-nil (asks_under number defs exprs values (expr_of number term))))

  pub next-told : (values : List Val) (items : List (Term T N)) (i : ℕ) (term : Term T N) (found : List (Value N)) (value : Value N) → i < length items → term ≡ get_or items i term
      → AreToldTo values items i (vals_of number found) → IsTold owned number defs exprs points values (expr_of number term) (val_of number value) → AreToldTo values items (i + 1) (vals_of number (found ++ value ∷ []))
  next-told values items i term found value within is first told = record {
    give = λ wanted fit fits_now. step.all-more _ _ _ number values items i term found value within is (first.give wanted fit fits_now) (told.gives wanted fit (step.all-at _ [] [] number values items i term within is fits_now));
    there = subst (λ calls. AreAsked calls points) (sym (next_asked values items i term within is)) (both_asked _ _ points first.there told.there);
  }

  pub all-told : (values : List Val) (items : List (Term T N)) (i : ℕ) (found : List Val) → length items ≤ i → AreToldTo values items i found → AllAreTold owned number defs exprs points values (exprs_of number items) found
  all-told values items i found done first =
      let all = take_all i items done in
      record {
        give = λ wanted fit fits_now. subst (λ ts. HaveValues (scope_with owned defs wanted) (functions (bodies number defs)) (functions_by number defs exprs) values (exprs_of number ts) found) all (first.give wanted fit fits_now);
        there = subst (λ ts. AreAsked (all_asks_under number defs exprs values (exprs_of number ts)) points) all first.there;
      }
