-- The values of terms that apply no function to be found.
use Rattle.std.specs.Prelude.{ℕ, List, [], ◌≡◌, true, false, All, slice_get, Option, Some, None}
use Rattle.sy_terms.specs.Values.{Val}
use Rattle.sy_terms.specs.Expr.{Expr, Exprs}
use Rattle.sy_terms.specs.Denoted.{val_of, vals_of}
use Rattle.sy_terms.specs.Fitting.{Scope}
use Rattle.sy_terms.specs.Meaning.{Function, computable, all_computable}
use Rattle.sy_terms.specs.Theories.{valid}
use Rattle.sy_terms.specs.declared.sort.Value.{Value}
use Rattle.sy_terms_operators.specs.Evaluation.{TermFits, TermsFit, HasValue, HaveValues}
use Rattle.sy_loop_pointwise.specs.Shapes.{term_of}

-- the term's value; none where it doesn't fit or isn't computable
abbrev pub IsValued : {N : Type 0} → (N → Val) → Scope → List Function → List Val → Expr → Option (Value N) → Type 0
IsValued number scope defined values term None = TermFits scope values term → computable defined [] values term ≡ false
IsValued number scope defined values term (Some value) = HasValue scope defined [] values term (val_of number value)

-- the terms' values; none where one of them has none
abbrev pub AreValued : {N : Type 0} → (N → Val) → Scope → List Function → List Val → Exprs → Option (List (Value N)) → Type 0
AreValued number scope defined values terms None = TermsFit scope values terms → all_computable defined [] values terms ≡ false
AreValued number scope defined values terms (Some all) = HaveValues scope defined [] values terms (vals_of number all)

-- the value of the term of each of the first numbers
abbrev pub EachIsValued : {N : Type 0} → (N → Val) → Scope → List Function → List Val → List Expr → List (Option (Value N)) → Type 0
EachIsValued {N} number scope defined values terms found =
    (place : ℕ) (value : Option (Value N)) → slice_get found place ≡ Some value → IsValued number scope defined values (term_of terms place) value

-- the terms have these values everywhere
abbrev pub AreConstants : Exprs → List Val → Type 0
AreConstants terms values = All (λ value. valid value ≡ true) values → (scope : Scope) (defined wanted : List Function) (at : List Val) → HaveValues scope defined wanted at terms values
