-- In a pointwise problem, whether a body is good at a tuple rests on its value there alone.
use Rattle.std.specs.Prelude.{ℕ, List, [], ◌∷◌, ◌≡◌, refl, map, Contains, All, ◌⊎◌}
use Rattle.std.proofs.Common.{sym, ◌∙◌, subst, inl, inr, arith}
use Rattle.std.proofs.lemmas.List.Elements.{All-contains}
use Rattle.sy_terms.specs.Values.{Val}
use Rattle.sy_terms.specs.Expr.{Expr, Exprs}
use Rattle.sy_terms.specs.Meaning.{function_from, functions, meaning, meanings}
use Rattle.sy_grammar_base.specs.Questions.{Question}
use Rattle.sy_grammar_base.specs.Solving.{AreValues}
use Rattle.sy_loop_spec.specs.Applications.{applications}
use Rattle.sy_loop_spec.specs.WrittenOut.{written_out}
use Rattle.sy_loop_spec.specs.Pointwise.{IsPosed, IsPointwise}
use Rattle.sy_loop_spec.specs.Resting.{RestsOn, IsGoodAt, IsBadAt}
use Rattle.sy_loop_spec.specs.Conditional.{Conditional, yield, leaf_reached}
use Rattle.sy_loop_spec.proofs.Variables.{many_values}
use Rattle.sy_loop_spec.proofs.Resting.{rest_decides}
use Rattle.sy_loop_spec.proofs.Conditional.{tree_reaches}

-- the arguments of the applications within a constraint of a pointwise problem
pub posed_in : (question : Question) (constraint : Expr) → IsPointwise question → Contains question.constraints constraint → (arguments : Exprs) × IsPosed (written_out question constraint) arguments
posed_in question constraint pointwise of = All-contains (λ term. (arguments : Exprs) × IsPosed (written_out question term) arguments) question.constraints constraint pointwise.posed of

-- at values of the variables, a constraint has no application or rests on a tuple
pub rests_or_not : (question : Question) (values : List Val) (constraint : Expr) → (applications (written_out question constraint) ≡ []) ⊎ ((tuple : List Val) × RestsOn question values constraint tuple)
rests_or_not question values constraint = first_of (applications (written_out question constraint)) refl
  where
    first_of : (all : List (ℕ × Exprs)) → applications (written_out question constraint) ≡ all → (applications (written_out question constraint) ≡ []) ⊎ ((tuple : List Val) × RestsOn question values constraint tuple)
    first_of [] is = inl is
    first_of (application ∷ others) is =
        let here : Contains (application ∷ others) application = (0, omega arith, refl) in
        inr (meanings (functions question.definitions) [] values application.1, record { application = application; of = subst (λ all. Contains all application) (sym is) here; at = refl })

module _ (question : Question) (assignments : List (List Val)) (pointwise : IsPointwise question) (are : All (AreValues question.variables) assignments) (tuple : List Val) where
  -- the constraint, which rests on the tuple, means the same under bodies of the same value there
  same_there : (body other : Expr) → meaning (functions question.definitions) [] tuple body ≡ meaning (functions question.definitions) [] tuple other →
      (values : List Val) (constraint : Expr) → Contains assignments values → Contains question.constraints constraint → RestsOn question values constraint tuple →
      meaning (functions question.definitions) (map (function_from (functions question.definitions)) (body ∷ [])) values constraint ≡
      meaning (functions question.definitions) (map (function_from (functions question.definitions)) (other ∷ [])) values constraint
  same_there body other same values constraint stored of rests =
      let posed = posed_in question constraint pointwise of in
      let many = many_values question.variables values (All-contains (AreValues question.variables) assignments values are stored) in
      rest_decides question values many constraint posed.0 posed.1 tuple body other rests same

  -- so one is good there where the other is, and bad where the other is
  pub good_alike : (body other : Expr) → meaning (functions question.definitions) [] tuple body ≡ meaning (functions question.definitions) [] tuple other → IsGoodAt question assignments tuple body → IsGoodAt question assignments tuple other
  good_alike body other same good = record { each = λ values constraint stored of rests. sym (same_there body other same values constraint stored of rests) ∙ good.each values constraint stored of rests }

  pub bad_alike : (body other : Expr) → meaning (functions question.definitions) [] tuple body ≡ meaning (functions question.definitions) [] tuple other → IsBadAt question assignments tuple body → IsBadAt question assignments tuple other
  bad_alike body other same bad = record {
    values = bad.values;
    stored = bad.stored;
    constraint = bad.constraint;
    of = bad.of;
    rests = bad.rests;
    untrue = λ holds. bad.untrue (same_there body other same bad.values bad.constraint bad.stored bad.of bad.rests ∙ holds);
  }

  -- a conditional tree is good there where the leaf that it reaches is
  pub tree_is_good : (parts : Conditional) → IsGoodAt question assignments tuple (leaf_reached (functions question.definitions) tuple parts) → IsGoodAt question assignments tuple (yield parts)
  tree_is_good parts good = good_alike (leaf_reached (functions question.definitions) tuple parts) (yield parts) (sym (tree_reaches (functions question.definitions) tuple parts)) good

  pub tree_is_bad : (parts : Conditional) → IsBadAt question assignments tuple (leaf_reached (functions question.definitions) tuple parts) → IsBadAt question assignments tuple (yield parts)
  tree_is_bad parts bad = bad_alike (leaf_reached (functions question.definitions) tuple parts) (yield parts) (sym (tree_reaches (functions question.definitions) tuple parts)) bad

-- what is good there isn't bad there
pub good_not_bad : (question : Question) (assignments : List (List Val)) (tuple : List Val) (body : Expr) → IsGoodAt question assignments tuple body → IsBadAt question assignments tuple body → ⊥
good_not_bad question assignments tuple body good bad = bad.untrue (good.each bad.values bad.constraint bad.stored bad.of bad.rests)
