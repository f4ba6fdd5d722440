-- A problem's terms with their bindings written out, at values of its variables.
use Rattle.std.specs.Prelude.{ℕ, ◌+◌, true, List, [], ◌∷◌, ◌++◌, ◌≡◌, refl, length, slice_get, Some}
use Rattle.std.proofs.Common.{ap, sym, ◌∙◌, subst, arith}
use Rattle.std.proofs.lemmas.List.{length-map}
use Rattle.sy_terms.specs.Values.{Val}
use Rattle.sy_terms.specs.Expr.{Expr}
use Rattle.sy_terms.specs.Theories.{sort_of_value}
use Rattle.sy_terms.specs.Meaning.{Function, value_at_position, meaning, meanings, computable, all_computable}
use Rattle.sy_terms.specs.Fitting.{Scope, sort_in, sorts_in, with_sort}
use Rattle.sy_terms.specs.declared.sort.Sort.{Sort}
use Rattle.sy_grammar_base.specs.Questions.{Question}
use Rattle.sy_grammar_base.specs.Solving.{AreValues}
use Rattle.sy_loop_spec.specs.Applications.{applications, all_applications}
use Rattle.sy_loop_spec.specs.WrittenOut.{variables_from, written_out}
use Rattle.sy_loop_spec.proofs.WrittenOut.{written_means, written_computes, written_fits}

-- as many values as sorts
pub many_values : (sorts : List Sort) (values : List Val) → AreValues sorts values → length values ≡ length sorts
many_values sorts values are = sym (length-map values sort_of_value) ∙ ap length are.sorted

-- one item more in front, or at the back of what came before
shifted : {A : Type 0} (before : List A) (item : A) (items : List A) → before ++ item ∷ items ≡ (before ++ item ∷ []) ++ items
shifted [] item items = refl
shifted (first ∷ before) item items = ap (λ rest. first ∷ rest) (shifted before item items)

one_longer : {A : Type 0} (before : List A) (item : A) → length (before ++ item ∷ []) ≡ length before + 1
one_longer [] item = refl
one_longer (first ∷ before) item = omega (arith, one_longer before item)

value_after : (before : List Val) (value : Val) (values : List Val) → value_at_position (before ++ value ∷ values) (length before) ≡ value
value_after [] value values = refl
value_after (first ∷ before) value values = value_after before value values

sort_after : (before : List Sort) (sort : Sort) (sorts : List Sort) → slice_get (before ++ sort ∷ sorts) (length before) ≡ Some sort
sort_after [] sort sorts = refl
sort_after (first ∷ before) sort sorts = sort_after before sort sorts

-- the variables from a position on mean the values from there on
variables_mean : (defined wanted : List Function) (before values : List Val) (sorts : List Sort) → length values ≡ length sorts →
    meanings defined wanted (before ++ values) (variables_from (length before) sorts) ≡ values
unfolding meaning meanings
variables_mean defined wanted before [] [] many = refl
variables_mean defined wanted before [] (sort ∷ sorts) many = absurd (omega (arith, many))
variables_mean defined wanted before (value ∷ values) [] many = absurd (omega (arith, many))
variables_mean defined wanted before (value ∷ values) (sort ∷ sorts) many =
    let rest = variables_mean defined wanted (before ++ value ∷ []) values sorts (omega (arith, many)) in
    let here = subst (λ vs. meanings defined wanted vs (variables_from (length (before ++ value ∷ [])) sorts) ≡ values) (sym (shifted before value values)) rest in
    let there = subst (λ n. meanings defined wanted (before ++ value ∷ values) (variables_from n sorts) ≡ values) (one_longer before value) here in
    λ i. value_after before value values i ∷ there i

variables_compute : (defined wanted : List Function) (values : List Val) (first : ℕ) (sorts : List Sort) → all_computable defined wanted values (variables_from first sorts) ≡ true
unfolding computable all_computable
variables_compute defined wanted values first [] = refl
variables_compute defined wanted values first (sort ∷ sorts) = variables_compute defined wanted values (first + 1) sorts

variables_fit : (scope : Scope) (before sorts : List Sort) → sorts_in scope (before ++ sorts) (variables_from (length before) sorts) ≡ Some sorts
unfolding sort_in sorts_in
variables_fit scope before [] = refl
variables_fit scope before (sort ∷ sorts) =
    let rest = variables_fit scope (before ++ sort ∷ []) sorts in
    let here = subst (λ ss. sorts_in scope ss (variables_from (length (before ++ sort ∷ [])) sorts) ≡ Some sorts) (sym (shifted before sort sorts)) rest in
    let there = subst (λ n. sorts_in scope (before ++ sort ∷ sorts) (variables_from n sorts) ≡ Some sorts) (one_longer before sort) here in
    λ i. with_sort (sort_after before sort sorts i) (there i)

-- variables apply nothing
pub variables_apply_nothing : (first : ℕ) (sorts : List Sort) → all_applications (variables_from first sorts) ≡ []
unfolding applications all_applications
variables_apply_nothing first [] = refl
variables_apply_nothing first (sort ∷ sorts) = variables_apply_nothing (first + 1) sorts

module _ (question : Question) (defined wanted : List Function) (values : List Val) (many : length values ≡ length question.variables) where
  -- what the variables mean
  pub variables_are : meanings defined wanted values (variables_from 0 question.variables) ≡ values
  variables_are = variables_mean defined wanted [] values question.variables many

  -- a problem's term written out means what the term means
  pub written_out_means : (term : Expr) → meaning defined wanted values (written_out question term) ≡ meaning defined wanted values term
  written_out_means term = written_means defined wanted values (variables_from 0 question.variables) term ∙ ap (λ vs. meaning defined wanted vs term) variables_are

  -- it is computable where the term is
  pub written_out_computes : (term : Expr) → computable defined wanted values term ≡ true → computable defined wanted values (written_out question term) ≡ true
  written_out_computes term can =
      written_computes defined wanted values (variables_from 0 question.variables) term (variables_compute defined wanted values 0 question.variables)
      (ap (λ vs. computable defined wanted vs term) variables_are ∙ can)

-- it has the term's sort
pub written_out_fits : (question : Question) (scope : Scope) (term : Expr) (sort : Sort) → sort_in scope question.variables term ≡ Some sort → sort_in scope question.variables (written_out question term) ≡ Some sort
written_out_fits question scope term sort fit =
    written_fits scope question.variables (variables_from 0 question.variables) question.variables term sort (variables_fit scope [] question.variables) fit
