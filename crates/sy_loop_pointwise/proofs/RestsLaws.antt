-- Where constraints of a pointwise problem rest, by the values of the arguments.
use Rattle.std.specs.Prelude.{ℕ, Bool, false, List, [], ◌∷◌, ◌++◌, ◌≡◌, refl, length, map, slice_get, Option, Some, None, Contains}
use Rattle.std.proofs.Common.{ap, sym, ◌∙◌, subst}
use Rattle.std.proofs.lemmas.List.{length-map}
use Rattle.std.proofs.lemmas.List.Elements.{All-contains}
use Rattle.sy_terms.specs.Values.{Val}
use Rattle.sy_terms.specs.Expr.{Expr, Exprs, Constant, Variable, Apply, Invoke, Bind, none, more}
use Rattle.sy_terms.specs.Fitting.{Scope, Signature, after, applied_sort, called_sort, sort_in, sorts_in, with_sort}
use Rattle.sy_terms.specs.Meaning.{Function, functions, all_computable}
use Rattle.sy_terms.specs.Theories.{sort_of_value}
use Rattle.sy_terms.specs.declared.op.Op.{Op}
use Rattle.sy_terms.specs.declared.sort.Sort.{Sort}
use Rattle.sy_terms.specs.declared.sort.Sort.TheVariants as sorts
use Rattle.sy_terms.specs.declared.sort.Value.{Value}
use Rattle.sy_terms.specs.declared.term.Fun.{Fun}
use Rattle.sy_terms.specs.declared.term.Fun.TheVariants.{Defined, Wanted}
use Rattle.sy_terms_operators.specs.Evaluation.{TermsFit, HaveValues}
use Rattle.sy_grammar_base.specs.Fits.{QuestionFits, wanted_of, with_functions}
use Rattle.sy_grammar_base.specs.Questions.{Goal, Question}
use Rattle.sy_grammar_base.specs.Solving.{AreValues}
use Rattle.sy_loop_spec.specs.Applications.{applications, all_applications}
use Rattle.sy_loop_spec.specs.Pointwise.{IsPosed, IsPointwise}
use Rattle.sy_loop_spec.specs.WrittenOut.{written_out}
use Rattle.sy_loop_spec.proofs.Plain.{FitsAsCall}
use Rattle.sy_loop_spec.proofs.Resting.{application_fits, arguments_leave, is_of_the_one}
use Rattle.sy_loop_spec.proofs.Variables.{many_values}
use Rattle.sy_loop_pointwise.specs.Shapes.{Shape, AreBelow, subterms, term_of, terms_of}
use Rattle.sy_loop_pointwise.specs.Asked.{AreArguments, IsTheCall}
use Rattle.sy_loop_pointwise.specs.Rests.{RestsAt, TermLeavesAt}
use Rattle.sy_loop_pointwise.specs.Valued.{AreValued, EachIsValued}

both_nothing : {A : Type 0} (first second : List A) → first ++ second ≡ [] → (first ≡ []) × (second ≡ [])
both_nothing [] second is = (refl, is)
both_nothing (item ∷ first) second is = cc

not_pushed : {A : Type 0} (items : List A) (item : A) → items ++ item ∷ [] ≡ [] → ⊥
not_pushed [] item is = cc
not_pushed (first ∷ items) item is = cc

module _ (owned : Op → Bool) (defined wanted others : List Signature) where
  owned_alone : (operator : Op) (found : Option (List Sort)) → applied_sort (with_functions owned defined wanted) operator found ≡ applied_sort (with_functions owned defined others) operator found
  owned_alone operator None = refl
  owned_alone operator (Some found) = refl

  mutual
    unfolding sort_in sorts_in applications all_applications

    -- a term without applications of functions to be found has its sort whatever their signatures are
    plain_sort : (ss : List Sort) (term : Expr) → applications term ≡ [] → sort_in (with_functions owned defined wanted) ss term ≡ sort_in (with_functions owned defined others) ss term
    plain_sort ss (Constant value) nothing = refl
    plain_sort ss (Variable position) nothing = refl
    plain_sort ss (Apply operator arguments) nothing =
        owned_alone operator (sorts_in (with_functions owned defined wanted) ss arguments) ∙ ap (applied_sort (with_functions owned defined others) operator) (plain_sorts ss arguments nothing)
    plain_sort ss (Invoke (Defined f) arguments) nothing = ap (called_sort (slice_get defined f)) (plain_sorts ss arguments nothing)
    plain_sort ss (Invoke (Wanted f) arguments) nothing = absurd (not_pushed (all_applications arguments) (f, arguments) nothing)
    plain_sort ss (Bind bound inner) nothing =
        let both = both_nothing (all_applications bound) (applications inner) nothing in
        λ i. after (plain_sorts ss bound both.0 i) (λ found. plain_sort (ss ++ found) inner both.1 i)

    plain_sorts : (ss : List Sort) (terms : Exprs) → all_applications terms ≡ [] → sorts_in (with_functions owned defined wanted) ss terms ≡ sorts_in (with_functions owned defined others) ss terms
    plain_sorts ss none nothing = refl
    plain_sorts ss (more first rest) nothing =
        let both = both_nothing (applications first) (all_applications rest) nothing in
        λ i. with_sort (plain_sort ss first both.0 i) (plain_sorts ss rest both.1 i)

-- a constraint of a pointwise problem that fits, and the application whose arguments are those of all
module _ (owned : Op → Bool) (numeric : Sort → Bool) (question : Question) (fit : QuestionFits owned numeric question) (pointwise : IsPointwise question)
    (values : List Val) (are : AreValues question.variables values) (constraint : Expr) (of : Contains question.constraints constraint)
    (terms : List Expr) (number : ℕ) (call : IsTheCall terms (applications (written_out question constraint)) number) where
  abbrev scope : Scope
  scope = with_functions owned question.signatures (wanted_of question)

  fits_as_call : FitsAsCall scope question.variables call.application
  fits_as_call =
      let fits = All-contains (λ term. sort_in scope question.variables term ≡ Some sorts.Bool) question.constraints constraint fit.constraints of in
      application_fits question scope constraint sorts.Bool fits call.application call.of

  first_function : call.application.0 ≡ 0
  first_function = is_of_the_one scope question.variables call.application (length-map question.goals (λ (g : Goal). g.signature) ∙ pointwise.one) fits_as_call

  -- the arguments have the sorts that it takes where no function is to be found
  takes : sorts_in (with_functions owned question.signatures []) (map sort_of_value values) call.application.1 ≡ Some fits_as_call.function.takes
  takes =
      ap (λ ss. sorts_in (with_functions owned question.signatures []) ss call.application.1) are.sorted ∙
      plain_sorts owned question.signatures [] (wanted_of question) question.variables call.application.1 call.at_once.plain ∙
      fits_as_call.takes

  -- it rests on the values of the arguments
  pub rests_at : (tuple : List Val) → HaveValues (with_functions owned question.signatures []) (functions question.definitions) [] values call.application.1 tuple → RestsAt question values constraint tuple
  rests_at tuple have = record {
    rests = record { application = call.application; of = call.of; at = sym have.meanings };
    first = first_function;
    call = record {
      signature = fits_as_call.function;
      at = subst (λ f. slice_get (wanted_of question) f ≡ Some fits_as_call.function) first_function fits_as_call.is;
      sorted = let same : Some (map sort_of_value tuple) ≡ Some fits_as_call.function.takes = sym have.sorts ∙ takes in cc;
      valid = have.valid;
    };
  }

  -- where these aren't computable, neither is the constraint
  pub leaves_at : (TermsFit (with_functions owned question.signatures []) values call.application.1 → all_computable (functions question.definitions) [] values call.application.1 ≡ false) → TermLeavesAt question values constraint
  leaves_at unvalued wanted =
      let posed : IsPosed (written_out question constraint) call.application.1 = record { same = call.at_once.same; plain = call.at_once.plain } in
      arguments_leave question values (many_values question.variables values are) constraint call.application.1 posed wanted call.application call.of (unvalued (record { sorts = fits_as_call.function.takes; is = takes }))

-- the arguments of a call have the values of the subterms of their numbers
pub valued_arguments : {N : Type 0} (number : N → Val) (scope : Scope) (defined : List Function) (values : List Val) (shapes : List Shape) (call : ℕ) (numbers slice : List ℕ) (found entries : List (Option (Value N))) (function : Fun) (arguments : Exprs) (all : Option (List (Value N))) →
    AreArguments shapes call numbers → term_of (subterms shapes) call ≡ Invoke function arguments → slice ≡ numbers → entries ≡ found → length found ≡ call → EachIsValued number scope defined values (subterms shapes) found →
    ((terms : List Expr) → EachIsValued number scope defined values terms entries → AreBelow (length entries) slice → AreValued number scope defined values (terms_of terms slice) all) → AreValued number scope defined values arguments all
valued_arguments {N} number scope defined values shapes call numbers slice found entries function arguments all told is same entries_are many each values_are =
    let below = subst (λ ns. AreBelow (length entries) ns) (sym same) (subst (λ n. AreBelow n numbers) (sym (ap length entries_are ∙ many)) told.below) in
    let before = subst (EachIsValued number scope defined values (subterms shapes)) (sym entries_are) each in
    subst (λ (es : Exprs). AreValued number scope defined values es all) (ap (terms_of (subterms shapes)) same ∙ told.are function arguments is) (values_are (subterms shapes) before below)
