-- Where a constraint of a pointwise problem rests decides it.
use Rattle.std.specs.Prelude.{ℕ, zero, suc, ◌+◌, ◌<◌, Bool, Some, true, false, List, [], ◌∷◌, ◌≡◌, refl, length, map, slice_get, Contains}
use Rattle.std.proofs.Common.{arith, ap, sym, ◌∙◌, subst, inl, inr}
use Rattle.std.proofs.lemmas.Bool.{true≢false}
use Rattle.std.proofs.lemmas.Option.{none-some}
use Rattle.std.proofs.lemmas.List.Elements.{All-contains}
use Rattle.sy_terms.specs.Values.{Val}
use Rattle.sy_terms.specs.Expr.{Expr, Exprs}
use Rattle.sy_terms.specs.Meaning.{Function, function_from, functions, called, meaning, meanings, computable, all_computable, asked}
use Rattle.sy_terms.specs.Fitting.{Scope, Signature, sort_in}
use Rattle.sy_terms.specs.declared.sort.Sort.{Sort}
use Rattle.sy_grammar_base.specs.Questions.{Question}
use Rattle.sy_loop_spec.specs.Applications.{applications, all_applications}
use Rattle.sy_loop_spec.specs.WrittenOut.{variables_from, written_out}
use Rattle.sy_loop_spec.specs.Pointwise.{IsPosed}
use Rattle.sy_loop_spec.specs.Resting.{RestsOn}
use Rattle.sy_loop_spec.proofs.Variables.{variables_apply_nothing, variables_are, written_out_means, written_out_computes, written_out_fits}
use Rattle.sy_loop_spec.proofs.Applied.{call_of, in_nothing, written_asks}
use Rattle.sy_loop_spec.proofs.Plain.{BindsNothing, AllBindNothing, SameAt, written_binds_nothing, all_plain_same, plain_same, all_plain_compute, applied_alike, applied_compute, FitsAsCall, applied_fit}

-- variables bind nothing
variables_bind_nothing : (first : ℕ) (sorts : List Sort) → AllBindNothing (variables_from first sorts)
variables_bind_nothing first [] = tt
variables_bind_nothing first (sort ∷ sorts) = (tt, variables_bind_nothing (first + 1) sorts)

pub written_out_binds_nothing : (question : Question) (term : Expr) → BindsNothing (written_out question term)
written_out_binds_nothing question term = written_binds_nothing (variables_from 0 question.variables) term (variables_bind_nothing 0 question.variables)

-- the functions that one body gives have the same value at the tuple where the two bodies do
same_called : (defined : List Function) (body other : Expr) (function : ℕ) (tuple : List Val) → meaning defined [] tuple body ≡ meaning defined [] tuple other →
    called (slice_get (map (function_from defined) (body ∷ [])) function) tuple ≡ called (slice_get (map (function_from defined) (other ∷ [])) function) tuple
same_called defined body other zero tuple same = same
same_called defined body other (suc function) tuple same = refl

module _ (question : Question) (wanted others : List Function) (values : List Val) (many : length values ≡ length question.variables) (constraint : Expr) where
  -- a constraint without an application, written out, means the same whatever the functions to be found are
  pub nothing_rests_decides : applications (written_out question constraint) ≡ [] → meaning (functions question.definitions) wanted values constraint ≡ meaning (functions question.definitions) others values constraint
  nothing_rests_decides nothing =
      sym (written_out_means question (functions question.definitions) wanted values many constraint) ∙
      (plain_same (functions question.definitions) wanted others values (written_out question constraint) nothing).value ∙
      written_out_means question (functions question.definitions) others values many constraint

-- a constraint all of whose applications, written out, have these arguments
module _ (question : Question) (values : List Val) (many : length values ≡ length question.variables) (constraint : Expr) (arguments : Exprs) (posed : IsPosed (written_out question constraint) arguments) where
  has_them : (application : ℕ × Exprs) → Contains (applications (written_out question constraint)) application → application.1 ≡ arguments
  has_them application of = All-contains (λ (a : ℕ × Exprs). a.1 ≡ arguments) (applications (written_out question constraint)) application posed.same of

  applies_none : (application : ℕ × Exprs) → Contains (applications (written_out question constraint)) application → all_applications application.1 ≡ []
  applies_none application of = ap all_applications (has_them application of) ∙ posed.plain

  -- the arguments are computable where the constraint is, under whatever functions to be found
  pub arguments_compute : (wanted : List Function) (application : ℕ × Exprs) → Contains (applications (written_out question constraint)) application →
      computable (functions question.definitions) wanted values constraint ≡ true → all_computable (functions question.definitions) [] values application.1 ≡ true
  arguments_compute wanted application of can =
      let out = written_out_computes question (functions question.definitions) wanted values many constraint can in
      sym (all_plain_compute (functions question.definitions) wanted [] values application.1 (applies_none application of)) ∙
      applied_compute (functions question.definitions) wanted values (written_out question constraint) (written_out_binds_nothing question constraint) out application of

  -- so where they aren't, the constraint isn't
  pub arguments_leave : (wanted : List Function) (application : ℕ × Exprs) → Contains (applications (written_out question constraint)) application →
      all_computable (functions question.definitions) [] values application.1 ≡ false → computable (functions question.definitions) wanted values constraint ≡ false
  arguments_leave wanted application of leave = not_true (computable (functions question.definitions) wanted values constraint) (λ can. true≢false (sym (arguments_compute wanted application of can) ∙ leave))
    where
      not_true : (b : Bool) → (b ≡ true → ⊥) → b ≡ false
      not_true true never = absurd (never refl)
      not_true false never = refl

  -- where it rests on a tuple, all its applications are at that tuple
  pub applied_at : (tuple : List Val) → RestsOn question values constraint tuple → (wanted : List Function) (application : ℕ × Exprs) →
      Contains (applications (written_out question constraint)) application → meanings (functions question.definitions) wanted values application.1 ≡ tuple
  applied_at tuple rests wanted application of =
      (all_plain_same (functions question.definitions) wanted [] values application.1 (applies_none application of)).values_are ∙
      ap (meanings (functions question.definitions) [] values) (has_them application of ∙ sym (has_them rests.application rests.of)) ∙
      rests.at

  -- it rests on one tuple at most
  pub rests_on_one : (tuple other : List Val) → RestsOn question values constraint tuple → RestsOn question values constraint other → tuple ≡ other
  rests_on_one tuple other one two = sym one.at ∙ applied_at other two [] one.application one.of

  -- it asks for the tuple on which it rests
  pub rests_asks : (tuple : List Val) → (rests : RestsOn question values constraint tuple) → (wanted : List Function) → Contains (asked (functions question.definitions) wanted values constraint) (rests.application.0, tuple)
  rests_asks tuple rests wanted =
      let defined = functions question.definitions in
      let call_is : call_of defined wanted values rests.application ≡ (rests.application.0, tuple) = λ i. (rests.application.0, applied_at tuple rests wanted rests.application rests.of i) in
      elim (written_asks defined wanted values (variables_from 0 question.variables) constraint rests.application rests.of) [
        | inl named ↦ absurd (in_nothing rests.application (subst (λ all. Contains all rests.application) (variables_apply_nothing 0 question.variables) named))
        | inr asks ↦ subst (Contains (asked defined wanted values constraint)) call_is (subst (λ vs. Contains (asked defined wanted vs constraint) (call_of defined wanted values rests.application)) (variables_are question defined wanted values many) asks)
      ]

  -- bodies of the same value at the tuple on which it rests give it the same meaning
  pub rest_decides : (tuple : List Val) (body other : Expr) → RestsOn question values constraint tuple → meaning (functions question.definitions) [] tuple body ≡ meaning (functions question.definitions) [] tuple other →
      meaning (functions question.definitions) (map (function_from (functions question.definitions)) (body ∷ [])) values constraint ≡
      meaning (functions question.definitions) (map (function_from (functions question.definitions)) (other ∷ [])) values constraint
  rest_decides tuple body other rests same =
      let defined = functions question.definitions in
      let one = map (function_from defined) (body ∷ []) in
      let two = map (function_from defined) (other ∷ []) in
      let alike : SameAt defined one two values (applications (written_out question constraint)) = λ application of.
      ap (called (slice_get one application.0)) (applied_at tuple rests one application of) ∙
      same_called defined body other application.0 tuple same ∙
      sym (ap (called (slice_get two application.0)) (applied_at tuple rests two application of)) in
      sym (written_out_means question defined one values many constraint) ∙
      applied_alike defined one two values (written_out question constraint) (written_out_binds_nothing question constraint) alike ∙
      written_out_means question defined two values many constraint

-- where a constraint fits, each application within it, written out, does; and it is one of function 0 where one is to be found
pub application_fits : (question : Question) (scope : Scope) (constraint : Expr) (sort : Sort) → sort_in scope question.variables constraint ≡ Some sort →
    (application : ℕ × Exprs) → Contains (applications (written_out question constraint)) application → FitsAsCall scope question.variables application
application_fits question scope constraint sort fit application of =
    applied_fit scope question.variables (written_out question constraint) sort (written_out_binds_nothing question constraint) (written_out_fits question scope constraint sort fit) application of

pub is_of_the_one : (scope : Scope) (sorts : List Sort) (application : ℕ × Exprs) → length scope.wanted ≡ 1 → FitsAsCall scope sorts application → application.0 ≡ 0
is_of_the_one scope sorts application one fits = omega (arith, one, within scope.wanted application.0 fits.function fits.is)
  where
    within : (signatures : List Signature) (place : ℕ) (signature : Signature) → slice_get signatures place ≡ Some signature → place < length signatures
    within [] place signature is = absurd (none-some signature is)
    within (first ∷ signatures) zero signature is = omega arith
    within (first ∷ signatures) (suc place) signature is = omega (arith, within signatures place signature is)
