-- Terms without bindings, and terms that apply no function to be found.
use Rattle.std.specs.Prelude.{ℕ, zero, suc, true, ◌&&◌, List, [], ◌∷◌, ◌++◌, ◌≡◌, refl, ⊤, Contains, slice_get, Some}
use Rattle.std.proofs.Common.{ap, sym, ◌∙◌, subst, inl, inr}
use Rattle.std.proofs.lemmas.List.Elements.{Contains-append_left, Contains-append_right, Contains-append_cases, Contains-push, Contains-push_cases}
use Rattle.sy_terms.specs.Values.{Val}
use Rattle.sy_terms.specs.Operators.{op_value}
use Rattle.sy_terms.specs.Theories.{fits}
use Rattle.sy_terms.specs.Expr.{Expr, Exprs, Constant, Variable, Apply, Invoke, Bind, none, more, append}
use Rattle.sy_terms.specs.Meaning.{Function, called, can_call, meaning, meanings, computable, all_computable, asked, all_asked}
use Rattle.sy_terms.specs.Fitting.{Scope, Signature, signature_of, sort_in, sorts_in}
use Rattle.sy_terms.specs.declared.sort.Sort.{Sort}
use Rattle.sy_terms.specs.declared.term.Fun.TheVariants.{Defined, Wanted}
use Rattle.sy_terms_operators.specs.Agreement.{SameUnder, AllSameUnder, Agree}
use Rattle.sy_terms_operators.proofs.Agreement.{same_under, all_same_under}
use Rattle.sy_terms_operators.proofs.Equations.{both_true, applied_sort_Some, called_sort_Some, with_sort_Some}
use Rattle.sy_loop_spec.specs.Applications.{applications, all_applications}
use Rattle.sy_loop_spec.specs.WrittenOut.{term_at, written, all_written}
use Rattle.sy_loop_spec.proofs.Applied.{in_nothing}

-- no binding stands within
abbrev mutual
  pub BindsNothing : Expr → Type 0
  BindsNothing (Constant value) = ⊤
  BindsNothing (Variable position) = ⊤
  BindsNothing (Apply operator arguments) = AllBindNothing arguments
  BindsNothing (Invoke function arguments) = AllBindNothing arguments
  BindsNothing (Bind bound inner) = ⊥

  pub AllBindNothing : Exprs → Type 0
  AllBindNothing none = ⊤
  AllBindNothing (more first rest) = BindsNothing first × AllBindNothing rest

append_binds_nothing : (first second : Exprs) → AllBindNothing first → AllBindNothing second → AllBindNothing (append first second)
append_binds_nothing none second one two = two
append_binds_nothing (more term first) second one two = (one.0, append_binds_nothing first second one.1 two)

term_at_binds_nothing : (known : Exprs) (position : ℕ) → AllBindNothing known → BindsNothing (term_at known position)
term_at_binds_nothing none position all = tt
term_at_binds_nothing (more term rest) zero all = all.0
term_at_binds_nothing (more term rest) (suc position) all = term_at_binds_nothing rest position all.1

mutual
  unfolding written all_written

  -- a term written out over terms without bindings has none
  pub written_binds_nothing : (known : Exprs) (term : Expr) → AllBindNothing known → BindsNothing (written known term)
  written_binds_nothing known (Constant value) all = tt
  written_binds_nothing known (Variable position) all = term_at_binds_nothing known position all
  written_binds_nothing known (Apply operator arguments) all = all_written_bind_nothing known arguments all
  written_binds_nothing known (Invoke function arguments) all = all_written_bind_nothing known arguments all
  written_binds_nothing known (Bind bound inner) all =
      written_binds_nothing (append known (all_written known bound)) inner (append_binds_nothing known (all_written known bound) all (all_written_bind_nothing known bound all))

  pub all_written_bind_nothing : (known terms : Exprs) → AllBindNothing known → AllBindNothing (all_written known terms)
  all_written_bind_nothing known none all = tt
  all_written_bind_nothing known (more first rest) all = (written_binds_nothing known first all, all_written_bind_nothing known rest all)

-- both of two lists are empty where one after the other is
both_nothing : {A : Type 0} (first second : List A) → first ++ second ≡ [] → (first ≡ []) × (second ≡ [])
both_nothing [] second is = (refl, is)
both_nothing (item ∷ first) second is = cc

not_pushed : {A : Type 0} (items : List A) (item : A) → items ++ item ∷ [] ≡ [] → ⊥
not_pushed [] item is = cc
not_pushed (first ∷ items) item is = cc

mutual
  unfolding applications all_applications asked all_asked

  -- a term that applies no function to be found asks for none
  pub applying_nothing_asks_nothing : (defined wanted : List Function) (values : List Val) (term : Expr) → applications term ≡ [] → asked defined wanted values term ≡ []
  applying_nothing_asks_nothing defined wanted values (Constant value) nothing = refl
  applying_nothing_asks_nothing defined wanted values (Variable position) nothing = refl
  applying_nothing_asks_nothing defined wanted values (Apply operator arguments) nothing = all_applying_nothing_ask_nothing defined wanted values arguments nothing
  applying_nothing_asks_nothing defined wanted values (Invoke (Defined f) arguments) nothing = all_applying_nothing_ask_nothing defined wanted values arguments nothing
  applying_nothing_asks_nothing defined wanted values (Invoke (Wanted f) arguments) nothing = absurd (not_pushed (all_applications arguments) (f, arguments) nothing)
  applying_nothing_asks_nothing defined wanted values (Bind bound inner) nothing =
      let both = both_nothing (all_applications bound) (applications inner) nothing in
      λ i. all_applying_nothing_ask_nothing defined wanted values bound both.0 i ++ applying_nothing_asks_nothing defined wanted (values ++ meanings defined wanted values bound) inner both.1 i

  pub all_applying_nothing_ask_nothing : (defined wanted : List Function) (values : List Val) (terms : Exprs) → all_applications terms ≡ [] → all_asked defined wanted values terms ≡ []
  all_applying_nothing_ask_nothing defined wanted values none nothing = refl
  all_applying_nothing_ask_nothing defined wanted values (more first rest) nothing =
      let both = both_nothing (applications first) (all_applications rest) nothing in
      λ i. applying_nothing_asks_nothing defined wanted values first both.0 i ++ all_applying_nothing_ask_nothing defined wanted values rest both.1 i

-- it means the same whatever the functions to be found are
module _ (defined wanted others : List Function) (values : List Val) where
  pub plain_same : (term : Expr) → applications term ≡ [] → SameUnder defined wanted others values term
  plain_same term nothing = same_under defined wanted others values term (subst (Agree wanted others) (sym (applying_nothing_asks_nothing defined wanted values term nothing)) (λ call of. absurd (in_nothing call of)))

  pub all_plain_same : (terms : Exprs) → all_applications terms ≡ [] → AllSameUnder defined wanted others values terms
  all_plain_same terms nothing = all_same_under defined wanted others values terms (subst (Agree wanted others) (sym (all_applying_nothing_ask_nothing defined wanted values terms nothing)) (λ call of. absurd (in_nothing call of)))

mutual
  unfolding computable all_computable applications all_applications

  -- and is computable alike
  plain_computes : (defined wanted others : List Function) (values : List Val) (term : Expr) → applications term ≡ [] → computable defined wanted values term ≡ computable defined others values term
  plain_computes defined wanted others values (Constant value) nothing = refl
  plain_computes defined wanted others values (Variable position) nothing = refl
  plain_computes defined wanted others values (Apply operator arguments) nothing =
      λ i. all_plain_compute defined wanted others values arguments nothing i && fits operator ((all_plain_same defined wanted others values arguments nothing).values_are i)
  plain_computes defined wanted others values (Invoke (Defined f) arguments) nothing =
      λ i. all_plain_compute defined wanted others values arguments nothing i && can_call (slice_get defined f) ((all_plain_same defined wanted others values arguments nothing).values_are i)
  plain_computes defined wanted others values (Invoke (Wanted f) arguments) nothing = absurd (not_pushed (all_applications arguments) (f, arguments) nothing)
  plain_computes defined wanted others values (Bind bound inner) nothing =
      let both = both_nothing (all_applications bound) (applications inner) nothing in
      (λ i. all_plain_compute defined wanted others values bound both.0 i && plain_computes defined wanted others (values ++ meanings defined wanted values bound) inner both.1 i) ∙
      ap (λ vs. all_computable defined others values bound && computable defined others (values ++ vs) inner) (all_plain_same defined wanted others values bound both.0).values_are

  pub all_plain_compute : (defined wanted others : List Function) (values : List Val) (terms : Exprs) → all_applications terms ≡ [] → all_computable defined wanted values terms ≡ all_computable defined others values terms
  all_plain_compute defined wanted others values none nothing = refl
  all_plain_compute defined wanted others values (more first rest) nothing =
      let both = both_nothing (applications first) (all_applications rest) nothing in
      λ i. plain_computes defined wanted others values first both.0 i && all_plain_compute defined wanted others values rest both.1 i

-- functions to be found that have the same value at each application within
abbrev pub SameAt : List Function → List Function → List Function → List Val → List (ℕ × Exprs) → Type 0
SameAt defined wanted others values all = (application : ℕ × Exprs) → Contains all application →
    called (slice_get wanted application.0) (meanings defined wanted values application.1) ≡ called (slice_get others application.0) (meanings defined others values application.1)

mutual
  unfolding meaning meanings applications all_applications

  -- a term without bindings means the same under functions to be found that have the same value at each application within
  pub applied_alike : (defined wanted others : List Function) (values : List Val) (term : Expr) → BindsNothing term → SameAt defined wanted others values (applications term) →
      meaning defined wanted values term ≡ meaning defined others values term
  applied_alike defined wanted others values (Constant value) flat same = refl
  applied_alike defined wanted others values (Variable position) flat same = refl
  applied_alike defined wanted others values (Apply operator arguments) flat same = ap (op_value operator) (all_applied_alike defined wanted others values arguments flat same)
  applied_alike defined wanted others values (Invoke (Defined f) arguments) flat same = ap (called (slice_get defined f)) (all_applied_alike defined wanted others values arguments flat same)
  applied_alike defined wanted others values (Invoke (Wanted f) arguments) flat same = same (f, arguments) (Contains-push (all_applications arguments) (f, arguments))
  applied_alike defined wanted others values (Bind bound inner) flat same = absurd flat

  pub all_applied_alike : (defined wanted others : List Function) (values : List Val) (terms : Exprs) → AllBindNothing terms → SameAt defined wanted others values (all_applications terms) →
      meanings defined wanted values terms ≡ meanings defined others values terms
  all_applied_alike defined wanted others values none flat same = refl
  all_applied_alike defined wanted others values (more first rest) flat same =
      let one = applied_alike defined wanted others values first flat.0 (λ application of. same application (Contains-append_left (applications first) (all_applications rest) application of)) in
      let two = all_applied_alike defined wanted others values rest flat.1 (λ application of. same application (Contains-append_right (applications first) (all_applications rest) application of)) in
      λ i. one i ∷ two i

mutual
  unfolding computable all_computable applications all_applications

  -- where a term without bindings is computable, so are the arguments of each application within
  pub applied_compute : (defined wanted : List Function) (values : List Val) (term : Expr) → BindsNothing term → computable defined wanted values term ≡ true →
      (application : ℕ × Exprs) → Contains (applications term) application → all_computable defined wanted values application.1 ≡ true
  applied_compute defined wanted values (Constant value) flat can application of = absurd (in_nothing application of)
  applied_compute defined wanted values (Variable position) flat can application of = absurd (in_nothing application of)
  applied_compute defined wanted values (Apply operator arguments) flat can application of =
      all_applied_compute defined wanted values arguments flat (both_true (all_computable defined wanted values arguments) (fits operator (meanings defined wanted values arguments)) can).0 application of
  applied_compute defined wanted values (Invoke (Defined f) arguments) flat can application of =
      all_applied_compute defined wanted values arguments flat (both_true (all_computable defined wanted values arguments) (can_call (slice_get defined f) (meanings defined wanted values arguments)) can).0 application of
  applied_compute defined wanted values (Invoke (Wanted f) arguments) flat can application of =
      let below = (both_true (all_computable defined wanted values arguments) (can_call (slice_get wanted f) (meanings defined wanted values arguments)) can).0 in
      elim (Contains-push_cases (all_applications arguments) (f, arguments) application of) [
        | inl within ↦ all_applied_compute defined wanted values arguments flat below application within
        | inr is ↦ subst (λ (a : ℕ × Exprs). all_computable defined wanted values a.1 ≡ true) is below
      ]
  applied_compute defined wanted values (Bind bound inner) flat can application of = absurd flat

  pub all_applied_compute : (defined wanted : List Function) (values : List Val) (terms : Exprs) → AllBindNothing terms → all_computable defined wanted values terms ≡ true →
      (application : ℕ × Exprs) → Contains (all_applications terms) application → all_computable defined wanted values application.1 ≡ true
  all_applied_compute defined wanted values none flat can application of = absurd (in_nothing application of)
  all_applied_compute defined wanted values (more first rest) flat can application of =
      let both = both_true (computable defined wanted values first) (all_computable defined wanted values rest) can in
      elim (Contains-append_cases (applications first) (all_applications rest) application of) [
        | inl within ↦ applied_compute defined wanted values first flat.0 both.0 application within
        | inr within ↦ all_applied_compute defined wanted values rest flat.1 both.1 application within
      ]

-- an application that fits: its function has a signature, whose arguments' sorts are those of its arguments
pub record FitsAsCall (scope : Scope) (sorts : List Sort) (application : ℕ × Exprs) : Type 0 where
  pub function : Signature
  pub is : slice_get scope.wanted application.0 ≡ Some function
  pub takes : sorts_in scope sorts application.1 ≡ Some function.takes

mutual
  unfolding sort_in sorts_in applications all_applications

  -- where a term without bindings fits, so does each application within
  pub applied_fit : (scope : Scope) (sorts : List Sort) (term : Expr) (sort : Sort) → BindsNothing term → sort_in scope sorts term ≡ Some sort →
      (application : ℕ × Exprs) → Contains (applications term) application → FitsAsCall scope sorts application
  applied_fit scope sorts (Constant value) sort flat fit application of = absurd (in_nothing application of)
  applied_fit scope sorts (Variable position) sort flat fit application of = absurd (in_nothing application of)
  applied_fit scope sorts (Apply operator arguments) sort flat fit application of =
      let below = applied_sort_Some scope operator (sorts_in scope sorts arguments) sort fit in
      all_applied_fit scope sorts arguments below.sorts flat below.is application of
  applied_fit scope sorts (Invoke (Defined f) arguments) sort flat fit application of =
      let below = called_sort_Some (signature_of scope (Defined f)) (sorts_in scope sorts arguments) sort fit in
      all_applied_fit scope sorts arguments below.function.takes flat below.takes application of
  applied_fit scope sorts (Invoke (Wanted f) arguments) sort flat fit application of =
      let below = called_sort_Some (signature_of scope (Wanted f)) (sorts_in scope sorts arguments) sort fit in
      elim (Contains-push_cases (all_applications arguments) (f, arguments) application of) [
        | inl within ↦ all_applied_fit scope sorts arguments below.function.takes flat below.takes application within
        | inr is ↦ subst (FitsAsCall scope sorts) is (record { function = below.function; is = below.is; takes = below.takes })
      ]
  applied_fit scope sorts (Bind bound inner) sort flat fit application of = absurd flat

  pub all_applied_fit : (scope : Scope) (sorts : List Sort) (terms : Exprs) (found : List Sort) → AllBindNothing terms → sorts_in scope sorts terms ≡ Some found →
      (application : ℕ × Exprs) → Contains (all_applications terms) application → FitsAsCall scope sorts application
  all_applied_fit scope sorts none found flat fit application of = absurd (in_nothing application of)
  all_applied_fit scope sorts (more first rest) found flat fit application of =
      let parts = with_sort_Some (sort_in scope sorts first) (sorts_in scope sorts rest) found fit in
      elim (Contains-append_cases (applications first) (all_applications rest) application of) [
        | inl within ↦ applied_fit scope sorts first parts.sort flat.0 parts.first_is application within
        | inr within ↦ all_applied_fit scope sorts rest parts.sorts flat.1 parts.rest_is application within
      ]
