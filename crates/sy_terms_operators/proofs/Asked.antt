-- A term that fits where no function is to be found asks for none.
use Rattle.std.specs.Prelude.{ℕ, List, [], ◌∷◌, ◌++◌, ◌≡◌, refl, slice_get, Some}
use Rattle.std.proofs.lemmas.Option.{none-some}
use Rattle.sy_terms.specs.Values.{Val}
use Rattle.sy_terms.specs.Expr.{Expr, Exprs, Constant, Variable, Apply, Invoke, Bind, none, more}
use Rattle.sy_terms.specs.Meaning.{Function, meanings, asked, all_asked}
use Rattle.sy_terms.specs.Fitting.{Scope, Signature, sort_in, sorts_in, signature_of}
use Rattle.sy_terms.specs.declared.sort.Sort.{Sort}
use Rattle.sy_terms.specs.declared.term.Fun.TheVariants.{Defined, Wanted}
use Rattle.sy_terms_operators.specs.Tracing.{traced_all, traced}
use Rattle.sy_terms_operators.proofs.Equations.{applied_sort_Some, called_sort_Some, after_Some, with_sort_Some}

no_signature : (signatures : List Signature) (f : ℕ) (s : Signature) → signatures ≡ [] → slice_get signatures f ≡ Some s → ⊥
no_signature [] f s e h = none-some s h
no_signature (x ∷ signatures) f s e h = cc

mutual
  unfolding sort_in asked

  pub asks_nothing : (scope : Scope) → scope.wanted ≡ [] → (defined wanted : List Function) (sorts : List Sort) (values : List Val) (term : Expr) (s : Sort) → sort_in scope sorts term ≡ Some s → asked defined wanted values term ≡ []
  asks_nothing scope closed defined wanted sorts values (Constant value) s e = refl
  asks_nothing scope closed defined wanted sorts values (Variable position) s e = refl
  asks_nothing scope closed defined wanted sorts values (Apply operator arguments) s e =
      let found = applied_sort_Some scope operator (sorts_in scope sorts arguments) s e in
      all_ask_nothing scope closed defined wanted sorts values arguments found.sorts found.is
  asks_nothing scope closed defined wanted sorts values (Invoke (Defined f) arguments) s e =
      let found = called_sort_Some (signature_of scope (Defined f)) (sorts_in scope sorts arguments) s e in
      all_ask_nothing scope closed defined wanted sorts values arguments found.function.takes found.takes
  asks_nothing scope closed defined wanted sorts values (Invoke (Wanted f) arguments) s e =
      let found = called_sort_Some (signature_of scope (Wanted f)) (sorts_in scope sorts arguments) s e in
      absurd (no_signature scope.wanted f found.function closed found.is)
  asks_nothing scope closed defined wanted sorts values (Bind bound inner) s e =
      let found = after_Some (sorts_in scope sorts bound) (λ found. sort_in scope (sorts ++ found) inner) s e in
      let first = all_ask_nothing scope closed defined wanted sorts values bound found.sorts found.is in
      let second = asks_nothing scope closed defined wanted (sorts ++ found.sorts) (values ++ meanings defined wanted values bound) inner s found.next_is in
      rw (first, second) refl

  pub all_ask_nothing : (scope : Scope) → scope.wanted ≡ [] → (defined wanted : List Function) (sorts : List Sort) (values : List Val) (terms : Exprs) (ss : List Sort) → sorts_in scope sorts terms ≡ Some ss → all_asked defined wanted values terms ≡ []
  all_ask_nothing scope closed defined wanted sorts values none ss e = refl
  all_ask_nothing scope closed defined wanted sorts values (more first rest) ss e =
      let parts = with_sort_Some (sort_in scope sorts first) (sorts_in scope sorts rest) ss e in
      let here = asks_nothing scope closed defined wanted sorts values first parts.sort parts.first_is in
      let there = all_ask_nothing scope closed defined wanted sorts values rest parts.sorts parts.rest_is in
      rw (here, there) refl

-- the calls of one list after those of another
pub traced_all-append : (before first second : List (ℕ × List Val)) → traced_all before (first ++ second) ≡ traced_all (traced_all before first) second
traced_all-append before [] second = refl
traced_all-append before (call ∷ first) second = traced_all-append (traced before call) first second
