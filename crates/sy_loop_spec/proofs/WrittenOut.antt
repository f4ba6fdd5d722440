-- A term with its bindings written out has the term's meaning and sort, and is computable where the term is.
use Rattle.std.specs.Prelude.{ℕ, zero, suc, true, ◌&&◌, List, [], ◌∷◌, ◌++◌, ◌≡◌, refl, slice_get, Some}
use Rattle.std.proofs.Common.{ap, sym, ◌∙◌, subst}
use Rattle.std.proofs.lemmas.Option.{none-some}
use Rattle.sy_terms.specs.Values.{Val}
use Rattle.sy_terms.specs.Expr.{Expr, Exprs, Constant, Variable, Apply, Invoke, Bind, none, more, append}
use Rattle.sy_terms.specs.Operators.{op_value}
use Rattle.sy_terms.specs.Theories.{fits}
use Rattle.sy_terms.specs.Meaning.{Function, called, can_call, function_of, value_at_position, meaning, meanings, computable, all_computable}
use Rattle.sy_terms.specs.Fitting.{Scope, sort_in, sorts_in, applied_sort, called_sort, signature_of}
use Rattle.sy_terms.specs.declared.sort.Sort.{Sort}
use Rattle.sy_terms_operators.proofs.Equations.{both_true, applied_sort_Some, called_sort_Some, after_Some, with_sort_Some}
use Rattle.sy_loop_spec.specs.WrittenOut.{term_at, written, all_written}

-- the meanings of two lists of terms in a row
pub meanings_append : (defined wanted : List Function) (values : List Val) (first second : Exprs) →
    meanings defined wanted values (append first second) ≡ meanings defined wanted values first ++ meanings defined wanted values second
unfolding meanings
meanings_append defined wanted values none second = refl
meanings_append defined wanted values (more term first) second = ap (λ rest. meaning defined wanted values term ∷ rest) (meanings_append defined wanted values first second)

-- what stands at a position means what stands there among the meanings
term_at_means : (defined wanted : List Function) (values : List Val) (known : Exprs) (position : ℕ) →
    meaning defined wanted values (term_at known position) ≡ value_at_position (meanings defined wanted values known) position
unfolding meaning meanings
term_at_means defined wanted values none position = refl
term_at_means defined wanted values (more term rest) zero = refl
term_at_means defined wanted values (more term rest) (suc position) = term_at_means defined wanted values rest position

mutual
  unfolding meaning meanings written all_written

  -- a term written out means what it means over the values of the terms for its names
  pub written_means : (defined wanted : List Function) (values : List Val) (known : Exprs) (term : Expr) →
      meaning defined wanted values (written known term) ≡ meaning defined wanted (meanings defined wanted values known) term
  written_means defined wanted values known (Constant value) = refl
  written_means defined wanted values known (Variable position) = term_at_means defined wanted values known position
  written_means defined wanted values known (Apply operator arguments) = ap (op_value operator) (all_written_mean defined wanted values known arguments)
  written_means defined wanted values known (Invoke function arguments) = ap (called (function_of defined wanted function)) (all_written_mean defined wanted values known arguments)
  written_means defined wanted values known (Bind bound inner) =
      written_means defined wanted values (append known (all_written known bound)) inner ∙
      ap (λ vs. meaning defined wanted vs inner)
      (meanings_append defined wanted values known (all_written known bound) ∙ ap (λ vs. meanings defined wanted values known ++ vs) (all_written_mean defined wanted values known bound))

  pub all_written_mean : (defined wanted : List Function) (values : List Val) (known terms : Exprs) →
      meanings defined wanted values (all_written known terms) ≡ meanings defined wanted (meanings defined wanted values known) terms
  all_written_mean defined wanted values known none = refl
  all_written_mean defined wanted values known (more first rest) = λ i. written_means defined wanted values known first i ∷ all_written_mean defined wanted values known rest i

-- the names in force within a binding
pub bound_mean : (defined wanted : List Function) (values : List Val) (known bound : Exprs) →
    meanings defined wanted values (append known (all_written known bound)) ≡ meanings defined wanted values known ++ meanings defined wanted (meanings defined wanted values known) bound
bound_mean defined wanted values known bound =
    meanings_append defined wanted values known (all_written known bound) ∙ ap (λ vs. meanings defined wanted values known ++ vs) (all_written_mean defined wanted values known bound)

-- all terms of two lists in a row are computable where all of each are
all_computable_append : (defined wanted : List Function) (values : List Val) (first second : Exprs) →
    all_computable defined wanted values first ≡ true → all_computable defined wanted values second ≡ true → all_computable defined wanted values (append first second) ≡ true
unfolding all_computable
all_computable_append defined wanted values none second one two = two
all_computable_append defined wanted values (more term first) second one two =
    let parts = both_true (computable defined wanted values term) (all_computable defined wanted values first) one in
    λ i. parts.0 i && all_computable_append defined wanted values first second parts.1 two i

term_at_computes : (defined wanted : List Function) (values : List Val) (known : Exprs) (position : ℕ) →
    all_computable defined wanted values known ≡ true → computable defined wanted values (term_at known position) ≡ true
unfolding computable all_computable
term_at_computes defined wanted values none position all = refl
term_at_computes defined wanted values (more term rest) zero all = (both_true (computable defined wanted values term) (all_computable defined wanted values rest) all).0
term_at_computes defined wanted values (more term rest) (suc position) all =
    term_at_computes defined wanted values rest position (both_true (computable defined wanted values term) (all_computable defined wanted values rest) all).1

mutual
  unfolding meanings computable all_computable written all_written

  -- a term written out is computable where the terms for its names are, and the term is over their values
  pub written_computes : (defined wanted : List Function) (values : List Val) (known : Exprs) (term : Expr) → all_computable defined wanted values known ≡ true →
      computable defined wanted (meanings defined wanted values known) term ≡ true → computable defined wanted values (written known term) ≡ true
  written_computes defined wanted values known (Constant value) all can = refl
  written_computes defined wanted values known (Variable position) all can = term_at_computes defined wanted values known position all
  written_computes defined wanted values known (Apply operator arguments) all can =
      let mean = meanings defined wanted values known in
      let both = both_true (all_computable defined wanted mean arguments) (fits operator (meanings defined wanted mean arguments)) can in
      λ i. all_written_compute defined wanted values known arguments all both.0 i && (ap (fits operator) (all_written_mean defined wanted values known arguments) ∙ both.1) i
  written_computes defined wanted values known (Invoke function arguments) all can =
      let mean = meanings defined wanted values known in
      let both = both_true (all_computable defined wanted mean arguments) (can_call (function_of defined wanted function) (meanings defined wanted mean arguments)) can in
      λ i. all_written_compute defined wanted values known arguments all both.0 i && (ap (can_call (function_of defined wanted function)) (all_written_mean defined wanted values known arguments) ∙ both.1) i
  written_computes defined wanted values known (Bind bound inner) all can =
      let mean = meanings defined wanted values known in
      let both = both_true (all_computable defined wanted mean bound) (computable defined wanted (mean ++ meanings defined wanted mean bound) inner) can in
      let names = all_computable_append defined wanted values known (all_written known bound) all (all_written_compute defined wanted values known bound all both.0) in
      written_computes defined wanted values (append known (all_written known bound)) inner names
      (ap (λ vs. computable defined wanted vs inner) (bound_mean defined wanted values known bound) ∙ both.1)

  pub all_written_compute : (defined wanted : List Function) (values : List Val) (known terms : Exprs) → all_computable defined wanted values known ≡ true →
      all_computable defined wanted (meanings defined wanted values known) terms ≡ true → all_computable defined wanted values (all_written known terms) ≡ true
  all_written_compute defined wanted values known none all can = refl
  all_written_compute defined wanted values known (more first rest) all can =
      let mean = meanings defined wanted values known in
      let both = both_true (computable defined wanted mean first) (all_computable defined wanted mean rest) can in
      λ i. written_computes defined wanted values known first all both.0 i && all_written_compute defined wanted values known rest all both.1 i

-- the sorts of two lists of terms in a row
sorts_append : (scope : Scope) (sorts : List Sort) (first second : Exprs) (ones twos : List Sort) →
    sorts_in scope sorts first ≡ Some ones → sorts_in scope sorts second ≡ Some twos → sorts_in scope sorts (append first second) ≡ Some (ones ++ twos)
unfolding sorts_in
sorts_append scope sorts none second ones twos one two = let nothing : [] ≡ ones = cc in subst (λ ss. sorts_in scope sorts second ≡ Some (ss ++ twos)) nothing two
sorts_append scope sorts (more term first) second ones twos one two =
    let parts = with_sort_Some (sort_in scope sorts term) (sorts_in scope sorts first) ones one in
    rw (parts.first_is, sorts_append scope sorts first second parts.sorts twos parts.rest_is two) (ap (λ (all : List Sort). Some (all ++ twos)) parts.whole_is)

term_at_fits : (scope : Scope) (sorts : List Sort) (known : Exprs) (found : List Sort) (position : ℕ) (sort : Sort) →
    sorts_in scope sorts known ≡ Some found → slice_get found position ≡ Some sort → sort_in scope sorts (term_at known position) ≡ Some sort
unfolding sort_in sorts_in
term_at_fits scope sorts none found position sort all at = let nothing : found ≡ [] = cc in absurd (none-some sort (ap (λ (ss : List Sort). slice_get ss position) (sym nothing) ∙ at))
term_at_fits scope sorts (more term rest) found zero sort all at =
    let parts = with_sort_Some (sort_in scope sorts term) (sorts_in scope sorts rest) found all in
    let same : Some parts.sort ≡ Some sort = ap (λ (ss : List Sort). slice_get ss 0) parts.whole_is ∙ at in
    parts.first_is ∙ same
term_at_fits scope sorts (more term rest) found (suc position) sort all at =
    let parts = with_sort_Some (sort_in scope sorts term) (sorts_in scope sorts rest) found all in
    term_at_fits scope sorts rest parts.sorts position sort parts.rest_is (ap (λ (ss : List Sort). slice_get ss (suc position)) parts.whole_is ∙ at)

mutual
  unfolding sort_in sorts_in written all_written

  -- a term written out has the term's sort, where the terms for its names have the names' sorts
  pub written_fits : (scope : Scope) (sorts : List Sort) (known : Exprs) (found : List Sort) (term : Expr) (sort : Sort) → sorts_in scope sorts known ≡ Some found →
      sort_in scope found term ≡ Some sort → sort_in scope sorts (written known term) ≡ Some sort
  written_fits scope sorts known found (Constant value) sort all fit = fit
  written_fits scope sorts known found (Variable position) sort all fit = term_at_fits scope sorts known found position sort all fit
  written_fits scope sorts known found (Apply operator arguments) sort all fit =
      let below = applied_sort_Some scope operator (sorts_in scope found arguments) sort fit in
      ap (applied_sort scope operator) (all_written_fit scope sorts known found arguments below.sorts all below.is ∙ sym below.is) ∙ fit
  written_fits scope sorts known found (Invoke function arguments) sort all fit =
      let below = called_sort_Some (signature_of scope function) (sorts_in scope found arguments) sort fit in
      ap (called_sort (signature_of scope function)) (all_written_fit scope sorts known found arguments below.function.takes all below.takes ∙ sym below.takes) ∙ fit
  written_fits scope sorts known found (Bind bound inner) sort all fit =
      let below = after_Some (sorts_in scope found bound) (λ (ss : List Sort). sort_in scope (found ++ ss) inner) sort fit in
      let names = sorts_append scope sorts known (all_written known bound) found below.sorts all (all_written_fit scope sorts known found bound below.sorts all below.is) in
      written_fits scope sorts (append known (all_written known bound)) (found ++ below.sorts) inner sort names below.next_is

  pub all_written_fit : (scope : Scope) (sorts : List Sort) (known : Exprs) (found : List Sort) (terms : Exprs) (ss : List Sort) → sorts_in scope sorts known ≡ Some found →
      sorts_in scope found terms ≡ Some ss → sorts_in scope sorts (all_written known terms) ≡ Some ss
  all_written_fit scope sorts known found none ss all fit = fit
  all_written_fit scope sorts known found (more first rest) ss all fit =
      let parts = with_sort_Some (sort_in scope found first) (sorts_in scope found rest) ss fit in
      rw (written_fits scope sorts known found first parts.sort all parts.first_is, all_written_fit scope sorts known found rest parts.sorts all parts.rest_is) (ap Some parts.whole_is)
