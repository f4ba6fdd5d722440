-- A term that fits goes on to fit where more may be called.
use Rattle.std.specs.Prelude.{Bool, List, ◌∷◌, ◌++◌, Option, Some, None, ◌≡◌, refl}
use Rattle.std.proofs.Common.{ap, ◌∙◌}
use Rattle.sy_terms.specs.Expr as expr
use Rattle.sy_terms.specs.Expr.{Expr, Exprs}
use Rattle.sy_terms.specs.Fitting.{Scope, Signature, applied_sort, called_sort, with_sort, after, signature_of, sort_in, sorts_in}
use Rattle.sy_terms.specs.declared.op.Op.{Op}
use Rattle.sy_terms.specs.declared.sort.Sort.{Sort}
use Rattle.sy_terms.specs.declared.term.Fun.{Fun}
use Rattle.sy_terms.specs.declared.term.Fun.TheVariants.{Defined, Wanted}
use Rattle.sy_terms_operators.proofs.Equations.{with_sort_Some, after_Some}
use Rattle.sy_grammar_base.specs.Fits.{with_functions}
use Rattle.sy_grammar_base.specs.Extending.{Extends}

applied_wider : (scope : Scope) (operator : Op) (one other : Option (List Sort)) (sort : Sort) → ((sorts : List Sort) → one ≡ Some sorts → other ≡ Some sorts) → applied_sort scope operator one ≡ Some sort → applied_sort scope operator other ≡ Some sort
applied_wider scope operator None other sort same e = absurd cc
applied_wider scope operator (Some sorts) other sort same e = ap (applied_sort scope operator) (same sorts refl) ∙ e

pub called_wider : (first second : Option Signature) (one other : Option (List Sort)) (sort : Sort) → ((f : Signature) → first ≡ Some f → second ≡ Some f) → ((sorts : List Sort) → one ≡ Some sorts → other ≡ Some sorts)
    → called_sort first one ≡ Some sort → called_sort second other ≡ Some sort
called_wider None second one other sort wider same e = absurd cc
called_wider (Some f) second None other sort wider same e = absurd cc
called_wider (Some f) second (Some sorts) other sort wider same e = rw (wider f refl, same sorts refl) e

after_wider : (found : Option (List Sort)) (sorts : List Sort) (next : List Sort → Option Sort) (sort : Sort) → found ≡ Some sorts → next sorts ≡ Some sort → after found next ≡ Some sort
after_wider found sorts next sort is e = rw is e

with_wider : (first : Option Sort) (rest : Option (List Sort)) (sort : Sort) (sorts all : List Sort) → first ≡ Some sort → rest ≡ Some sorts → sort ∷ sorts ≡ all → with_sort first rest ≡ Some all
with_wider first rest sort sorts all e f whole = rw (e, f) (ap Some whole)

module _ (owned : Op → Bool) (defined wanted later_defined later_wanted : List Signature) (d : Extends defined later_defined) (w : Extends wanted later_wanted) where
  signature_wider : (function : Fun) (found : Signature) → signature_of (with_functions owned defined wanted) function ≡ Some found → signature_of (with_functions owned later_defined later_wanted) function ≡ Some found
  signature_wider (Defined f) found e = d f found e
  signature_wider (Wanted f) found e = w f found e

  mutual
    unfolding sort_in sorts_in

    pub term_wider : (values : List Sort) (term : Expr) (sort : Sort) → sort_in (with_functions owned defined wanted) values term ≡ Some sort → sort_in (with_functions owned later_defined later_wanted) values term ≡ Some sort
    term_wider values (expr.Constant value) sort e = e
    term_wider values (expr.Variable position) sort e = e
    term_wider values (expr.Apply operator arguments) sort e =
        applied_wider (with_functions owned later_defined later_wanted) operator (sorts_in (with_functions owned defined wanted) values arguments) _ sort (λ sorts is. terms_wider values arguments sorts is) e
    term_wider values (expr.Invoke function arguments) sort e =
        called_wider (signature_of (with_functions owned defined wanted) function) _ (sorts_in (with_functions owned defined wanted) values arguments) _ sort
        (signature_wider function) (λ sorts is. terms_wider values arguments sorts is) e
    term_wider values (expr.Bind bound inner) sort e =
        let found = after_Some (sorts_in (with_functions owned defined wanted) values bound) _ sort e in
        after_wider _ found.sorts (λ all. sort_in (with_functions owned later_defined later_wanted) (values ++ all) inner) sort (terms_wider values bound found.sorts found.is) (term_wider (values ++ found.sorts) inner sort found.next_is)

    terms_wider : (values : List Sort) (terms : Exprs) (sorts : List Sort) → sorts_in (with_functions owned defined wanted) values terms ≡ Some sorts → sorts_in (with_functions owned later_defined later_wanted) values terms ≡ Some sorts
    terms_wider values expr.none sorts e = e
    terms_wider values (expr.more first rest) sorts e =
        let found = with_sort_Some (sort_in (with_functions owned defined wanted) values first) (sorts_in (with_functions owned defined wanted) values rest) sorts e in
        with_wider _ _ found.sort found.sorts sorts (term_wider values first found.sort found.first_is) (terms_wider values rest found.sorts found.rest_is) found.whole_is
