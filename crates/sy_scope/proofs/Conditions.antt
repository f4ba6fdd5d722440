-- The conditions of an invariant are truth values.
use Rattle.std.specs.Prelude.{ℕ, suc, ◌+◌, ◌*◌, true, List, [], ◌∷◌, ◌++◌, length, slice_get, Some, ◌≡◌, refl}
use Rattle.std.specs.List.{range_with_len}
use Rattle.std.proofs.Common.{subst, ◌∙◌, arith}
use Rattle.std.proofs.lemmas.List.{length-append}
use Rattle.sy_terms.specs.Expr.{Expr}
use Rattle.sy_terms.specs.Fitting.{Scope, sort_in, sorts_in, signature_of, same_sorts}
use Rattle.sy_terms.specs.Sorts.{sort_of}
use Rattle.sy_terms.specs.declared.op.Op.{Op}
use Rattle.sy_terms.specs.declared.op.Op.TheVariants as ops
use Rattle.sy_terms.specs.declared.sort.Sort.{Sort}
use Rattle.sy_terms.specs.declared.sort.Sort.TheVariants as sorts
use Rattle.sy_terms.specs.declared.sorts.Sorted.TheVariants.{Is}
use Rattle.sy_terms.specs.declared.term.Fun.{Fun}
use Rattle.sy_terms.specs.declared.term.Fun.TheVariants.{Defined, Wanted}
use Rattle.sy_grammar.proofs.Sorting.{same_sort_self}
use Rattle.sy_forms.proofs.Exprs.{front_at, back_at}
use Rattle.sy_scope_names.specs.Changes.{Parts}
use Rattle.sy_inv.specs.Conditions.{variables_at, call, binary, starts, keeps, ends}

-- these sorts stand in a row from a position on
abbrev pub AreFrom : List Sort → ℕ → List Sort → Type 0
AreFrom values first found = (i : ℕ) (s : Sort) → slice_get found i ≡ Some s → slice_get values (first + i) ≡ Some s

next_from : (values : List Sort) (first : ℕ) (s : Sort) (found : List Sort) → AreFrom values first (s ∷ found) → AreFrom values (first + 1) found
next_from values first s found are i t e =
    subst (λ p. slice_get values p ≡ Some t) (omega arith) (are (suc i) t e)

first_from : (values : List Sort) (first : ℕ) (s : Sort) (found : List Sort) → AreFrom values first (s ∷ found) → slice_get values first ≡ Some s
first_from values first s found are = subst (λ p. slice_get values p ≡ Some s) (omega arith) (are 0 s refl)

variables_fit : (scope : Scope) (values : List Sort) (first : ℕ) (found : List Sort) → AreFrom values first found → sorts_in scope values (variables_at (range_with_len first (length found))) ≡ Some found
unfolding sort_in sorts_in
variables_fit scope values first [] are = refl
variables_fit scope values first (s ∷ found) are =
    rw (first_from values first s found are, variables_fit scope values (first + 1) found (next_from values first s found are)) refl

same_itself : (all : List Sort) → same_sorts all all ≡ true
same_itself [] = refl
same_itself (s ∷ all) = rw (same_sort_self s, same_itself all) refl

pub call_fits : (scope : Scope) (values : List Sort) (function : Fun) (first : ℕ) (takes : List Sort) (gives : Sort) → signature_of scope function ≡ Some (record { takes = takes; gives = gives }) → AreFrom values first takes
    → sort_in scope values (call function first (length takes)) ≡ Some gives
unfolding sort_in
call_fits scope values function first takes gives there are = rw (there, variables_fit scope values first takes are, same_itself takes) refl

binary_fits : (scope : Scope) (values : List Sort) (operator : Op) (left right : Expr) → scope.owned operator ≡ true → sort_of operator (sorts.Bool ∷ sorts.Bool ∷ []) ≡ Is sorts.Bool → sort_in scope values left ≡ Some sorts.Bool → sort_in scope values right ≡ Some sorts.Bool
    → sort_in scope values (binary operator left right) ≡ Some sorts.Bool
unfolding sort_in sorts_in
binary_fits scope values operator left right owned is l r = rw (l, r, owned, is) refl

-- the functions of an invariant problem over states of these sorts
pub record IsInvariant (scope : Scope) (state : List Sort) (parts : Parts) : Type 0 where
  pub implies : scope.owned ops.Implies ≡ true
  pub and : scope.owned ops.And ≡ true
  pub invariant : slice_get scope.wanted parts.invariant ≡ Some (record { takes = state; gives = sorts.Bool })
  pub before : slice_get scope.defined parts.before ≡ Some (record { takes = state; gives = sorts.Bool })
  pub step : slice_get scope.defined parts.step ≡ Some (record { takes = state ++ state; gives = sorts.Bool })
  pub after : slice_get scope.defined parts.after ≡ Some (record { takes = state; gives = sorts.Bool })

implies_takes : sort_of ops.Implies (sorts.Bool ∷ sorts.Bool ∷ []) ≡ Is sorts.Bool
unfolding sort_of
implies_takes = refl

and_takes : sort_of ops.And (sorts.Bool ∷ sorts.Bool ∷ []) ≡ Is sorts.Bool
unfolding sort_of
and_takes = refl

first_state : (values state : List Sort) (first : ℕ) → AreFrom values first (state ++ state) → AreFrom values first state
first_state values state first are i s e = are i s (front_at state state i s e)

next_state : (values state : List Sort) (first : ℕ) → AreFrom values first (state ++ state) → AreFrom values (first + length state) state
next_state values state first are i s e =
    subst (λ p. slice_get values p ≡ Some s) (omega arith) (are (length state + i) s (back_at state state i (length state + i) refl ∙ e))

twice : (state : List Sort) → length (state ++ state) ≡ 2 * length state
twice state = omega (arith, length-append state state)

pub starts_fits : (scope : Scope) (values state : List Sort) (parts : Parts) (first : ℕ) → IsInvariant scope state parts → AreFrom values first (state ++ state)
    → sort_in scope values (starts (length state) parts.before parts.invariant first) ≡ Some sorts.Bool
starts_fits scope values state parts first is are =
    let here = first_state values state first are in
    binary_fits scope values ops.Implies _ _ is.implies implies_takes
    (call_fits scope values (Defined parts.before) first state sorts.Bool is.before here)
    (call_fits scope values (Wanted parts.invariant) first state sorts.Bool is.invariant here)

pub keeps_fits : (scope : Scope) (values state : List Sort) (parts : Parts) (first : ℕ) → IsInvariant scope state parts → AreFrom values first (state ++ state)
    → sort_in scope values (keeps (length state) parts.step parts.invariant first) ≡ Some sorts.Bool
keeps_fits scope values state parts first is are =
    binary_fits scope values ops.Implies _ _ is.implies implies_takes
    (binary_fits scope values ops.And _ _ is.and and_takes
    (call_fits scope values (Wanted parts.invariant) first state sorts.Bool is.invariant (first_state values state first are))
    (subst (λ n. sort_in scope values (call (Defined parts.step) first n) ≡ Some sorts.Bool) (twice state) (call_fits scope values (Defined parts.step) first (state ++ state) sorts.Bool is.step are)))
    (call_fits scope values (Wanted parts.invariant) (first + length state) state sorts.Bool is.invariant (next_state values state first are))

pub ends_fits : (scope : Scope) (values state : List Sort) (parts : Parts) (first : ℕ) → IsInvariant scope state parts → AreFrom values first (state ++ state)
    → sort_in scope values (ends (length state) parts.after parts.invariant first) ≡ Some sorts.Bool
ends_fits scope values state parts first is are =
    let here = first_state values state first are in
    binary_fits scope values ops.Implies _ _ is.implies implies_takes
    (call_fits scope values (Wanted parts.invariant) first state sorts.Bool is.invariant here)
    (call_fits scope values (Defined parts.after) first state sorts.Bool is.after here)
