-- What fits can be written.
use Rattle.std.proofs.Common.{◌≡◌, refl, List, [], length, Bool, true, false, pos, negsuc}
use Rattle.std.specs.Prelude.{slice_get, Option, Some, None, if◌then◌else◌}
use Rattle.std.proofs.lemmas.Option.{slice_get_within}
use Rattle.sy_terms.specs.Values.{Val, Truth, Whole, Bits}
use Rattle.sy_terms.specs.Theories.{valid, sort_of_value}
use Rattle.sy_terms.specs.Expr.{Expr, Exprs, Constant, Variable, Apply, Invoke, Bind, none, more}
use Rattle.sy_terms.specs.Fitting.{Scope, Signature, sort_in, sorts_in, applied_sort, called_sort, with_sort, signature_of}
use Rattle.sy_terms.specs.declared.op.Op.{Op}
use Rattle.sy_terms.specs.declared.sort.Sort.{Sort}
use Rattle.sy_terms.specs.declared.term.Fun.{Fun}
use Rattle.sy_terms.specs.declared.term.Fun.TheVariants.{Defined, Wanted}
use Rattle.sy_grammar_base.specs.Trees.{is_negative}
use Rattle.sy_reply.specs.Writable.{is_plain_value, IsDefined, IsWritable, AreWritable}

abbrev mutual
  -- neither a `let` nor a negative number stands in the term
  pub HasNeither : Expr → Type 0
  HasNeither (Constant value) = is_negative value ≡ false
  HasNeither (Variable position) = Unit {0}
  HasNeither (Apply operator parts) = HaveNeither parts
  HasNeither (Invoke function parts) = HaveNeither parts
  HasNeither (Bind bound inner) = ⊥

  pub HaveNeither : Exprs → Type 0
  HaveNeither none = Unit {0}
  HaveNeither (more first rest) = HasNeither first × HaveNeither rest

pub applied_some : (scope : Scope) (operator : Op) (found : Option (List Sort)) (sort : Sort) → applied_sort scope operator found ≡ Some sort → (sorts : List Sort) × (found ≡ Some sorts)
applied_some scope operator None sort is = cc
applied_some scope operator (Some sorts) sort is = (sorts, refl)

pub called_some : (function : Option Signature) (found : Option (List Sort)) (sort : Sort) → called_sort function found ≡ Some sort → ((signature : Signature) × (function ≡ Some signature)) × ((sorts : List Sort) × (found ≡ Some sorts))
called_some None found sort is = cc
called_some (Some signature) None sort is = cc
called_some (Some signature) (Some sorts) sort is = ((signature, refl), (sorts, refl))

pub with_some : (first : Option Sort) (rest : Option (List Sort)) (all : List Sort) → with_sort first rest ≡ Some all → ((sort : Sort) × (first ≡ Some sort)) × ((sorts : List Sort) × (rest ≡ Some sorts))
with_some None rest all is = cc
with_some (Some sort) None all is = cc
with_some (Some sort) (Some sorts) all is = ((sort, refl), (sorts, refl))

if_some : {A : Type 0} (test : Bool) (x y : A) → (if test then Some x else None) ≡ Some y → test ≡ true
if_some true x y is = refl
if_some false x y is = cc

valid_literal : (value : Val) → valid value ≡ true → is_negative value ≡ false → is_plain_value value ≡ true
valid_literal (Truth truth) ok positive = refl
valid_literal (Whole (pos n)) ok positive = refl
valid_literal (Whole (negsuc n)) ok positive = cc
valid_literal (Bits width n) ok positive = ok

defined_within : (scope : Scope) (function : Fun) (signature : Signature) → scope.wanted ≡ [] → signature_of scope function ≡ Some signature → IsDefined (length scope.defined) function
defined_within scope (Defined number) signature nothing is = slice_get_within scope.defined number signature is
defined_within scope (Wanted number) signature nothing is = let none : slice_get (let xs : List Signature = [] in xs) number ≡ Some signature = rw nothing at is in cc

mutual
  unfolding sort_in sorts_in IsWritable AreWritable

  -- a term that fits where nothing is to be found
  pub fitting_written : (scope : Scope) (sorts : List Sort) (term : Expr) (sort : Sort) → scope.wanted ≡ [] → sort_in scope sorts term ≡ Some sort → HasNeither term → IsWritable (length sorts) (length scope.defined) term
  fitting_written scope sorts (Constant value) sort nothing is clean = valid_literal value (if_some (valid value) (sort_of_value value) sort is) clean
  fitting_written scope sorts (Variable position) sort nothing is clean = slice_get_within sorts position sort is
  fitting_written scope sorts (Apply operator parts) sort nothing is clean =
      let found = applied_some scope operator (sorts_in scope sorts parts) sort is in
      all_fitting_written scope sorts parts found.0 nothing found.1 clean
  fitting_written scope sorts (Invoke function parts) sort nothing is clean =
      let found = called_some (signature_of scope function) (sorts_in scope sorts parts) sort is in
      (defined_within scope function found.0.0 nothing found.0.1, all_fitting_written scope sorts parts found.1.0 nothing found.1.1 clean)
  fitting_written scope sorts (Bind bound inner) sort nothing is clean = absurd clean

  all_fitting_written : (scope : Scope) (sorts : List Sort) (terms : Exprs) (found : List Sort) → scope.wanted ≡ [] → sorts_in scope sorts terms ≡ Some found → HaveNeither terms → AreWritable (length sorts) (length scope.defined) terms
  all_fitting_written scope sorts none found nothing is clean = tt
  all_fitting_written scope sorts (more first rest) found nothing is clean =
      let both = with_some (sort_in scope sorts first) (sorts_in scope sorts rest) found is in
      (fitting_written scope sorts first both.0.0 nothing both.0.1 clean.0, all_fitting_written scope sorts rest both.1.0 nothing both.1.1 clean.1)
