use Rattle.std.specs.Prelude.{ℕ, List, [], ◌∷◌, ◌≡◌, refl, ◌++◌, ◌+◌, max}
use Rattle.std.proofs.Common.{ap, ◌∙◌, arith}
use Rattle.sy_terms.specs.declared.op.Op.{Op}
use Rattle.sy_terms.specs.declared.term.Fun.{Fun}
use Rattle.std.specs.Prelude.{map, All, true, false}
use Rattle.sy_terms.specs.Values as values
use Rattle.sy_terms.specs.Operators.{op_value}
use Rattle.sy_terms.specs.Sorts.{sort_of}
use Rattle.sy_terms.specs.Theories.{fits, sort_of_value, valid}
use Rattle.sy_terms.specs.declared.sort.Sort.{Sort}
use Rattle.sy_terms.specs.declared.sorts.Sorted.TheVariants.{Is}
use Rattle.sy_terms.specs.declared.theory.Applied.{Applied}
use Rattle.sy_terms.specs.declared.theory.Applied.TheVariants as applied
use Rattle.sy_terms.specs.Expr.{Expr, Exprs, Constant, Variable, Apply, Invoke, Bind, none, more, append, nodes, nodes_of, depth, depth_of}
use Rattle.sy_terms.specs.declared.sort.Value.{Value}
use Rattle.sy_terms.specs.declared.sort.Value.TheVariants.{Truth, Num}
use Rattle.sy_terms.specs.declared.term.Term.{Term, Const, Var, App', Call', Let', Row_of-Term, end_of-Term, more_of-Term, items-the_row-Term, items_hidden-the_row-Term-0, App, Call, Let}
use Rattle.sy_terms.specs.declared.term.Term.TheBlock.{hidden-the_row-Term-0}
use Rattle.std.specs.declared.boxed.Box.{Box}
use Rattle.std.specs.declared.alloc.Global.{Global}
use Rattle.sy_terms.specs.declared.term.Terms.{Terms}

-- what a value stands for, where number says what a number does
abbrev pub val_of : {N : Type 0} → (N → values.Val) → Value N → values.Val
val_of number (Truth truth) = values.Truth truth
val_of number (Num n) = number n

abbrev pub vals_of : {N : Type 0} → (N → values.Val) → List (Value N) → List values.Val
vals_of number vs = map (val_of number) vs

-- the sorts of values
abbrev pub sorts_of : {N : Type 0} → (N → values.Val) → List (Value N) → List Sort
sorts_of number vs = map sort_of_value (vals_of number vs)

-- each is a value of its sort
abbrev pub AreValid : {N : Type 0} → (N → values.Val) → List (Value N) → Type 0
AreValid number vs = All (λ v. valid v ≡ true) (vals_of number vs)

-- what a term stands for
unfoldable mutual
  pub expr_of : {T N : Type 0} → (N → values.Val) → Term T N → Expr
  expr_of number (Const value) = Constant (val_of number value)
  expr_of number (Var position) = Variable position
  expr_of number (App' operator shape row) = Apply operator (row_of number row)
  expr_of number (Call' function shape row) = Invoke function (row_of number row)
  expr_of number (Let' shape row pointer inner) = Bind (row_of number row) (expr_of number inner)

  pub row_of : {T N : Type 0} {m : _} → (N → values.Val) → Row_of-Term T N m → Exprs
  row_of number end_of-Term = none
  row_of number (more_of-Term term rest) = more (expr_of number term) (row_of number rest)

-- what a list of terms stands for
abbrev pub exprs_of : {T N : Type 0} → (N → values.Val) → List (Term T N) → Exprs
exprs_of number [] = none
exprs_of number (term ∷ terms) = more (expr_of number term) (exprs_of number terms)

pub expr_of-Const : (T : Type 0) {N : Type 0} (number : N → values.Val) (value : Value N) → let t : Term T N = Const value in expr_of number t ≡ Constant (val_of number value)
unfolding expr_of
expr_of-Const T number value = refl

pub expr_of-Var : (T : Type 0) {N : Type 0} (number : N → values.Val) (position : ℕ) → let t : Term T N = Var position in expr_of number t ≡ Variable position
unfolding expr_of
expr_of-Var T number position = refl

row_of-items : {T N : Type 0} (number : N → values.Val) {m : _} (row : Row_of-Term T N m) → row_of number row ≡ exprs_of number (items-the_row-Term T N m row)
unfolding row_of expr_of
row_of-items number end_of-Term = refl
row_of-items number (more_of-Term term rest) = ap (more (expr_of number term)) (row_of-items number rest)

-- what an application, a call and a binding stand for
pub expr_of-App : {T N : Type 0} (number : N → values.Val) (operator : Op) (arguments : Terms T N) → expr_of number (App operator arguments) ≡ Apply operator (exprs_of number arguments.items.items)
unfolding expr_of row_of
expr_of-App {T} {N} number operator arguments = ap (Apply operator) (row_of-items number (hidden-the_row-Term-0 T N arguments.items) ∙ ap (exprs_of number) (items_hidden-the_row-Term-0 T N arguments.items))

pub expr_of-Call : {T N : Type 0} (number : N → values.Val) (function : Fun) (arguments : Terms T N) → expr_of number (Call function arguments) ≡ Invoke function (exprs_of number arguments.items.items)
unfolding expr_of row_of
expr_of-Call {T} {N} number function arguments = ap (Invoke function) (row_of-items number (hidden-the_row-Term-0 T N arguments.items) ∙ ap (exprs_of number) (items_hidden-the_row-Term-0 T N arguments.items))

pub expr_of-Let : {T N : Type 0} (number : N → values.Val) (bound : Terms T N) (inner : Box (Term T N) Global) → expr_of number (Let bound inner) ≡ Bind (exprs_of number bound.items.items) (expr_of number inner.value)
unfolding expr_of row_of
expr_of-Let {T} {N} number bound inner = ap (λ terms. Bind terms (expr_of number inner.value)) (row_of-items number (hidden-the_row-Term-0 T N bound.items) ∙ ap (exprs_of number) (items_hidden-the_row-Term-0 T N bound.items))

-- what one list after the other stands for
pub exprs_of-append : {T N : Type 0} (number : N → values.Val) (first second : List (Term T N)) → exprs_of number (first ++ second) ≡ append (exprs_of number first) (exprs_of number second)
exprs_of-append number [] second = refl
exprs_of-append number (term ∷ first) second = ap (more (expr_of number term)) (exprs_of-append number first second)

-- the depth of a list with one term more
pub depth_of-last : {T N : Type 0} (number : N → values.Val) (terms : List (Term T N)) (last : Term T N) → depth_of (exprs_of number (terms ++ last ∷ [])) ≡ max (depth_of (exprs_of number terms)) (depth (expr_of number last))
depth_of-last number [] last = grind arith
depth_of-last number (term ∷ terms) last = rw (depth_of-last number terms last) (grind arith)

-- the nodes of a list with one term more
pub nodes_of-last : {T N : Type 0} (number : N → values.Val) (terms : List (Term T N)) (last : Term T N) → nodes_of (exprs_of number (terms ++ last ∷ [])) ≡ nodes_of (exprs_of number terms) + nodes (expr_of number last)
nodes_of-last number [] last = omega arith
nodes_of-last number (term ∷ terms) last = omega (arith, nodes_of-last number terms last)

-- the arguments have sorts for which the operator has a value, and are values of their sorts
pub record IsSorted (operator : Op) (arguments : List values.Val) : Type 0 where
  pub sort : Sort
  pub fits : sort_of operator (map sort_of_value arguments) ≡ Is sort
  pub each : All (λ v. valid v ≡ true) arguments

-- the operator's value, or that it or a partial value doesn't fit
abbrev pub Applies : {N : Type 0} → (N → values.Val) → Op → List values.Val → Applied N → Type 0
Applies number operator arguments (applied.Is value) = (valid (val_of number value) ≡ true) × (fits operator arguments ≡ true) × (val_of number value ≡ op_value operator arguments)
Applies number operator arguments applied.OutOfRange = fits operator arguments ≡ false
