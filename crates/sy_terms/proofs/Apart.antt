-- Terms of different forms stand for different expressions.
use Rattle.std.proofs.Common.{◌≡◌, sym, ap, ◌∙◌, ℕ, Bool, true, false, IsTrue, ◌↔◌, ◌+◌, List, [], ◌∷◌, length, refl, arith}
use Rattle.std.specs.declared.boxed.Box.{Box}
use Rattle.std.specs.declared.alloc.Global.{Global}
use Rattle.sy_terms.specs.Values.{Val}
use Rattle.sy_terms.specs.Expr.{Expr, Exprs, Constant, Variable, Apply, Invoke, Bind, none, more}
use Rattle.sy_terms.specs.Denoted.{val_of, expr_of, exprs_of, expr_of-Const, expr_of-Var, expr_of-App, expr_of-Call, expr_of-Let}
use Rattle.sy_terms.specs.declared.op.Op.{Op}
use Rattle.sy_terms.specs.declared.sort.Value.{Value}
use Rattle.sy_terms.specs.declared.term.Fun.{Fun}
use Rattle.sy_terms.specs.declared.term.Terms.{Terms}
use Rattle.sy_terms.specs.declared.term.Term.{Term, Const, Var, App, Call, Let, out-Term, roll-Term, roll-out-Term}
use Rattle.sy_terms.specs.declared.term.Term.TheOpen as form
use Rattle.sy_terms.specs.declared.term.Term.TheViews.{rolls-Const, rolls-Var, rolls-App, rolls-Call, rolls-Let}

module _ {T N : Type 0} (number : N → Val) where
  -- what a term stands for, by its form
  abbrev by_form : form.Term-F T N (Term T N) (Terms T N) → Expr
  by_form (form.Const value) = Constant (val_of number value)
  by_form (form.Var position) = Variable position
  by_form (form.App operator arguments) = Apply operator (exprs_of number arguments.items.items)
  by_form (form.Call function arguments) = Invoke function (exprs_of number arguments.items.items)
  by_form (form.Let bound inner) = Bind (exprs_of number bound.items.items) (expr_of number inner.value)

  formed : (shape : form.Term-F T N (Term T N) (Terms T N)) → expr_of number (roll-Term T N shape) ≡ by_form shape
  formed (form.Const value) = ap (expr_of number) (rolls-Const {X1 = T} {X2 = N} value) ∙ expr_of-Const T number value
  formed (form.Var position) = ap (expr_of number) (rolls-Var {X1 = T} {X2 = N} position) ∙ expr_of-Var T number position
  formed (form.App operator arguments) = ap (expr_of number) (rolls-App operator arguments) ∙ expr_of-App number operator arguments
  formed (form.Call function arguments) = ap (expr_of number) (rolls-Call function arguments) ∙ expr_of-Call number function arguments
  formed (form.Let bound inner) = ap (expr_of number) (rolls-Let bound inner) ∙ expr_of-Let number bound inner

  is_by_form : (term : Term T N) → expr_of number term ≡ by_form (out-Term T N term)
  is_by_form term = ap (expr_of number) (sym (roll-out-Term T N term)) ∙ formed (out-Term T N term)

  not-Const : (shape : form.Term-F T N (Term T N) (Terms T N)) → ((value : Value N) → roll-Term T N shape ≡ Const value → ⊥) → (v : Val) → by_form shape ≡ Constant v → ⊥
  not-Const (form.Const value) other v e = other value (rolls-Const {X1 = T} {X2 = N} value)
  not-Const (form.Var position) other v e = cc
  not-Const (form.App operator arguments) other v e = cc
  not-Const (form.Call function arguments) other v e = cc
  not-Const (form.Let bound inner) other v e = cc

  pub apart-Const : (term : Term T N) → ((value : Value N) → term ≡ Const value → ⊥) → (v : Val) → expr_of number term ≡ Constant v → ⊥
  apart-Const term other v e = not-Const (out-Term T N term) (λ value is. other value (sym (roll-out-Term T N term) ∙ is)) v (sym (is_by_form term) ∙ e)

  not-Var : (shape : form.Term-F T N (Term T N) (Terms T N)) → ((position : ℕ) → roll-Term T N shape ≡ Var position → ⊥) → (p : ℕ) → by_form shape ≡ Variable p → ⊥
  not-Var (form.Const value) other p e = cc
  not-Var (form.Var position) other p e = other position (rolls-Var {X1 = T} {X2 = N} position)
  not-Var (form.App operator arguments) other p e = cc
  not-Var (form.Call function arguments) other p e = cc
  not-Var (form.Let bound inner) other p e = cc

  pub apart-Var : (term : Term T N) → ((position : ℕ) → term ≡ Var position → ⊥) → (p : ℕ) → expr_of number term ≡ Variable p → ⊥
  apart-Var term other p e = not-Var (out-Term T N term) (λ position is. other position (sym (roll-out-Term T N term) ∙ is)) p (sym (is_by_form term) ∙ e)

  not-App : (shape : form.Term-F T N (Term T N) (Terms T N)) → ((operator : Op) (arguments : Terms T N) → roll-Term T N shape ≡ App operator arguments → ⊥) → (f : Op) (xs : Exprs) → by_form shape ≡ Apply f xs → ⊥
  not-App (form.Const value) other f xs e = cc
  not-App (form.Var position) other f xs e = cc
  not-App (form.App operator arguments) other f xs e = other operator arguments (rolls-App operator arguments)
  not-App (form.Call function arguments) other f xs e = cc
  not-App (form.Let bound inner) other f xs e = cc

  pub apart-App : (term : Term T N) → ((operator : Op) (arguments : Terms T N) → term ≡ App operator arguments → ⊥) → (f : Op) (xs : Exprs) → expr_of number term ≡ Apply f xs → ⊥
  apart-App term other f xs e = not-App (out-Term T N term) (λ operator arguments is. other operator arguments (sym (roll-out-Term T N term) ∙ is)) f xs (sym (is_by_form term) ∙ e)

  not-Call : (shape : form.Term-F T N (Term T N) (Terms T N)) → ((function : Fun) (arguments : Terms T N) → roll-Term T N shape ≡ Call function arguments → ⊥) → (f : Fun) (xs : Exprs) → by_form shape ≡ Invoke f xs → ⊥
  not-Call (form.Const value) other f xs e = cc
  not-Call (form.Var position) other f xs e = cc
  not-Call (form.App operator arguments) other f xs e = cc
  not-Call (form.Call function arguments) other f xs e = other function arguments (rolls-Call function arguments)
  not-Call (form.Let bound inner) other f xs e = cc

  pub apart-Call : (term : Term T N) → ((function : Fun) (arguments : Terms T N) → term ≡ Call function arguments → ⊥) → (f : Fun) (xs : Exprs) → expr_of number term ≡ Invoke f xs → ⊥
  apart-Call term other f xs e = not-Call (out-Term T N term) (λ function arguments is. other function arguments (sym (roll-out-Term T N term) ∙ is)) f xs (sym (is_by_form term) ∙ e)

  not-Let : (shape : form.Term-F T N (Term T N) (Terms T N)) → ((bound : Terms T N) (inner : Box (Term T N) Global) → roll-Term T N shape ≡ Let bound inner → ⊥) → (xs : Exprs) (x : Expr) → by_form shape ≡ Bind xs x → ⊥
  not-Let (form.Const value) other xs x e = cc
  not-Let (form.Var position) other xs x e = cc
  not-Let (form.App operator arguments) other xs x e = cc
  not-Let (form.Call function arguments) other xs x e = cc
  not-Let (form.Let bound inner) other xs x e = other bound inner (rolls-Let bound inner)

  pub apart-Let : (term : Term T N) → ((bound : Terms T N) (inner : Box (Term T N) Global) → term ≡ Let bound inner → ⊥) → (xs : Exprs) (x : Expr) → expr_of number term ≡ Bind xs x → ⊥
  apart-Let term other xs x e = not-Let (out-Term T N term) (λ bound inner is. other bound inner (sym (roll-out-Term T N term) ∙ is)) xs x (sym (is_by_form term) ∙ e)

  -- what is known of the expressions, for the terms
  pub alike : (r : Bool) (t u : Term T N) (x y : Expr) → expr_of number t ≡ x → expr_of number u ≡ y → IsTrue r ↔ x ≡ y → IsTrue r ↔ expr_of number t ≡ expr_of number u
  alike r t u x y p q h = ((λ e. p ∙ h.0 e ∙ sym q), (λ e. h.1 (sym p ∙ e ∙ q)))

  pub never : (t u : Term T N) → (expr_of number t ≡ expr_of number u → ⊥) → IsTrue false ↔ expr_of number t ≡ expr_of number u
  never t u apart = ((λ e. cc), (λ e. absurd (apart e)))

  pub is-Const : (t : Term T N) (value : Value N) → t ≡ Const value → expr_of number t ≡ Constant (val_of number value)
  is-Const t value is = ap (expr_of number) is ∙ expr_of-Const T number value

  pub is-Var : (t : Term T N) (position : ℕ) → t ≡ Var position → expr_of number t ≡ Variable position
  is-Var t position is = ap (expr_of number) is ∙ expr_of-Var T number position

  pub is-App : (t : Term T N) (operator : Op) (arguments : Terms T N) → t ≡ App operator arguments → expr_of number t ≡ Apply operator (exprs_of number arguments.items.items)
  is-App t operator arguments is = ap (expr_of number) is ∙ expr_of-App number operator arguments

  pub is-Call : (t : Term T N) (function : Fun) (arguments : Terms T N) → t ≡ Call function arguments → expr_of number t ≡ Invoke function (exprs_of number arguments.items.items)
  is-Call t function arguments is = ap (expr_of number) is ∙ expr_of-Call number function arguments

  pub is-Let : (t : Term T N) (bound : Terms T N) (inner : Box (Term T N) Global) → t ≡ Let bound inner → expr_of number t ≡ Bind (exprs_of number bound.items.items) (expr_of number inner.value)
  is-Let t bound inner is = ap (expr_of number) is ∙ expr_of-Let number bound inner

-- equality of expressions by that of their parts
pub both-Constant : (r : Bool) (v w : Val) → IsTrue r ↔ v ≡ w → IsTrue r ↔ Constant v ≡ Constant w
both-Constant r v w h = ((λ e. ap Constant (h.0 e)), (λ e. h.1 (let it : v ≡ w = cc in it)))

pub both-Variable : (r : Bool) (p q : ℕ) → IsTrue r ↔ p ≡ q → IsTrue r ↔ Variable p ≡ Variable q
both-Variable r p q h = ((λ e. ap Variable (h.0 e)), (λ e. h.1 (let it : p ≡ q = cc in it)))

pub both-Apply : (r : Bool) (f g : Op) (xs ys : Exprs) → f ≡ g → IsTrue r ↔ xs ≡ ys → IsTrue r ↔ Apply f xs ≡ Apply g ys
both-Apply r f g xs ys same h = ((λ e. let rest = h.0 e in cc), (λ e. h.1 (let it : xs ≡ ys = cc in it)))

pub other-Apply : (r : Bool) (f g : Op) (xs ys : Exprs) → r ≡ false → (f ≡ g → r ≡ true) → IsTrue r ↔ Apply f xs ≡ Apply g ys
other-Apply r f g xs ys unlike again = ((λ e. cc), (λ e. again (let it : f ≡ g = cc in it)))

pub both-Invoke : (r : Bool) (f g : Fun) (xs ys : Exprs) → f ≡ g → IsTrue r ↔ xs ≡ ys → IsTrue r ↔ Invoke f xs ≡ Invoke g ys
both-Invoke r f g xs ys same h = ((λ e. let rest = h.0 e in cc), (λ e. h.1 (let it : xs ≡ ys = cc in it)))

pub other-Invoke : (r : Bool) (f g : Fun) (xs ys : Exprs) → r ≡ false → (f ≡ g → r ≡ true) → IsTrue r ↔ Invoke f xs ≡ Invoke g ys
other-Invoke r f g xs ys unlike again = ((λ e. cc), (λ e. again (let it : f ≡ g = cc in it)))

pub both-Bind : (b r : Bool) (xs ys : Exprs) (x y : Expr) → b ≡ true → IsTrue b ↔ xs ≡ ys → IsTrue r ↔ x ≡ y → IsTrue r ↔ Bind xs x ≡ Bind ys y
both-Bind b r xs ys x y first_is h k = ((λ e. let first = h.0 first_is in let second = k.0 e in cc), (λ e. k.1 (let it : x ≡ y = cc in it)))

pub other-Bind : (r : Bool) (xs ys : Exprs) (x y : Expr) → r ≡ false → IsTrue r ↔ xs ≡ ys → IsTrue r ↔ Bind xs x ≡ Bind ys y
other-Bind r xs ys x y unlike h = ((λ e. cc), (λ e. h.1 (let it : xs ≡ ys = cc in it)))

-- lists that stand for the same have the same length
abbrev count : Exprs → ℕ
count none = 0
count (more first rest) = count rest + 1

count_of : {T N : Type 0} (number : N → Val) (terms : List (Term T N)) → count (exprs_of number terms) ≡ length terms
count_of number [] = refl
count_of number (term ∷ terms) = omega (arith, count_of number terms)

pub same_length : {T N : Type 0} (number : N → Val) (ts us : List (Term T N)) → exprs_of number ts ≡ exprs_of number us → length ts ≡ length us
same_length number ts us e = sym (count_of number ts) ∙ ap count e ∙ count_of number us

pub cc_length : (a b m n : ℕ) → a ≡ m → b ≡ n → m ≡ n → a ≡ b
cc_length a b m n p q e = p ∙ e ∙ sym q

-- where lists are compared from the left: the terms at their heads, and what is left of them
module _ {T N : Type 0} (number : N → Val) (xs ys : List (Term T N)) (x y : Term T N) (xs' ys' : List (Term T N)) where
  pub first_same : xs ≡ x ∷ xs' → ys ≡ y ∷ ys' → exprs_of number xs ≡ exprs_of number ys → expr_of number x ≡ expr_of number y
  first_same p q e =
      let both : more (expr_of number x) (exprs_of number xs') ≡ more (expr_of number y) (exprs_of number ys') = ap (exprs_of number) (sym p) ∙ e ∙ ap (exprs_of number) q in
      cc

  pub left_more : (all others : Exprs) → xs ≡ x ∷ xs' → ys ≡ y ∷ ys' → expr_of number x ≡ expr_of number y → length xs ≡ length ys → ((exprs_of number xs ≡ exprs_of number ys) ↔ (all ≡ others)) →
      (length xs' ≡ length ys') × ((exprs_of number xs' ≡ exprs_of number ys') ↔ (all ≡ others))
  left_more all others p q first long h = (
    (omega (arith, ap length p, ap length q, long)),
    (
      (λ e. h.0 (ap (exprs_of number) p ∙ (λ i. more (first i) (e i)) ∙ sym (ap (exprs_of number) q))),
      (λ e.
          let both : more (expr_of number x) (exprs_of number xs') ≡ more (expr_of number y) (exprs_of number ys') = ap (exprs_of number) (sym p) ∙ h.1 e ∙ ap (exprs_of number) q in
          cc),
    ),
  )

pub none_left : {T N : Type 0} (number : N → Val) (xs ys : List (Term T N)) → length xs ≡ 0 → length ys ≡ 0 → exprs_of number xs ≡ exprs_of number ys
none_left number [] [] p q = refl
none_left number (x ∷ xs) ys p q = absurd (omega (arith, p))
none_left number [] (y ∷ ys) p q = absurd (omega (arith, q))
