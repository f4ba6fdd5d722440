-- Comparisons with choices, and facts of orders.
use Rattle.std.specs.Prelude.{ℕ, Bool, true, false, not, ◌&&◌, ◌||◌, ◌<◌, nat_lt, nat_le, List, [], ◌∷◌, ◌++◌, ◌≡◌, refl, length, slice_get, Option, Some, None, IfSome}
use Rattle.std.specs.List.{list_all}
use Rattle.std.proofs.Common.{arith, ap, ◌∙◌, sym}
use Rattle.sy_terms.specs.Values.{Val, Truth, Whole, Bits, truth}
use Rattle.sy_terms.specs.Operators.{op_value}
use Rattle.sy_terms.specs.Expr.{Expr, Apply, none, more, nodes}
use Rattle.sy_terms.specs.Meaning.{Function, meaning, meanings, value_at_position}
use Rattle.sy_terms.specs.Denoted.{expr_of, exprs_of}
use Rattle.sy_terms.specs.declared.term.Term.{Term}
use Rattle.sy_terms.specs.declared.op.Op.{Op}
use Rattle.sy_terms.specs.declared.op.Op.TheVariants as ops
use Rattle.sy_rewrite_orders.specs.Alike.{IsAlike, IsFact, SayTheSame, SaysTheSame, chosen, SaysTheSame, comparison, related}

outside : (f : Val → Val) (test there here : Val) → op_value ops.Ite (test ∷ f there ∷ f here ∷ []) ≡ f (op_value ops.Ite (test ∷ there ∷ here ∷ []))
unfolding op_value
outside f (Truth true) there here = refl
outside f (Truth false) there here = refl
outside f (Whole z) there here = refl
outside f (Bits w n) there here = refl

-- a choice between comparisons means what the comparison of the choice means
pub choice_apart : (operator : Op) (known : Expr) (first : Bool) (test there here found_there found_here : Expr) →
    IsAlike found_there (comparison operator known first there) → IsAlike found_here (comparison operator known first here) →
    IsAlike (chosen test found_there found_here) (comparison operator known first (chosen test there here))
unfolding meaning meanings
choice_apart operator known true test there here found_there found_here is also defined wanted values =
    rw (is defined wanted values, also defined wanted values)
    (outside (λ value. op_value operator (meaning defined wanted values known ∷ value ∷ [])) (meaning defined wanted values test) (meaning defined wanted values there) (meaning defined wanted values here))
choice_apart operator known false test there here found_there found_here is also defined wanted values =
    rw (is defined wanted values, also defined wanted values)
    (outside (λ value. op_value operator (value ∷ meaning defined wanted values known ∷ [])) (meaning defined wanted values test) (meaning defined wanted values there) (meaning defined wanted values here))

-- of two truth values, the second where the first; of three, the last where the first two
both_give : (a b c : Bool) → (a ≡ true → b ≡ true → c ≡ true) → (not (a && (b && true)) || c) ≡ true
both_give true true c gives = gives refl refl
both_give true false c gives = refl
both_give false b c gives = refl

not_both : (a b : Bool) → (a ≡ true → b ≡ true → ⊥) → not ((a && (b && true)) && true) ≡ true
not_both true true never = absurd (never refl refl)
not_both true false never = refl
not_both false b never = refl

le_steps : (s t u : ℕ) → nat_le s t ≡ true → nat_le t u ≡ true → nat_le s u ≡ true
le_steps s t u lower upper = grind arith

less_once : (s t : ℕ) → nat_lt s t ≡ true → nat_lt t s ≡ true → ⊥
less_once s t lower upper = grind arith

order_steps : (x y z : Val) → truth (op_value ops.Implies (op_value ops.And (op_value ops.BvUle (x ∷ y ∷ []) ∷ op_value ops.BvUle (y ∷ z ∷ []) ∷ []) ∷ op_value ops.BvUle (x ∷ z ∷ []) ∷ [])) ≡ true
unfolding op_value
order_steps (Bits w s) (Bits v t) (Bits u r) = both_give (nat_le s t) (nat_le t r) (nat_le s r) (le_steps s t r)
order_steps (Bits w s) (Bits v t) (Truth b) = both_give (nat_le s t) false false (λ is also. also)
order_steps (Bits w s) (Bits v t) (Whole z) = both_give (nat_le s t) false false (λ is also. also)
order_steps (Bits w s) (Truth b) z = refl
order_steps (Bits w s) (Whole n) z = refl
order_steps (Truth b) y z = refl
order_steps (Whole n) y z = refl

order_once : (x y : Val) → truth (op_value ops.Not (op_value ops.And (op_value ops.BvUlt (x ∷ y ∷ []) ∷ op_value ops.BvUlt (y ∷ x ∷ []) ∷ []) ∷ [])) ≡ true
unfolding op_value
order_once (Bits w s) (Bits v t) = not_both (nat_lt s t) (nat_lt t s) (less_once s t)
order_once (Bits w s) (Truth b) = refl
order_once (Bits w s) (Whole n) = refl
order_once (Truth b) y = refl
order_once (Whole n) y = refl

pub transitive : (first second third : ℕ) → IsFact (Apply ops.Implies (more (Apply ops.And (more (related ops.BvUle first second) (more (related ops.BvUle second third) none))) (more (related ops.BvUle first third) none)))
unfolding meaning meanings
transitive first second third defined wanted values =
    order_steps (value_at_position values first) (value_at_position values second) (value_at_position values third)

pub antisymmetric : (first second : ℕ) → IsFact (Apply ops.Not (more (Apply ops.And (more (related ops.BvUlt first second) (more (related ops.BvUlt second first) none))) none))
unfolding meaning meanings
antisymmetric first second defined wanted values = order_once (value_at_position values first) (value_at_position values second)

truth_is : (value : Val) → truth value ≡ true → value ≡ Truth true
truth_is (Truth b) is = ap Truth is
truth_is (Whole z) is = cc
truth_is (Bits w n) is = cc

all_of_more : {T N : Type 0} (number : N → Val) (terms : List (Term T N)) (fact : Term T N) → IsFact (expr_of number fact) →
    (defined wanted : List Function) (values : List Val) → list_all truth (meanings defined wanted values (exprs_of number (terms ++ fact ∷ []))) ≡ list_all truth (meanings defined wanted values (exprs_of number terms))
unfolding meanings
all_of_more number [] fact is defined wanted values = rw (is defined wanted values) refl
all_of_more number (term ∷ terms) fact is defined wanted values = ap (λ (rest : Bool). truth (meaning defined wanted values (expr_of number term)) && rest) (all_of_more number terms fact is defined wanted values)

-- a fact more changes nothing
pub with_fact : {T N : Type 0} (number : N → Val) (before after : List (Term T N)) (fact : Term T N) → after ≡ before ++ fact ∷ [] → IsFact (expr_of number fact) → SayTheSame (exprs_of number after) (exprs_of number before)
with_fact number before after fact is always = rw is (all_of_more number before fact always)

-- a list that says what one term says, as one term
pub joined_says : {T N : Type 0} (number : N → Val) (term : Term T N) (parts : List (Term T N)) → SayTheSame (exprs_of number parts) (exprs_of number (term ∷ [])) → SaysTheSame (Apply ops.And (exprs_of number parts)) (expr_of number term)
unfolding meaning meanings op_value
joined_says number term parts same defined wanted values =
    let all : list_all truth (meanings defined wanted values (exprs_of number parts)) ≡ truth (meaning defined wanted values (expr_of number term)) = same defined wanted values ∙ alone (truth (meaning defined wanted values (expr_of number term))) in (
      λ holds. truth_is (meaning defined wanted values (expr_of number term)) (sym all ∙ ap truth holds),
      λ holds. ap Truth (all ∙ ap truth holds),
    )
  where
    alone : (b : Bool) → (b && true) ≡ b
    alone true = refl
    alone false = refl

-- parts of a choice are less than the choice
pub there_falls : (test there here : Expr) → nodes there < nodes (chosen test there here)
there_falls test there here = omega arith

pub here_falls : (test there here : Expr) → nodes here < nodes (chosen test there here)
here_falls test there here = omega arith

-- lists of two terms and of three
pub two_are : {T N : Type 0} (number : N → Val) (terms : List (Term T N)) (a b : Term T N) → length terms ≡ 2 → slice_get terms 0 ≡ Some a → slice_get terms 1 ≡ Some b →
    exprs_of number terms ≡ more (expr_of number a) (more (expr_of number b) none)
two_are number [] a b many first second = absurd (omega (arith, many))
two_are number (x ∷ []) a b many first second = absurd (omega (arith, many))
two_are number (x ∷ y ∷ []) a b many first second =
    let is_a : x ≡ a = cc in
    let is_b : y ≡ b = cc in
    rw (is_a, is_b) refl
two_are number (x ∷ y ∷ z ∷ rest) a b many first second = absurd (omega (arith, many))

pub three_are : {T N : Type 0} (number : N → Val) (terms : List (Term T N)) (a b c : Term T N) → length terms ≡ 3 → slice_get terms 0 ≡ Some a → slice_get terms 1 ≡ Some b → slice_get terms 2 ≡ Some c →
    exprs_of number terms ≡ more (expr_of number a) (more (expr_of number b) (more (expr_of number c) none))
three_are number [] a b c many first second third = absurd (omega (arith, many))
three_are number (x ∷ []) a b c many first second third = absurd (omega (arith, many))
three_are number (x ∷ y ∷ []) a b c many first second third = absurd (omega (arith, many))
three_are number (x ∷ y ∷ z ∷ []) a b c many first second third =
    let is_a : x ≡ a = cc in
    let is_b : y ≡ b = cc in
    let is_c : z ≡ c = cc in
    rw (is_a, is_b, is_c) refl
three_are number (x ∷ y ∷ z ∷ w ∷ rest) a b c many first second third = absurd (omega (arith, many))

pub some_then : {X : Type 0} {P Q : X → Type 0} (found : Option X) → IfSome found P → ((x : X) → P x → Q x) → IfSome found Q
some_then None has gives = has
some_then (Some x) has gives = gives x has

-- lists to which so many terms were appended one by one
pub one_appended : {T N : Type 0} (number : N → Val) (terms with_one : List (Term T N)) (a : Term T N) (first : Expr) → terms ≡ [] → with_one ≡ terms ++ a ∷ [] → expr_of number a ≡ first → exprs_of number with_one ≡ more first none
one_appended number terms with_one a first empty one is_a = rw (one, empty) (ap (λ e. more e none) is_a)

pub two_appended : {T N : Type 0} (number : N → Val) (terms with_one with_two : List (Term T N)) (a b : Term T N) (first second : Expr) → terms ≡ [] → with_one ≡ terms ++ a ∷ [] → with_two ≡ with_one ++ b ∷ [] →
    expr_of number a ≡ first → expr_of number b ≡ second → exprs_of number with_two ≡ more first (more second none)
two_appended number terms with_one with_two a b first second empty one two is_a is_b =
    rw (two, one, empty) (ap (λ e. more e (more (expr_of number b) none)) is_a ∙ ap (λ e. more first (more e none)) is_b)

pub three_appended : {T N : Type 0} (number : N → Val) (terms with_one with_two with_three : List (Term T N)) (a b c : Term T N) (first second third : Expr) → terms ≡ [] → with_one ≡ terms ++ a ∷ [] → with_two ≡ with_one ++ b ∷ [] →
    with_three ≡ with_two ++ c ∷ [] → expr_of number a ≡ first → expr_of number b ≡ second → expr_of number c ≡ third → exprs_of number with_three ≡ more first (more second (more third none))
three_appended number terms with_one with_two with_three a b c first second third empty one two three is_a is_b is_c =
    rw (three, two, one, empty)
    (ap (λ e. more e (more (expr_of number b) (more (expr_of number c) none))) is_a ∙ ap (λ e. more first (more e (more (expr_of number c) none))) is_b ∙ ap (λ e. more first (more second (more e none))) is_c)
