-- Lists of values under operators whose arguments may stand in any order.
use Rattle.std.proofs.Common.{◌≡◌, ◌≤◌, Bool, true, false, cond, List, [], ◌∷◌, ◌++◌, length, refl, ap, sym, ◌∙◌, arith}
use Rattle.std.proofs.lemmas.List.{append-nil}
use Rattle.sy_terms.specs.Values.{Val}
use Rattle.sy_terms.specs.Operators.{op_value}
use Rattle.sy_terms.specs.Theories.{sort_of_value}
use Rattle.sy_terms.specs.declared.op.Op.{Op}
use Rattle.sy_terms.specs.declared.sort.Sort.{Sort}
use Rattle.sy_query_normal.specs.Unordered.{cancels, GiveTheSame, IsUnordered}

module _ (sort : Sort) (operator : Op) (law : IsUnordered sort operator) where
  -- the first values of a list, and then the others
  pub in_two : (x : Val) (xs ys : List Val) → op_value operator (x ∷ (xs ++ ys)) ≡ op_value operator (op_value operator (x ∷ xs) ∷ ys)
  in_two x [] ys = sym (law.first_alone x ys)
  in_two x (y ∷ xs) ys =
      law.steps x y (xs ++ ys) ∙ in_two (law.both x y) xs ys ∙ ap (λ (v : Val). op_value operator (v ∷ ys)) (sym (law.steps x y xs))

  -- a list behind a value, as one value
  pub as_one : (x y : Val) (ys : List Val) → op_value operator (x ∷ y ∷ ys) ≡ op_value operator (x ∷ op_value operator (y ∷ ys) ∷ [])
  as_one x y [] = sym (law.second_alone x y [])
  as_one x y (z ∷ zs) =
      law.steps x y (z ∷ zs) ∙ law.steps (law.both x y) z zs ∙ ap (λ (v : Val). op_value operator (v ∷ zs)) (law.grouped x y z)
      ∙ sym (law.steps x (law.both y z) zs) ∙ as_one x (law.both y z) zs ∙ ap (λ (v : Val). op_value operator (x ∷ v ∷ [])) (sym (law.steps y z zs))

  -- a value may stand before others
  pub moved : (x y : Val) (xs ys : List Val) → op_value operator (x ∷ (xs ++ y ∷ ys)) ≡ op_value operator (x ∷ y ∷ (xs ++ ys))
  moved x y [] ys = refl
  moved x y (z ∷ xs) ys =
      law.steps x z (xs ++ y ∷ ys) ∙ moved (law.both x z) y xs ys ∙ law.steps (law.both x z) y (xs ++ ys)
      ∙ ap (λ (v : Val). op_value operator (v ∷ (xs ++ ys))) (law.turned x z y)
      ∙ sym (law.steps (law.both x y) z (xs ++ ys)) ∙ sym (law.steps x y (z ∷ (xs ++ ys)))

  twice : (x y : Val) (xs ys : List Val) → op_value operator (x ∷ y ∷ (xs ++ y ∷ ys)) ≡ op_value operator (x ∷ y ∷ y ∷ (xs ++ ys))
  twice x y xs ys = law.steps x y (xs ++ y ∷ ys) ∙ moved (law.both x y) y xs ys ∙ sym (law.steps x y (y ∷ (xs ++ ys)))

  -- equal values that cancel each other
  pub gone : (y : Val) (xs ys : List Val) → cancels operator ≡ true → sort_of_value y ≡ sort → GiveTheSame sort operator (xs ++ ys) (y ∷ (xs ++ y ∷ ys))
  gone y xs ys cancel sorted = λ x fits.
      sym (twice x y xs ys ∙ law.doubled x y (xs ++ ys) fits sorted ∙ ap (λ (b : Bool). op_value operator (x ∷ cond b (xs ++ ys) (y ∷ (xs ++ ys)))) cancel)

  -- equal values that stand for one
  pub kept_once : (y : Val) (xs ys : List Val) → cancels operator ≡ false → sort_of_value y ≡ sort → GiveTheSame sort operator (xs ++ y ∷ ys) (y ∷ (xs ++ y ∷ ys))
  kept_once y xs ys stay sorted = λ x fits.
      sym (twice x y xs ys ∙ law.doubled x y (xs ++ ys) fits sorted ∙ ap (λ (b : Bool). op_value operator (x ∷ cond b (xs ++ ys) (y ∷ (xs ++ ys)))) stay ∙ sym (moved x y xs ys))

  -- a list with one value more, by a list that has it in another place
  pub one_more : (y : Val) (found done new : List Val) → sort_of_value y ≡ sort → GiveTheSame sort operator found done → GiveTheSame sort operator new (y ∷ found) → GiveTheSame sort operator new (done ++ y ∷ [])
  one_more y found done new sorted same put = λ x fits.
      put x fits ∙ law.steps x y found ∙ same (law.both x y) (law.keeps x y fits sorted) ∙ sym (law.steps x y done)
      ∙ ap (λ (rest : List Val). op_value operator (x ∷ y ∷ rest)) (sym (append-nil done)) ∙ sym (moved x y done [])

  -- a list with several values more, which stand for one
  pub several_more : (y : Val) (found done next : List Val) → ((x : Val) → op_value operator (x ∷ found) ≡ op_value operator (x ∷ done)) → ((x : Val) → op_value operator (x ∷ next) ≡ op_value operator (x ∷ y ∷ [])) →
      (x : Val) → op_value operator (x ∷ (found ++ next)) ≡ op_value operator (x ∷ (done ++ y ∷ []))
  several_more y found done next same stands x =
      in_two x found next ∙ ap (λ (v : Val). op_value operator (v ∷ next)) (same x) ∙ stands (op_value operator (x ∷ done)) ∙ sym (in_two x done (y ∷ []))

  -- what the operator gives stands for its arguments
  pub stands_for : (values : List Val) → 1 ≤ length values → (x : Val) → op_value operator (x ∷ values) ≡ op_value operator (x ∷ op_value operator values ∷ [])
  stands_for [] some x = absurd (omega (arith, some))
  stands_for (y ∷ ys) some x = as_one x y ys

  -- a value that stands for the arguments is what the operator gives
  pub is_given : (y : Val) (values : List Val) → 1 ≤ length values → sort_of_value y ≡ sort → sort_of_value (op_value operator values) ≡ sort → GiveTheSame sort operator (y ∷ []) values → y ≡ op_value operator values
  is_given y values some sorted also same = law.told y (op_value operator values) sorted also (λ x fits. same x fits ∙ stands_for values some x)
