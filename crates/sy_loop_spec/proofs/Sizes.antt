-- Bodies are within a bound exactly where their sizes sum to at most it.
use Rattle.std.specs.Prelude.{ℕ, ◌-◌, ◌≤◌, ◌↔◌, List, [], ◌∷◌}
use Rattle.std.proofs.Common.{arith, sym, subst}
use Rattle.sy_terms.specs.Values.{Val}
use Rattle.sy_terms.specs.Expr.{Expr}
use Rattle.sy_grammar_base.specs.Questions.{Goal}
use Rattle.sy_grammar_base.specs.Solving.{AreWithin}
use Rattle.sy_grammar_base.specs.Trees.{HasSize, tree_size}

-- bodies within a bound are so within a larger one
widened : (pool : List Val) (m n : ℕ) (goals : List Goal) (bodies : List Expr) → m ≤ n → AreWithin pool m goals bodies → AreWithin pool n goals bodies
widened pool m n [] [] le is = tt
widened pool m n [] (body ∷ bodies) le is = absurd is
widened pool m n (goal ∷ goals) [] le is = absurd is
widened pool m n (goal ∷ goals) (body ∷ bodies) le is =
    let size = tree_size goal.grammar pool 0 is.0 in
    (is.0, is.1, omega (arith, le, is.2), widened pool (m - size) (n - size) goals bodies (omega (arith, le)) is.3)

pub by_sizes : (goal : Goal) (goals : List Goal) (pool : List Val) (body : Expr) (bodies : List Expr) (size n : ℕ) → HasSize goal.grammar pool body size
    → AreWithin pool n (goal ∷ goals) (body ∷ bodies) ↔ ((size ≤ n) × AreWithin pool (n - size) goals bodies)
by_sizes goal goals pool body bodies size n has = (there, back)
  where
    there : AreWithin pool n (goal ∷ goals) (body ∷ bodies) → (size ≤ n) × AreWithin pool (n - size) goals bodies
    there within =
        let own = tree_size goal.grammar pool 0 within.0 in
        let least : size ≤ own = has.least within.0 within.1 in
        (omega (arith, least, within.2), widened pool (n - own) (n - size) goals bodies (omega (arith, least)) within.3)

    back : (size ≤ n) × AreWithin pool (n - size) goals bodies → AreWithin pool n (goal ∷ goals) (body ∷ bodies)
    back both = (has.tree, has.derives, omega (arith, has.is, both.0), subst (λ (k : ℕ). AreWithin pool (n - k) goals bodies) (sym has.is) both.1)
