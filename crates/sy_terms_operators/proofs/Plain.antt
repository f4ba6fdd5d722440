-- Terms without bindings and calls mean the same where further values are in force.
use Rattle.std.specs.Prelude.{ℕ, zero, suc, Bool, true, false, ◌&&◌, nat_lt, ◌+◌, ◌<◌, List, [], ◌∷◌, ◌++◌, ◌≡◌, refl, length}
use Rattle.std.proofs.Common.{arith, ap, ◌∙◌}
use Rattle.sy_terms.specs.Values.{Val}
use Rattle.sy_terms.specs.Operators.{op_value}
use Rattle.sy_terms.specs.Expr.{Expr, Exprs, Constant, Variable, Apply, Invoke, Bind, none, more, append}
use Rattle.sy_terms.specs.Meaning.{Function, meaning, meanings, value_at_position}
use Rattle.sy_terms_operators.specs.Plain.{is_plain, are_plain}
use Rattle.sy_terms_operators.proofs.Equations.{both_true}

and_true : (a b : Bool) → a ≡ true → b ≡ true → (a && b) ≡ true
and_true true b first second = second
and_true false b first second = cc

pub below : (a b : ℕ) → nat_lt a b ≡ true → a < b
below a b less = grind arith

pub less_further : (a b c : ℕ) → nat_lt a b ≡ true → nat_lt a (b + c) ≡ true
less_further a b c less = grind arith

pub plain_append : (count : ℕ) (terms others : Exprs) → are_plain count terms ≡ true → are_plain count others ≡ true → are_plain count (append terms others) ≡ true
unfolding are_plain
plain_append count none others first second = second
plain_append count (more term terms) others first second =
    let both = both_true (is_plain count term) (are_plain count terms) first in
    and_true (is_plain count term) (are_plain count (append terms others)) both.0 (plain_append count terms others both.1 second)

-- a plain term means the same where further values are in force

pub at_before : (values later : List Val) (i : ℕ) → i < length values → value_at_position (values ++ later) i ≡ value_at_position values i
at_before [] later i within = absurd (omega (arith, within))
at_before (value ∷ values) later zero within = refl
at_before (value ∷ values) later (suc i) within = at_before values later i (omega (arith, within))

mutual
  unfolding meaning meanings is_plain are_plain

  pub stays : (defined wanted : List Function) (values later : List Val) (term : Expr) → is_plain (length values) term ≡ true → meaning defined wanted (values ++ later) term ≡ meaning defined wanted values term
  stays defined wanted values later (Constant value) plain = refl
  stays defined wanted values later (Variable position) plain = at_before values later position (below position (length values) plain)
  stays defined wanted values later (Apply operator arguments) plain = ap (op_value operator) (all_stay defined wanted values later arguments plain)
  stays defined wanted values later (Invoke function arguments) plain = cc
  stays defined wanted values later (Bind bound inner) plain = cc

  pub all_stay : (defined wanted : List Function) (values later : List Val) (terms : Exprs) → are_plain (length values) terms ≡ true → meanings defined wanted (values ++ later) terms ≡ meanings defined wanted values terms
  all_stay defined wanted values later none plain = refl
  all_stay defined wanted values later (more term terms) plain =
      let both = both_true (is_plain (length values) term) (are_plain (length values) terms) plain in
      ap (λ (first : Val). first ∷ meanings defined wanted (values ++ later) terms) (stays defined wanted values later term both.0) ∙
      ap (λ (rest : List Val). meaning defined wanted values term ∷ rest) (all_stay defined wanted values later terms both.1)

mutual
  unfolding is_plain are_plain

  pub further : (count many : ℕ) (term : Expr) → is_plain count term ≡ true → is_plain (count + many) term ≡ true
  further count many (Constant value) plain = refl
  further count many (Variable position) plain = less_further position count many plain
  further count many (Apply operator arguments) plain = all_further count many arguments plain
  further count many (Invoke function arguments) plain = cc
  further count many (Bind bound inner) plain = cc

  pub all_further : (count many : ℕ) (terms : Exprs) → are_plain count terms ≡ true → are_plain (count + many) terms ≡ true
  all_further count many none plain = refl
  all_further count many (more term terms) plain =
      let both = both_true (is_plain count term) (are_plain count terms) plain in
      and_true (is_plain (count + many) term) (are_plain (count + many) terms) (further count many term both.0) (all_further count many terms both.1)
