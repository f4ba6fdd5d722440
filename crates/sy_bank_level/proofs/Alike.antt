-- Patterns filled with terms that have the same values have the same values.
use Rattle.std.proofs.Common.{◌≡◌, ℕ, zero, suc, List, [], ◌∷◌, length, take, drop, map, refl, ap, ◌∙◌, sym, Bool, ◌&&◌, All}
use Rattle.std.proofs.lemmas.List.Elements.{All-nil, All-cons, All-head, All-tail}
use Rattle.sy_terms.specs.Values.{Val}
use Rattle.sy_terms.specs.Operators.{op_value}
use Rattle.sy_terms.specs.Theories.{fits}
use Rattle.sy_terms.specs.Expr as expr
use Rattle.sy_terms.specs.Expr.{Expr, Exprs}
use Rattle.sy_terms.specs.Meaning.{Function, meaning, meanings, computable, all_computable, called, can_call, function_of}
use Rattle.sy_terms.specs.declared.term.Fun.TheVariants.{Defined}
use Rattle.sy_grammar_base.specs.Patterns as patterns
use Rattle.sy_grammar_base.specs.Patterns.{Pattern, Patterns, Constant, Variable, Occurrence, Apply, Invoke, occurring, filled, all_filled}
use Rattle.sy_bank_level.specs.Rows.{IsRow}

-- both terms have the same value at the point, and both or neither are computable there
pub record Alike (defined : List Function) (point : List Val) (one other : Expr) : Type 0 where
  pub computed : computable defined [] point one ≡ computable defined [] point other
  pub means : meaning defined [] point one ≡ meaning defined [] point other

-- each term of the one list and that of the other
abbrev pub AllAlike : List Function → List Val → List Expr → List Expr → Type 0
AllAlike defined point [] [] = Unit {0}
AllAlike defined point [] (other ∷ others) = ⊥
AllAlike defined point (one ∷ ones) [] = ⊥
AllAlike defined point (one ∷ ones) (other ∷ others) = Alike defined point one other × AllAlike defined point ones others

pub record PartsAlike (defined : List Function) (point : List Val) (ones others : Exprs) : Type 0 where
  pub computed : all_computable defined [] point ones ≡ all_computable defined [] point others
  pub mean : meanings defined [] point ones ≡ meanings defined [] point others

front_alike : (defined : List Function) (point : List Val) (n : ℕ) (ones others : List Expr) → AllAlike defined point ones others → AllAlike defined point (take n ones) (take n others)
front_alike defined point zero ones others alike = tt
front_alike defined point (suc n) [] [] alike = tt
front_alike defined point (suc n) [] (other ∷ others) alike = absurd alike
front_alike defined point (suc n) (one ∷ ones) [] alike = absurd alike
front_alike defined point (suc n) (one ∷ ones) (other ∷ others) alike = (alike.0, front_alike defined point n ones others alike.1)

back_alike : (defined : List Function) (point : List Val) (n : ℕ) (ones others : List Expr) → AllAlike defined point ones others → AllAlike defined point (drop n ones) (drop n others)
back_alike defined point zero ones others alike = alike
back_alike defined point (suc n) [] [] alike = tt
back_alike defined point (suc n) [] (other ∷ others) alike = absurd alike
back_alike defined point (suc n) (one ∷ ones) [] alike = absurd alike
back_alike defined point (suc n) (one ∷ ones) (other ∷ others) alike = back_alike defined point n ones others alike.1

both : (a b c d : Bool) → a ≡ b → c ≡ d → (a && c) ≡ (b && d)
both a b c d first second = ap (λ (x : Bool). x && c) first ∙ ap (λ (x : Bool). b && x) second

same_applied : (defined : List Function) (point : List Val) (operator : _) (ones others : Exprs) → PartsAlike defined point ones others → Alike defined point (expr.Apply operator ones) (expr.Apply operator others)
unfolding meaning computable
same_applied defined point operator ones others alike = record {
  computed = both _ _ _ _ alike.computed (ap (fits operator) alike.mean);
  means = ap (op_value operator) alike.mean;
}

same_called : (defined : List Function) (point : List Val) (definition : ℕ) (ones others : Exprs) → PartsAlike defined point ones others → Alike defined point (expr.Invoke (Defined definition) ones) (expr.Invoke (Defined definition) others)
unfolding meaning computable
same_called defined point definition ones others alike = record {
  computed = both _ _ _ _ alike.computed (ap (can_call (function_of defined [] (Defined definition))) alike.mean);
  means = ap (called (function_of defined [] (Defined definition))) alike.mean;
}

mutual
  unfolding filled all_filled meaning meanings computable all_computable

  pub filled_alike : (defined : List Function) (point : List Val) (pattern : Pattern) (ones others : List Expr) → AllAlike defined point ones others → Alike defined point (filled pattern ones) (filled pattern others)
  filled_alike defined point (Constant value) ones others alike = record { computed = refl; means = refl }
  filled_alike defined point (Variable position) ones others alike = record { computed = refl; means = refl }
  filled_alike defined point (Occurrence nonterminal) [] [] alike = record { computed = refl; means = refl }
  filled_alike defined point (Occurrence nonterminal) [] (other ∷ others) alike = absurd alike
  filled_alike defined point (Occurrence nonterminal) (one ∷ ones) [] alike = absurd alike
  filled_alike defined point (Occurrence nonterminal) (one ∷ ones) (other ∷ others) alike = alike.0
  filled_alike defined point (Apply operator arguments) ones others alike = same_applied defined point operator _ _ (all_filled_alike defined point arguments ones others alike)
  filled_alike defined point (Invoke definition arguments) ones others alike = same_called defined point definition _ _ (all_filled_alike defined point arguments ones others alike)

  pub all_filled_alike : (defined : List Function) (point : List Val) (parts : Patterns) (ones others : List Expr) → AllAlike defined point ones others → PartsAlike defined point (all_filled parts ones) (all_filled parts others)
  all_filled_alike defined point patterns.none ones others alike = record { computed = refl; mean = refl }
  all_filled_alike defined point (patterns.more first rest) ones others alike =
      let one = filled_alike defined point first _ _ (front_alike defined point (length (occurring first)) ones others alike) in
      let more = all_filled_alike defined point rest _ _ (back_alike defined point (length (occurring first)) ones others alike) in
      record {
        computed = both _ _ _ _ one.computed more.computed;
        mean = ap (λ (v : Val). v ∷ meanings defined [] point (all_filled rest (drop (length (occurring first)) ones))) one.means ∙ ap (λ (vs : List Val). meaning defined [] point (filled first (take (length (occurring first)) others)) ∷ vs) more.mean;
      }

same_maps : {A B : Type 0} (f g : A → B) (xs : List A) → map f xs ≡ map g xs → All (λ x. f x ≡ g x) xs
same_maps f g [] e = All-nil (λ x. f x ≡ g x)
same_maps f g (x ∷ xs) e =
    let head : f x ≡ g x = cc in
    let tail : map f xs ≡ map g xs = cc in
    All-cons (λ x. f x ≡ g x) x xs head (same_maps f g xs tail)

maps_same : {A B : Type 0} (f g : A → B) (xs : List A) → All (λ x. f x ≡ g x) xs → map f xs ≡ map g xs
maps_same f g [] same = refl
maps_same f g (x ∷ xs) same =
    ap (λ y. y ∷ map f xs) (All-head (λ x. f x ≡ g x) x xs same) ∙ ap (λ ys. g x ∷ ys) (maps_same f g xs (All-tail (λ x. f x ≡ g x) x xs same))

-- terms of one row are alike at each point
pub rows_alike : (defined : List Function) (points : List (List Val)) (one other : Expr) (row : List Val) → IsRow defined points one row → IsRow defined points other row → All (λ point. Alike defined point one other) points
rows_alike defined points one other row first second =
    let means = same_maps (λ point. meaning defined [] point one) (λ point. meaning defined [] point other) points (sym first.is ∙ second.is) in
    λ k d within. record { computed = first.computable k d within ∙ sym (second.computable k d within); means = means k d within }

-- and terms that are alike at each point have one row
pub row_of_alike : (defined : List Function) (points : List (List Val)) (one other : Expr) (row : List Val) → All (λ point. Alike defined point one other) points → IsRow defined points other row → IsRow defined points one row
row_of_alike defined points one other row alike is = record {
  computable = λ k d within. (alike k d within).computed ∙ is.computable k d within;
  is = is.is ∙ maps_same (λ point. meaning defined [] point other) (λ point. meaning defined [] point one) points (λ k d within. sym (alike k d within).means);
}
