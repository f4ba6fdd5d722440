-- Rules of a grammar and of what it stands for.
use Rattle.std.proofs.Common.{◌≡◌, ℕ, ◌+◌, ◌<◌, ◌≤◌, List, length, map, ap, sym, ◌∙◌, arith, Option, Some, None, slice_get, subst, ◌⊎◌, inl, inr}
use Rattle.std.specs.Prelude.{◌^◌}
use Rattle.std.specs.Option.{option_map}
use Rattle.std.proofs.lemmas.Option.{slice_get-map, slice_get_within}
use Rattle.std.proofs.lemmas.List.{length-map}
use Rattle.sy_terms.specs.Values.{Val}
use Rattle.sy_terms.specs.Expr.{Expr}
use Rattle.sy_terms.specs.declared.sort.Sort.{Sort}
use Rattle.sy_grammar_base.specs.Trees.{Production, rule_at, rule_of, IsNumbered}
use Rattle.sy_grammar_base.specs.Grown.{production_of, nonterminal_of, syntax_from}
use Rattle.sy_grammar_base.specs.declared.grammar.Rule.{Rule}
use Rattle.sy_grammar_base.specs.declared.grammar.Non.{Non}
use Rattle.sy_grammar_base.specs.declared.grammar.Grammar.{Grammar}
use Rattle.sy_grammar.specs.Notes.{Notes}
use Rattle.sy_grammar.specs.Rows.{MakesNone, IsMade, IsMadeBy, IsMadeByNone, RowIsClosed}
use Rattle.sy_grammar.specs.declared.step.Step.{Step}

mapped_at : {A B : Type 0} (f : A → B) (xs : List A) (i : ℕ) (x : A) → slice_get xs i ≡ Some x → slice_get (map f xs) i ≡ Some (f x)
mapped_at f xs i x at = slice_get-map f xs i ∙ ap (option_map f) at

module _ {T N : Type 0} (number : N → Val) where
  pub rule_at-is : (grammar : Grammar T N) (place rule : ℕ) (item : Non T N) → slice_get grammar.nons place ≡ Some item → rule_at (syntax_from number grammar) place rule ≡ slice_get (map (production_of number) item.rules) rule
  rule_at-is grammar place rule item at = ap (λ o. rule_of o rule) (mapped_at (nonterminal_of number) grammar.nons place item at)

  pub rules_numbered : (grammar : Grammar T N) (place : ℕ) (item : Non T N) → IsNumbered (syntax_from number grammar) → slice_get grammar.nons place ≡ Some item → length item.rules < 2 ^ 32
  rules_numbered grammar place item numbered at =
      let h = numbered.rules place (nonterminal_of number item) (mapped_at (nonterminal_of number) grammar.nons place item at) in
      let k = length-map item.rules (production_of number) in
      omega (arith, h, k)

  pub nonterminals_length : (grammar : Grammar T N) → length grammar.nons ≡ length (syntax_from number grammar).nonterminals
  nonterminals_length grammar = sym (length-map grammar.nons (nonterminal_of number))

  -- a rule that makes nothing after those that make nothing
  pub none_more : (rules : List (Rule T N)) (arguments : List Sort) (term : Expr) (row : List (Option ℕ)) (below : Notes) (place : ℕ) (rule : Rule T N) →
      ((k : ℕ) (production : Production) → k < place → slice_get (map (production_of number) rules) k ≡ Some production → MakesNone arguments term row below production) →
      slice_get rules place ≡ Some rule → MakesNone arguments term row below (production_of number rule) →
      (k : ℕ) (production : Production) → k < place + 1 → slice_get (map (production_of number) rules) k ≡ Some production → MakesNone arguments term row below production
  none_more rules arguments term row below place rule before at none k production less found = elim (least k place less) [
    | inl lt ↦ before k production lt found
    | inr same ↦
        let here : Some (production_of number rule) ≡ Some production = sym (mapped_at (production_of number) rules place rule at) ∙ ap (slice_get (map (production_of number) rules)) (sym same) ∙ found in
        let is : production_of number rule ≡ production = cc in
        subst (MakesNone arguments term row below) is none
  ]
    where
      least : (a b : ℕ) → a < b + 1 → (a < b) ⊎ (a ≡ b)
      least a b h = grind arith

  pub no_rules_more : (grammar : Grammar T N) (term : Expr) (row : List (Option ℕ)) (below : Notes) (place : ℕ) (item : Non T N) (arguments : List Sort) (rules : List (Rule T N)) →
      ((n rule : ℕ) (production : Production) → n < place → slice_get row n ≡ Some None → rule_at (syntax_from number grammar) n rule ≡ Some production → MakesNone grammar.args term row below production) →
      slice_get grammar.nons place ≡ Some item → arguments ≡ grammar.args → rules ≡ item.rules → IsMadeByNone arguments (map (production_of number) rules) term row below →
      (n rule : ℕ) (production : Production) → n < place + 1 → slice_get row n ≡ Some None → rule_at (syntax_from number grammar) n rule ≡ Some production → MakesNone grammar.args term row below production
  no_rules_more grammar term row below place item arguments rules before at same_arguments same_rules none n rule production less empty found = elim (least n place less) [
    | inl lt ↦ before n rule production lt empty found
    | inr same ↦
        let in_rules : slice_get (map (production_of number) rules) rule ≡ Some production =
        ap (λ r. slice_get (map (production_of number) r) rule) same_rules ∙ sym (rule_at-is grammar place rule item at) ∙ ap (λ p. rule_at (syntax_from number grammar) p rule) (sym same) ∙ found in
        subst (λ a. MakesNone a term row below production) same_arguments (none rule production in_rules)
  ]
    where
      least : (a b : ℕ) → a < b + 1 → (a < b) ⊎ (a ≡ b)
      least a b h = grind arith

  pub full_more : (grammar : Grammar T N) (term : Expr) (row : List (Option ℕ)) (below : Notes) (place : ℕ) →
      ((n rule : ℕ) (production : Production) → n < place → slice_get row n ≡ Some None → rule_at (syntax_from number grammar) n rule ≡ Some production → MakesNone grammar.args term row below production) →
      (slice_get row place ≡ Some None → ⊥) →
      (n rule : ℕ) (production : Production) → n < place + 1 → slice_get row n ≡ Some None → rule_at (syntax_from number grammar) n rule ≡ Some production → MakesNone grammar.args term row below production
  full_more grammar term row below place before full n rule production less empty found = elim (least n place less) [
    | inl lt ↦ before n rule production lt empty found
    | inr same ↦ absurd (full (ap (slice_get row) (sym same) ∙ empty))
  ]
    where
      least : (a b : ℕ) → a < b + 1 → (a < b) ⊎ (a ≡ b)
      least a b h = grind arith

  pub closed : (grammar : Grammar T N) (term : Expr) (row : List (Option ℕ)) (below : Notes) (place : ℕ) →
      ((n rule : ℕ) (production : Production) → n < place → slice_get row n ≡ Some None → rule_at (syntax_from number grammar) n rule ≡ Some production → MakesNone grammar.args term row below production) →
      length grammar.nons ≤ place → length row ≡ length grammar.nons → RowIsClosed (syntax_from number grammar) term row below
  closed grammar term row below place before all sized = record {
    sized = sized ∙ nonterminals_length grammar;
    none = λ n rule production empty found. let h = slice_get_within row n None empty in before n rule production (omega (arith, h, sized, all)) empty found;
  }

  pub made : (grammar : Grammar T N) (term : Expr) (row : List (Option ℕ)) (below : Notes) (place : ℕ) (item : Non T N) (arguments : List Sort) (rules : List (Rule T N)) (step : Step T N) →
      slice_get grammar.nons place ≡ Some item → arguments ≡ grammar.args → rules ≡ item.rules → IsMadeBy number arguments (map (production_of number) rules) term row below step → IsMade number (syntax_from number grammar) place term row below step
  made grammar term row below place item arguments rules step at same_arguments same_rules by =
      let in_rules = subst (λ r. IsMadeBy number arguments (map (production_of number) r) term row below step) same_rules by in
      let found = subst (λ a. IsMadeBy number a (map (production_of number) item.rules) term row below step) same_arguments in_rules in
      record { rule = found.rule; production = found.production; at = rule_at-is grammar place found.rule item at ∙ found.at; makes = found.makes }
