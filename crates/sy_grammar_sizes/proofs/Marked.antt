-- Nonterminals without a mark that chain rules of marked ones name.
use Rattle.std.proofs.Common.{◌≡◌, ℕ, ◌+◌, ◌<◌, ◌≤◌, List, length, map, ap, sym, ◌∙◌, arith, Bool, true, false, Some, slice_get, ◌⊎◌, inl, inr}
use Rattle.std.proofs.lemmas.List.{length-map}
use Rattle.std.proofs.lemmas.Option.{slice_get_past}
use Rattle.sy_terms.specs.Values.{Val}
use Rattle.sy_grammar_base.specs.Trees.{rule_at, rule_of}
use Rattle.sy_grammar_base.specs.Grown.{production_of, nonterminal_of, syntax_from}
use Rattle.sy_grammar_base.specs.declared.grammar.Non.{Non}
use Rattle.sy_grammar_base.specs.declared.grammar.Grammar.{Grammar}
use Rattle.sy_grammar_sizes.specs.Chains.{IsChain}
use Rattle.sy_grammar_sizes.specs.Marking.{AreFull, AreMarked, IsNamed, IsNextMark}
use Rattle.sy_grammar_sizes.proofs.Lists.{rule_at-is}

-- what a rule of a marked nonterminal names is the next to be marked
pub next_is : {T N : Type 0} (number : N → Val) (grammar : Grammar T N) (marks : List Bool) (from : ℕ) (item : Non T N) (to : ℕ) → slice_get grammar.nons from ≡ Some item → slice_get marks from ≡ Some true →
    IsNamed (map (production_of number) item.rules) marks to → IsNextMark (syntax_from number grammar) marks to
next_is number grammar marks from item to at marked named = record {
  from = from;
  marked = marked;
  chain = (named.rule, rule_at-is number grammar from named.rule item at ∙ named.at);
  unset = named.unset;
}

-- one nonterminal more whose rules name nothing without a mark
pub next_more : {T N : Type 0} (number : N → Val) (grammar : Grammar T N) (marks : List Bool) (place : ℕ) (item : Non T N) →
    ((from to : ℕ) → from < place → slice_get marks from ≡ Some true → IsChain (syntax_from number grammar) from to → slice_get marks to ≡ Some false → ⊥) → slice_get grammar.nons place ≡ Some item →
    (slice_get marks place ≡ Some true → AreMarked (map (production_of number) item.rules) marks) →
    (from to : ℕ) → from < place + 1 → slice_get marks from ≡ Some true → IsChain (syntax_from number grammar) from to → slice_get marks to ≡ Some false → ⊥
next_more number grammar marks place item before at none from to less marked chain not = elim (least from place less) [
  | inl lt ↦ before from to lt marked chain not
  | inr same ↦ none (ap (slice_get marks) (sym same) ∙ marked) chain.0 to (sym (rule_at-is number grammar place chain.0 item at) ∙ ap (λ n. rule_at (syntax_from number grammar) n chain.0) (sym same) ∙ chain.1) not
]
  where
    least : (a b : ℕ) → a < b + 1 → (a < b) ⊎ (a ≡ b)
    least a b less = grind arith

-- all of them
pub next_done : {T N : Type 0} (number : N → Val) (grammar : Grammar T N) (marks : List Bool) (count : ℕ) → length grammar.nons ≤ count →
    ((from to : ℕ) → from < count → slice_get marks from ≡ Some true → IsChain (syntax_from number grammar) from to → slice_get marks to ≡ Some false → ⊥) → AreFull (syntax_from number grammar) marks
next_done number grammar marks count all before from to marked chain not = elim (order from count) [
  | inl lt ↦ before from to lt marked chain not
  | inr past ↦
      let sized = length-map grammar.nons (nonterminal_of number) in
      let gone = ap (λ found. rule_of found chain.0) (slice_get_past (syntax_from number grammar).nonterminals from (omega (arith, past, all, sized))) in
      let there = chain.1 in
      cc
]
  where
    order : (a b : ℕ) → (a < b) ⊎ (b ≤ a)
    order a b = grind arith
