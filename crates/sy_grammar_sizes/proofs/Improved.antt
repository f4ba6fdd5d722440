-- Rules that give no more than what is known.
use Rattle.std.proofs.Common.{◌≡◌, ℕ, ◌+◌, ◌<◌, ◌≤◌, List, length, map, ap, sym, ◌∙◌, arith, subst, Option, Some, slice_get, ◌⊎◌, inl, inr}
use Rattle.std.proofs.lemmas.List.{length-map}
use Rattle.std.proofs.lemmas.Option.{slice_get_past, slice_get_within}
use Rattle.sy_terms.specs.Values.{Val}
use Rattle.sy_grammar_base.specs.Patterns.{Pattern}
use Rattle.sy_grammar_base.specs.Trees.{Production, Template, rule_at, rule_of}
use Rattle.sy_grammar_base.specs.Grown.{production_of, nonterminal_of, syntax_from}
use Rattle.sy_grammar_base.specs.declared.grammar.Non.{Non}
use Rattle.sy_grammar_base.specs.declared.grammar.Grammar.{Grammar}
use Rattle.sy_grammar_sizes.specs.Tables.{table_entry, pattern_size, Exceeds, IsImproved, IsImprovedBy}
use Rattle.sy_grammar_sizes.proofs.Lists.{rule_at-is}

least : (a b : ℕ) → a < b + 1 → (a < b) ⊎ (a ≡ b)
least a b h = grind arith

-- the rule doesn't give more
abbrev pub GivesNone : Production → ℕ → List (Option ℕ) → Option ℕ → Type 0
GivesNone production limit table known = (pattern : Pattern) (size : ℕ) → production ≡ Template pattern → pattern_size limit table pattern ≡ Some size → Exceeds known size → ⊥

-- one rule more that doesn't
pub rules_more : (productions : List Production) (limit : ℕ) (table : List (Option ℕ)) (known : Option ℕ) (place : ℕ) (production : Production) →
    ((rule : ℕ) (pattern : Pattern) (size : ℕ) → rule < place → slice_get productions rule ≡ Some (Template pattern) → pattern_size limit table pattern ≡ Some size → Exceeds known size → ⊥) →
    slice_get productions place ≡ Some production → GivesNone production limit table known →
    (rule : ℕ) (pattern : Pattern) (size : ℕ) → rule < place + 1 → slice_get productions rule ≡ Some (Template pattern) → pattern_size limit table pattern ≡ Some size → Exceeds known size → ⊥
rules_more productions limit table known place production before at none rule pattern size less found is larger = elim (least rule place less) [
  | inl lt ↦ before rule pattern size lt found is larger
  | inr same ↦ none pattern size (let here = sym at ∙ ap (slice_get productions) (sym same) ∙ found in cc) is larger
]

pub rules_done : (productions : List Production) (limit : ℕ) (table : List (Option ℕ)) (known : Option ℕ) (count : ℕ) → length productions ≤ count →
    ((rule : ℕ) (pattern : Pattern) (size : ℕ) → rule < count → slice_get productions rule ≡ Some (Template pattern) → pattern_size limit table pattern ≡ Some size → Exceeds known size → ⊥) →
    (size : ℕ) → IsImprovedBy productions limit table known size → ⊥
rules_done productions limit table known count all none size improved =
    let within = slice_get_within productions improved.rule (Template improved.pattern) improved.at in
    none improved.rule improved.pattern size (omega (arith, within, all)) improved.at improved.is improved.larger

pub gives_none : (production : Production) (limit : ℕ) (table : List (Option ℕ)) (known : Option ℕ) (pattern : Pattern) (size : ℕ) → production ≡ Template pattern → pattern_size limit table pattern ≡ Some size → (Exceeds known size → ⊥) → GivesNone production limit table known
gives_none production limit table known pattern size is sized not other otherwise other_is other_sized larger =
    let same : pattern ≡ other = (let both = sym is ∙ other_is in cc) in
    let sizes : size ≡ otherwise = (let both = sym sized ∙ ap (pattern_size limit table) same ∙ other_sized in cc) in
    not (subst (Exceeds known) (sym sizes) larger)

pub improved_is : {T N : Type 0} (number : N → Val) (grammar : Grammar T N) (limit : ℕ) (table : List (Option ℕ)) (place : ℕ) (item : Non T N) (known : Option ℕ) (size : ℕ) → slice_get grammar.nons place ≡ Some item → known ≡ table_entry table place →
    IsImprovedBy (map (production_of number) item.rules) limit table known size → IsImproved (syntax_from number grammar) limit table place size
improved_is number grammar limit table place item known size at is improved = record {
  rule = improved.rule;
  pattern = improved.pattern;
  at = rule_at-is number grammar place improved.rule item at ∙ improved.at;
  is = improved.is;
  larger = subst (λ k. Exceeds k size) is improved.larger;
}

-- one nonterminal more that isn't improved
pub improved_more : {T N : Type 0} (number : N → Val) (grammar : Grammar T N) (limit : ℕ) (table : List (Option ℕ)) (place : ℕ) (item : Non T N) (known : Option ℕ) →
    ((nonterminal size : ℕ) → nonterminal < place → IsImproved (syntax_from number grammar) limit table nonterminal size → ⊥) → slice_get grammar.nons place ≡ Some item → known ≡ table_entry table place →
    ((size : ℕ) → IsImprovedBy (map (production_of number) item.rules) limit table known size → ⊥) →
    (nonterminal size : ℕ) → nonterminal < place + 1 → IsImproved (syntax_from number grammar) limit table nonterminal size → ⊥
improved_more number grammar limit table place item known before at is none nonterminal size less improved = elim (least nonterminal place less) [
  | inl lt ↦ before nonterminal size lt improved
  | inr same ↦ none size (record {
    rule = improved.rule;
    pattern = improved.pattern;
    at = sym (rule_at-is number grammar place improved.rule item at) ∙ ap (λ n. rule_at (syntax_from number grammar) n improved.rule) (sym same) ∙ improved.at;
    is = improved.is;
    larger = subst (λ k. Exceeds k size) (ap (table_entry table) same ∙ sym is) improved.larger;
  })
]

pub improved_done : {T N : Type 0} (number : N → Val) (grammar : Grammar T N) (limit : ℕ) (table : List (Option ℕ)) (count : ℕ) → length grammar.nons ≤ count →
    ((nonterminal size : ℕ) → nonterminal < count → IsImproved (syntax_from number grammar) limit table nonterminal size → ⊥) →
    (nonterminal size : ℕ) → IsImproved (syntax_from number grammar) limit table nonterminal size → ⊥
improved_done number grammar limit table count all none nonterminal size improved = elim (order nonterminal count) [
  | inl lt ↦ none nonterminal size lt improved
  | inr past ↦
      let sized = length-map grammar.nons (nonterminal_of number) in
      let gone = ap (λ found. rule_of found improved.rule) (slice_get_past (syntax_from number grammar).nonterminals nonterminal (omega (arith, past, all, sized))) in
      let there = improved.at in
      cc
]
  where
    order : (a b : ℕ) → (a < b) ⊎ (b ≤ a)
    order a b = grind arith
