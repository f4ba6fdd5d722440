-- The rule by which a grammar makes conditional trees.
use Rattle.std.specs.Prelude.{ℕ, zero, suc, ◌≡◌, ◌≤◌, ◌&&◌, Bool, true, false, List, [], ◌∷◌, length, map, slice_get, Option, Some, None, MatchOption, All, Contains, refl}
use Rattle.std.proofs.Common.{ap, sym, ◌∙◌, arith}
use Rattle.std.specs.Option.{option_map}
use Rattle.std.proofs.lemmas.Bool.{eqb-true, true≢false}
use Rattle.std.proofs.lemmas.List.{length-map}
use Rattle.std.proofs.lemmas.Option.{slice_get-map, slice_get_within}
use Rattle.std.proofs.lemmas.List.Elements.{All-contains}
use Rattle.sy_terms.specs.Values.{Val}
use Rattle.sy_terms.specs.declared.op.Op.{Op}
use Rattle.sy_terms.specs.declared.op.Op.TheVariants as ops
use Rattle.sy_grammar_base.specs.Patterns.{Pattern, Patterns, Constant, Variable, Occurrence, Apply, Invoke, none, more}
use Rattle.sy_grammar_base.specs.Trees.{Production, Template, EachConstant, EachVariable, Syntax, Nonterminal, IsFirst, is_choice, are_choices, is_place, is_start, start_rules, template, rule_of}
use Rattle.sy_grammar_base.specs.Grown.{production_of, syntax_from}
use Rattle.sy_grammar_base.specs.declared.grammar.Grammar.{Grammar}
use Rattle.sy_grammar_base.specs.declared.grammar.Non.{Non}
use Rattle.sy_grammar_base.specs.declared.grammar.Rule.{Rule}
use Rattle.sy_grammar_base.specs.Written.{pattern_of, patterns_of}
use Rattle.sy_grammar_base.specs.declared.part.Part.{Part}
use Rattle.sy_loop_trees.specs.Conditions.{HasNoTrees, IsConditionOf, first_nonterminal, pattern_nonterminal, tested_by}

both_left : (a b : Bool) → (a && b) ≡ true → a ≡ true
both_left true b is = refl
both_left false b is = is

both_right : (a b : Bool) → (a && b) ≡ true → b ≡ true
both_right true b is = is
both_right false b is = absurd (true≢false (sym is))

-- the arguments of a choice by this nonterminal
abbrev choices_by : ℕ → Patterns
choices_by condition = more (Occurrence condition) (more (Occurrence 0) (more (Occurrence 0) none))

place_is : (pattern : Pattern) → is_place pattern ≡ true → (nonterminal : ℕ) × (pattern ≡ Occurrence nonterminal)
place_is (Constant value) is = absurd (true≢false (sym is))
place_is (Variable position) is = absurd (true≢false (sym is))
place_is (Occurrence nonterminal) is = (nonterminal, refl)
place_is (Apply operator arguments) is = absurd (true≢false (sym is))
place_is (Invoke function arguments) is = absurd (true≢false (sym is))

start_is : (pattern : Pattern) → is_start pattern ≡ true → pattern ≡ Occurrence 0
start_is (Constant value) is = absurd (true≢false (sym is))
start_is (Variable position) is = absurd (true≢false (sym is))
start_is (Occurrence nonterminal) is = ap Occurrence (eqb-true nonterminal 0 is)
start_is (Apply operator arguments) is = absurd (true≢false (sym is))
start_is (Invoke function arguments) is = absurd (true≢false (sym is))

choices_are : (arguments : Patterns) → are_choices arguments ≡ true → (condition : ℕ) × (arguments ≡ choices_by condition)
choices_are none is = absurd (true≢false (sym is))
choices_are (more a none) is = absurd (true≢false (sym is))
choices_are (more a (more b none)) is = absurd (true≢false (sym is))
choices_are (more a (more b (more c none))) is =
    let place = place_is a (both_left (is_place a) (is_start b && is_start c) is) in
    let starts = both_right (is_place a) (is_start b && is_start c) is in
    let first = start_is b (both_left (is_start b) (is_start c) starts) in
    let second = start_is c (both_right (is_start b) (is_start c) starts) in
    (place.0, ap (λ p. more p (more b (more c none))) place.1 ∙ ap (λ p. more (Occurrence place.0) (more p (more c none))) first ∙ ap (λ p. more (Occurrence place.0) (more (Occurrence 0) (more p none))) second)
choices_are (more a (more b (more c (more d rest)))) is = absurd (true≢false (sym is))

choice_is : (rule : Production) → is_choice rule ≡ true → (condition : ℕ) × (rule ≡ Template (Apply ops.Ite (choices_by condition)))
choice_is (EachConstant sort) is = absurd (true≢false (sym is))
choice_is (EachVariable sort) is = absurd (true≢false (sym is))
choice_is (Template (Constant value)) is = absurd (true≢false (sym is))
choice_is (Template (Variable position)) is = absurd (true≢false (sym is))
choice_is (Template (Occurrence nonterminal)) is = absurd (true≢false (sym is))
choice_is (Template (Invoke function arguments)) is = absurd (true≢false (sym is))
choice_is (Template (Apply operator arguments)) is = applied operator arguments is
  where
    applied : (operator : Op) (arguments : Patterns) → is_choice (Template (Apply operator arguments)) ≡ true → (condition : ℕ) × (Template (Apply operator arguments) ≡ Template (Apply ops.Ite (choices_by condition)))
    applied ops.Ite arguments is = let are = choices_are arguments is in (are.0, ap (λ all. Template (Apply ops.Ite all)) are.1)
    applied _ arguments is = absurd (true≢false (sym is))

-- what stands first in an operator's pattern
module _ {T N : Type 0} (number : N → Val) (operator : Op) where
  pub first_is : (parts : List (Part T N)) (part : Part T N) → slice_get parts 0 ≡ Some part → first_nonterminal (Apply operator (patterns_of number parts)) ≡ pattern_nonterminal (pattern_of number part)
  first_is [] part at = absurd (cc)
  first_is (first ∷ parts) part at = let same : first ≡ part = cc in ap (λ (p : Part T N). pattern_nonterminal (pattern_of number p)) same

  pub no_first : (parts : List (Part T N)) → length parts ≤ 0 → first_nonterminal (Apply operator (patterns_of number parts)) ≡ None
  no_first [] empty = refl
  no_first (first ∷ parts) empty = absurd (omega (arith, empty))

-- where no rule is a choice, no rule makes trees
pub none_chooses : (syntax : Syntax) → All (λ rule. is_choice rule ≡ false) (start_rules syntax.nonterminals) → HasNoTrees syntax
none_chooses syntax all rule condition chooses =
    let item = chooses.first.item in
    true≢false (sym chooses.first.accepted ∙ All-contains (λ r. is_choice r ≡ false) (start_rules syntax.nonterminals) item all (placed (start_rules syntax.nonterminals) rule item chooses.first.at))
  where
    placed : {A : Type 0} (xs : List A) (k : ℕ) (x : A) → slice_get xs k ≡ Some x → Contains xs x
    placed [] k x at = absurd (cc)
    placed (y ∷ xs) zero x at = let same : y ≡ x = cc in (0, omega arith, same)
    placed (y ∷ xs) (suc k) x at = let below = placed xs k x at in let within = below.1 in (suc below.0, omega (arith, within), below.2)

-- the start symbol's rules are those of the first nonterminal
pub rule_is : (syntax : Syntax) (place : ℕ) → slice_get (start_rules syntax.nonterminals) place ≡ rule_of (slice_get syntax.nonterminals 0) place
rule_is syntax place = there syntax.nonterminals place
  where
    there : (nonterminals : List Nonterminal) (place : ℕ) → slice_get (start_rules nonterminals) place ≡ rule_of (slice_get nonterminals 0) place
    there [] place = refl
    there (start ∷ others) place = refl

-- the first choice makes trees, by the nonterminal that stands first in it
first_tests : (syntax : Syntax) (place : ℕ) (rule : Production) → IsFirst is_choice (start_rules syntax.nonterminals) place → slice_get (start_rules syntax.nonterminals) place ≡ Some rule →
    (condition : ℕ) × (tested_by rule ≡ Some condition) × IsConditionOf syntax condition
first_tests syntax place rule first at =
    let same : rule ≡ first.item = let there = first.at in cc in
    let is = choice_is rule (ap is_choice same ∙ first.accepted) in (
      is.0,
      ap tested_by is.1,
      record {
        rule = place;
        chooses = record { first = first; is = ap template (sym (rule_is syntax place) ∙ at ∙ ap Some is.1) };
      },
    )

-- so what stands first in the rule at the place of the first choice is the nonterminal of the conditions
pub first_told : (syntax : Syntax) (place : ℕ) (found : Option ℕ) → IsFirst is_choice (start_rules syntax.nonterminals) place → ((rule : Production) → slice_get (start_rules syntax.nonterminals) place ≡ Some rule → found ≡ tested_by rule) →
    MatchOption found (HasNoTrees syntax) (IsConditionOf syntax)
first_told syntax place found first tells =
    let tests = first_tests syntax place first.item first first.at in
    rw (tells first.item first.at, tests.1) tests.2

-- what stands in a grammar's start symbol
module _ {T N : Type 0} (number : N → Val) (grammar : Grammar T N) where
  start_at : (start : Non T N) (place : ℕ) (rule : Rule T N) → slice_get grammar.nons 0 ≡ Some start → slice_get start.rules place ≡ Some rule →
      slice_get (start_rules (syntax_from number grammar).nonterminals) place ≡ Some (production_of number rule)
  start_at start place rule at found = within grammar.nons at
    where
      within : (nons : List (Non T N)) → slice_get nons 0 ≡ Some start → slice_get (start_rules (syntax_from number (record { args = grammar.args; nons = nons })).nonterminals) place ≡ Some (production_of number rule)
      within [] at = absurd (cc)
      within (non ∷ nons) at =
          let same : non ≡ start = cc in
          slice_get-map (production_of number) non.rules place ∙ ap (λ (n : Non T N). option_map (production_of number) (slice_get n.rules place)) same ∙ ap (λ (r : Option (Rule T N)). option_map (production_of number) r) found

  -- what a rule of the start symbol tells
  pub told_at : (start : Non T N) (place : ℕ) (rule : Rule T N) (found : Option ℕ) → slice_get grammar.nons 0 ≡ Some start → slice_get start.rules place ≡ Some rule → found ≡ tested_by (production_of number rule) →
      (production : Production) → slice_get (start_rules (syntax_from number grammar).nonterminals) place ≡ Some production → found ≡ tested_by production
  told_at start place rule found at within is production there =
      let here = start_at start place rule at within in
      let same : production_of number rule ≡ production = cc in
      is ∙ ap tested_by same

  -- past the last rule
  pub none_at : (start : Non T N) (place : ℕ) → slice_get grammar.nons 0 ≡ Some start → length start.rules ≤ place →
      (production : Production) → slice_get (start_rules (syntax_from number grammar).nonterminals) place ≡ Some production → ⊥
  none_at start place at beyond production there = within grammar.nons at there
    where
      within : (nons : List (Non T N)) → slice_get nons 0 ≡ Some start → slice_get (start_rules (syntax_from number (record { args = grammar.args; nons = nons })).nonterminals) place ≡ Some production → ⊥
      within [] at there = absurd (cc)
      within (non ∷ nons) at there =
          let same : non ≡ start = cc in
          omega (arith, beyond, ap (λ (n : Non T N). length n.rules) same, length-map non.rules (production_of number), slice_get_within (map (production_of number) non.rules) place production there)
