-- The first item that a test accepts, and the rule that is a choice.
use Rattle.std.proofs.Common.{◌≡◌, ℕ, zero, suc, ◌+◌, ◌<◌, ◌≤◌, List, [], ◌∷◌, ◌++◌, length, take, map, get_or, refl, ap, sym, subst, ◌∙◌, arith, Option, Some, slice_get, Bool, true, false, ◌&&◌}
use Rattle.std.specs.Prelude.{All, ◌^◌}
use Rattle.std.specs.Option.{option_map}
use Rattle.std.proofs.lemmas.List.Elements.{All-nil, All-push}
use Rattle.std.proofs.lemmas.Option.{slice_get-map, slice_get_within}
use Rattle.std.proofs.lemmas.List.{length-map}
use Rattle.sy_terms.specs.Values.{Val}
use Rattle.sy_terms.specs.declared.op.Op.{Op}
use Rattle.sy_terms.specs.declared.op.Op.TheVariants as ops
use Rattle.sy_grammar_base.specs.Patterns.{Patterns, Apply}
use Rattle.sy_grammar_base.specs.Trees.{IsNumbered, IsFirst, Template, start_rules, is_choice, are_choices, is_place, is_start}
use Rattle.sy_grammar_base.specs.Written.{pattern_of, patterns_of}
use Rattle.sy_grammar_base.specs.Grown.{nonterminal_of, production_of}
use Rattle.sy_grammar_base.specs.Formed.{syntax_with}
use Rattle.sy_grammar_base.specs.declared.part.Part.{Part}
use Rattle.sy_grammar_base.specs.declared.grammar.Non.{Non}
use Rattle.sy_grammar_base.specs.declared.grammar.Rule.{Rule}

pub choice_other : (operator : Op) (arguments : Patterns) → (operator ≡ ops.Ite → ⊥) → is_choice (Template (Apply operator arguments)) ≡ false
choice_other ops.Ite arguments other = absurd (other refl)
choice_other _ arguments other = refl

pub not_three : {T N : Type 0} (number : N → Val) (parts : List (Part T N)) → (length parts ≡ 3 → ⊥) → are_choices (patterns_of number parts) ≡ false
not_three number [] other = refl
not_three number (a ∷ []) other = refl
not_three number (a ∷ b ∷ []) other = refl
not_three number (a ∷ b ∷ c ∷ []) other = absurd (other refl)
not_three number (a ∷ b ∷ c ∷ d ∷ parts) other = refl

pub three : {T N : Type 0} (number : N → Val) (parts : List (Part T N)) (a b c : Part T N) → length parts ≡ 3 → a ≡ get_or parts 0 a → b ≡ get_or parts 1 b → c ≡ get_or parts 2 c →
    are_choices (patterns_of number parts) ≡ (is_place (pattern_of number a) && (is_start (pattern_of number b) && is_start (pattern_of number c)))
three number [] a b c long e f h = absurd (omega (arith, long))
three number (x ∷ []) a b c long e f h = absurd (omega (arith, long))
three number (x ∷ y ∷ []) a b c long e f h = absurd (omega (arith, long))
three number (x ∷ y ∷ z ∷ []) a b c long e f h = rw (e, f, h) refl
three number (x ∷ y ∷ z ∷ w ∷ parts) a b c long e f h = absurd (omega (arith, long))

-- the answer once the first two are known, or one of them is wrong
pub three_last : {T N : Type 0} (number : N → Val) (parts : List (Part T N)) (a b c : Part T N) → length parts ≡ 3 → a ≡ get_or parts 0 a → b ≡ get_or parts 1 b → c ≡ get_or parts 2 c →
    is_place (pattern_of number a) ≡ true → is_start (pattern_of number b) ≡ true → is_start (pattern_of number c) ≡ are_choices (patterns_of number parts)
three_last number parts a b c long e f h p q =
    sym (three number parts a b c long e f h ∙ ap (λ t. t && (is_start (pattern_of number b) && is_start (pattern_of number c))) p ∙ ap (λ t. t && is_start (pattern_of number c)) q)

pub three_second : {T N : Type 0} (number : N → Val) (parts : List (Part T N)) (a b : Part T N) → length parts ≡ 3 → a ≡ get_or parts 0 a → b ≡ get_or parts 1 b →
    is_place (pattern_of number a) ≡ true → is_start (pattern_of number b) ≡ false → are_choices (patterns_of number parts) ≡ false
three_second number [] a b long e f p q = absurd (omega (arith, long))
three_second number (x ∷ []) a b long e f p q = absurd (omega (arith, long))
three_second number (x ∷ y ∷ []) a b long e f p q = absurd (omega (arith, long))
three_second number (x ∷ y ∷ z ∷ []) a b long e f p q =
    three number (x ∷ y ∷ z ∷ []) a b z long e f refl ∙ ap (λ t. t && (is_start (pattern_of number b) && is_start (pattern_of number z))) p ∙ ap (λ t. t && is_start (pattern_of number z)) q
three_second number (x ∷ y ∷ z ∷ w ∷ parts) a b long e f p q = absurd (omega (arith, long))

pub three_first : {T N : Type 0} (number : N → Val) (parts : List (Part T N)) (a : Part T N) → length parts ≡ 3 → a ≡ get_or parts 0 a → is_place (pattern_of number a) ≡ false → are_choices (patterns_of number parts) ≡ false
three_first number [] a long e p = absurd (omega (arith, long))
three_first number (x ∷ []) a long e p = absurd (omega (arith, long))
three_first number (x ∷ y ∷ []) a long e p = absurd (omega (arith, long))
three_first number (x ∷ y ∷ z ∷ []) a long e p =
    three number (x ∷ y ∷ z ∷ []) a y z long e refl refl ∙ ap (λ t. t && (is_start (pattern_of number y) && is_start (pattern_of number z))) p
three_first number (x ∷ y ∷ z ∷ w ∷ parts) a long e p = absurd (omega (arith, long))

-- no item before the place is accepted
abbrev pub NoneBefore : {A : Type 0} → (A → Bool) → List A → ℕ → Type 0
NoneBefore accepts items place = All (λ item. accepts item ≡ false) (take place items)

take_one : {A : Type 0} (items : List A) (place : ℕ) (item : A) → slice_get items place ≡ Some item → take (place + 1) items ≡ take place items ++ item ∷ []
take_one [] place item at = absurd (let h = slice_get_within [] place item at in omega arith)
take_one (x ∷ items) zero item at = let same : x ≡ item = cc in ap (λ y. y ∷ []) same
take_one (x ∷ items) (suc place) item at =
    ap (λ n. take n (x ∷ items)) (let same : suc place + 1 ≡ suc (place + 1) = omega arith in same) ∙ ap (λ (rest : List _). x ∷ rest) (take_one items place item at)

take_all : {A : Type 0} (items : List A) (place : ℕ) → length items ≤ place → take place items ≡ items
take_all [] zero past = refl
take_all [] (suc place) past = refl
take_all (x ∷ items) zero past = absurd (omega arith)
take_all (x ∷ items) (suc place) past = ap (λ (rest : List _). x ∷ rest) (take_all items place (omega arith))

pub none_first : {A : Type 0} (accepts : A → Bool) (items : List A) → NoneBefore accepts items 0
none_first accepts [] = All-nil (λ item. accepts item ≡ false)
none_first accepts (x ∷ items) = All-nil (λ item. accepts item ≡ false)

at_rule : {T N : Type 0} (number : N → Val) (rules : List (Rule T N)) (place : ℕ) (rule : Rule T N) → slice_get rules place ≡ Some rule → slice_get (map (production_of number) rules) place ≡ Some (production_of number rule)
at_rule number rules place rule at = slice_get-map (production_of number) rules place ∙ ap (λ (o : Option (Rule _ _)). option_map (production_of number) o) at

pub none_next : {T N : Type 0} (number : N → Val) (rules : List (Rule T N)) (place : ℕ) (rule : Rule T N) → slice_get rules place ≡ Some rule → is_choice (production_of number rule) ≡ false → NoneBefore is_choice (map (production_of number) rules) place → NoneBefore is_choice (map (production_of number) rules) (place + 1)
none_next number rules place rule at other before =
    subst (All (λ r. is_choice r ≡ false)) (sym (take_one (map (production_of number) rules) place (production_of number rule) (at_rule number rules place rule at)))
    (All-push (λ r. is_choice r ≡ false) (take place (map (production_of number) rules)) (production_of number rule) before other)

pub none_at_all : {T N : Type 0} (number : N → Val) (rules : List (Rule T N)) (place : ℕ) → length rules ≤ place → NoneBefore is_choice (map (production_of number) rules) place → All (λ r. is_choice r ≡ false) (map (production_of number) rules)
none_at_all number rules place past before = subst (All (λ r. is_choice r ≡ false)) (take_all (map (production_of number) rules) place (omega (arith, length-map rules (production_of number), past))) before

pub found_first : {T N : Type 0} (number : N → Val) (rules : List (Rule T N)) (place : ℕ) (rule : Rule T N) → slice_get rules place ≡ Some rule → is_choice (production_of number rule) ≡ true → NoneBefore is_choice (map (production_of number) rules) place → IsFirst is_choice (map (production_of number) rules) place
found_first number rules place rule at is before = record { item = production_of number rule; at = at_rule number rules place rule at; accepted = is; before = before }

-- the rules of the start symbol
pub start_is : {T N : Type 0} (number : N → Val) (args : List _) (nons : List (Non T N)) (start : Non T N) → slice_get nons 0 ≡ Some start → map (production_of number) start.rules ≡ start_rules (syntax_with number args nons).nonterminals
start_is number args [] start at = absurd cc
start_is number args (non ∷ nons) start at = let same : non ≡ start = cc in ap (λ (n : Non _ _). map (production_of number) n.rules) (sym same)

pub no_start : {T N : Type 0} (number : N → Val) (args : List _) (nons : List (Non T N)) → length nons ≤ 0 → All (λ r. is_choice r ≡ false) (start_rules (syntax_with number args nons).nonterminals)
no_start number args [] none = All-nil (λ r. is_choice r ≡ false)
no_start number args (non ∷ nons) none = absurd (omega (arith, none))

pub start_few : {T N : Type 0} (number : N → Val) (args : List _) (nons : List (Non T N)) (start : Non T N) → IsNumbered (syntax_with number args nons) → slice_get nons 0 ≡ Some start → length start.rules < 2 ^ 31
start_few number args nons start numbered at =
    let rules = numbered.rules 0 (nonterminal_of number start) (slice_get-map (nonterminal_of number) nons 0 ∙ ap (λ (o : Option (Non _ _)). option_map (nonterminal_of number) o) at) in
    omega (arith, rules, length-map start.rules (production_of number))
