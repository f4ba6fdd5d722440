-- Which factors vary.
use Rattle.std.proofs.Common.{◌≡◌, ℕ, ◌+◌, List, [], ◌∷◌, ◌++◌, length, map, refl, ap, sym, ◌∙◌, arith, Option, Some, slice_get, Bool, true, false, take, get_or, ◌<◌}
use Rattle.std.proofs.lemmas.List.{take_more}
use Rattle.std.specs.Prelude.{if◌then◌else◌, ◌≤◌}
use Rattle.std.specs.Option.{option_map}
use Rattle.std.specs.List.{list_all}
use Rattle.std.proofs.lemmas.Option.{slice_get-map, slice_get_past}
use Rattle.sy_terms.specs.Values.{Val}
use Rattle.sy_terms.specs.declared.op.Op.{Op}
use Rattle.sy_terms.specs.declared.op.Op.TheVariants as ops
use Rattle.sy_grammar_base.specs.Patterns.{Patterns, Apply}
use Rattle.sy_grammar_base.specs.Trees.{Nonterminal}
use Rattle.sy_grammar_base.specs.Written.{pattern_of, patterns_of}
use Rattle.sy_grammar_base.specs.Grown.{nonterminal_of, production_of}
use Rattle.sy_grammar_base.specs.Formed.{is_constant, is_one_constant, is_signed, is_fixed, varying, is_linear, all_give_constants, gives_constants}
use Rattle.sy_grammar_base.specs.declared.part.Part.{Part}
use Rattle.sy_grammar_base.specs.declared.grammar.Non.{Non}

pub signed_other : (operator : Op) (arguments : Patterns) → (operator ≡ ops.Neg → ⊥) → is_signed (Apply operator arguments) ≡ false
signed_other ops.Neg arguments other = absurd (other refl)
signed_other _ arguments other = refl

pub linear_other : (nonterminals : List Nonterminal) (operator : Op) (arguments : Patterns) → (operator ≡ ops.Mul → ⊥) → is_linear nonterminals operator arguments ≡ true
linear_other nonterminals ops.Mul arguments other = absurd (other refl)
linear_other nonterminals _ arguments other = refl

pub not_one : {T N : Type 0} (number : N → Val) (parts : List (Part T N)) → (length parts ≡ 1 → ⊥) → is_one_constant (patterns_of number parts) ≡ false
not_one number [] many = refl
not_one number (part ∷ []) many = absurd (many refl)
not_one number (part ∷ second ∷ parts) many = refl

pub only_one : {T N : Type 0} (number : N → Val) (parts : List (Part T N)) (part : Part T N) → length parts ≡ 1 → slice_get parts 0 ≡ Some part → is_one_constant (patterns_of number parts) ≡ is_constant (pattern_of number part)
only_one number [] part one at = absurd (omega (arith, one))
only_one number (first ∷ []) part one at = let same : first ≡ part = cc in ap (λ p. is_constant (pattern_of number p)) same
only_one number (first ∷ second ∷ parts) part one at = absurd (omega (arith, one))

pub constants_at : {T N : Type 0} (number : N → Val) (nons : List (Non T N)) (n : ℕ) (non : Non T N) → slice_get nons n ≡ Some non → all_give_constants (slice_get (map (nonterminal_of number) nons) n) ≡ list_all gives_constants (map (production_of number) non.rules)
constants_at number nons n non at = ap all_give_constants (slice_get-map (nonterminal_of number) nons n ∙ ap (λ (o : Option (Non _ _)). option_map (nonterminal_of number) o) at)

pub constants_past : {T N : Type 0} (number : N → Val) (nons : List (Non T N)) (n : ℕ) → length nons ≤ n → all_give_constants (slice_get (map (nonterminal_of number) nons) n) ≡ false
constants_past number nons n past = ap all_give_constants (slice_get-map (nonterminal_of number) nons n ∙ ap (λ (o : Option (Non _ _)). option_map (nonterminal_of number) o) (slice_get_past nons n past))

-- a list with one part more
pub varying_last : {T N : Type 0} (number : N → Val) (nonterminals : List Nonterminal) (parts : List (Part T N)) (last : Part T N) → varying nonterminals (patterns_of number (parts ++ last ∷ [])) ≡ varying nonterminals (patterns_of number parts) + (if is_fixed nonterminals (pattern_of number last) then 0 else 1)
varying_last number nonterminals [] last = omega arith
varying_last number nonterminals (part ∷ parts) last = omega (arith, varying_last number nonterminals parts last)

counted : (b : Bool) (n : ℕ) → ((b ≡ true) → n + (if b then 0 else 1) ≡ n) × ((b ≡ false) → n + (if b then 0 else 1) ≡ n + 1)
counted true n = (λ e. omega arith, λ e. absurd cc)
counted false n = (λ e. absurd cc, λ e. refl)

-- one part more, which doesn't vary, or does
varying_more : {T N : Type 0} (number : N → Val) (nonterminals : List Nonterminal) (parts : List (Part T N)) (i : ℕ) (part : Part T N) → i < length parts → part ≡ get_or parts i part →
    varying nonterminals (patterns_of number (take (i + 1) parts)) ≡ varying nonterminals (patterns_of number (take i parts)) + (if is_fixed nonterminals (pattern_of number part) then 0 else 1)
varying_more number nonterminals parts i part within is =
    ap (λ (ps : List (Part _ _)). varying nonterminals (patterns_of number ps)) (take_more parts i part within ∙ ap (λ p. take i parts ++ p ∷ []) (sym is))
    ∙ varying_last number nonterminals (take i parts) part

pub varying_fixed : {T N : Type 0} (number : N → Val) (nonterminals : List Nonterminal) (parts : List (Part T N)) (i : ℕ) (part : Part T N) → i < length parts → part ≡ get_or parts i part → is_fixed nonterminals (pattern_of number part) ≡ true →
    varying nonterminals (patterns_of number (take (i + 1) parts)) ≡ varying nonterminals (patterns_of number (take i parts))
varying_fixed number nonterminals parts i part within is fixed = varying_more number nonterminals parts i part within is ∙ (counted (is_fixed nonterminals (pattern_of number part)) _).0 fixed

pub varying_free : {T N : Type 0} (number : N → Val) (nonterminals : List Nonterminal) (parts : List (Part T N)) (i : ℕ) (part : Part T N) → i < length parts → part ≡ get_or parts i part → is_fixed nonterminals (pattern_of number part) ≡ false →
    varying nonterminals (patterns_of number (take (i + 1) parts)) ≡ varying nonterminals (patterns_of number (take i parts)) + 1
varying_free number nonterminals parts i part within is free = varying_more number nonterminals parts i part within is ∙ (counted (is_fixed nonterminals (pattern_of number part)) _).1 free
