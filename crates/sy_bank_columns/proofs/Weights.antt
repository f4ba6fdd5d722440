-- How many nodes a pattern has, by which recursion over parts ends.
use Rattle.std.proofs.Common.{◌≡◌, ℕ, zero, suc, ◌+◌, ◌*◌, ◌<◌, ◌≤◌, List, [], ◌∷◌, length, get_or, arith, ap}
use Rattle.sy_terms.specs.Values.{Val}
use Rattle.sy_terms.specs.declared.op.Op.{Op}
use Rattle.sy_grammar_base.specs.Patterns.{Pattern, Patterns, Constant, Variable, Occurrence, Apply, Invoke, none, more}
use Rattle.sy_grammar_base.specs.Written.{pattern_of, patterns_of, pattern_of-App, pattern_of-Call}
use Rattle.sy_grammar_base.specs.declared.part.Part.{Part, App, Call}
use Rattle.sy_grammar_base.specs.declared.part.Parts.{Parts}

abbrev mutual
  pub weight : Pattern → ℕ
  weight (Constant value) = 1
  weight (Variable position) = 1
  weight (Occurrence nonterminal) = 1
  weight (Apply operator arguments) = all_weight arguments + 1
  weight (Invoke definition arguments) = all_weight arguments + 1

  pub all_weight : Patterns → ℕ
  all_weight none = 0
  all_weight (more first rest) = weight first + all_weight rest

pub app-falls : {T N : Type 0} (number : N → Val) (part : Part T N) (operator : Op) (parts : Parts T N) → part ≡ App operator parts → 2 * all_weight (patterns_of number parts.items.items) + 1 < 2 * weight (pattern_of number part)
app-falls number part operator parts is = rw (is, pattern_of-App) (omega arith)

pub call-falls : {T N : Type 0} (number : N → Val) (part : Part T N) (definition : ℕ) (parts : Parts T N) → part ≡ Call definition parts → 2 * all_weight (patterns_of number parts.items.items) + 1 < 2 * weight (pattern_of number part)
call-falls number part definition parts is = rw (is, pattern_of-Call) (omega arith)

weight-at : {T N : Type 0} (number : N → Val) (parts : List (Part T N)) (i : ℕ) (part : Part T N) → i < length parts → part ≡ get_or parts i part → weight (pattern_of number part) ≤ all_weight (patterns_of number parts)
weight-at number [] i part within is = absurd (omega arith)
weight-at {T} {N} number (first ∷ parts) zero part within is = let same = ap (λ (p : Part T N). weight (pattern_of number p)) is in omega (arith, same)
weight-at number (first ∷ parts) (suc i) part within is = omega (arith, weight-at number parts i part (omega arith) is)

pub part-falls : {T N : Type 0} (number : N → Val) (parts : List (Part T N)) (i : ℕ) (part : Part T N) → i < length parts → part ≡ get_or parts i part → 2 * weight (pattern_of number part) < 2 * all_weight (patterns_of number parts) + 1
part-falls number parts i part within is = omega (arith, weight-at number parts i part within is)
