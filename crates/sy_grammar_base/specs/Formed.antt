-- When a grammar is well formed: its rules fit, each has its nonterminal's sort, and there is a start symbol.
use Rattle.std.specs.Prelude.{ℕ, ◌+◌, ◌^◌, Bool, true, false, not, ◌&&◌, nat_le, nat_lt, List, [], length, map, slice_get, Option, Some, None, if◌then◌else◌}
use Rattle.std.specs.Option.{option_map}
use Rattle.std.specs.List.{list_all}
use Rattle.sy_terms.specs.Values.{Val}
use Rattle.sy_terms.specs.Theories.{sort_of_value, valid}
use Rattle.sy_terms.specs.Fitting.{Scope, applied_sort, called_sort, with_sort}
use Rattle.sy_terms.specs.declared.op.Op.{Op}
use Rattle.sy_terms.specs.declared.op.Op.TheVariants as ops
use Rattle.sy_terms.specs.declared.sort.Sort.{Sort}
use Rattle.sy_terms.specs.declared.sort.Sort.TheVariants as sorts
use Rattle.sy_grammar_base.specs.Patterns.{Pattern, Patterns, Constant, Variable, Occurrence, Apply, Invoke, none, more}
use Rattle.sy_grammar_base.specs.Trees.{Production, Template, EachConstant, EachVariable, Nonterminal, Syntax, is_negative, is_sort}
use Rattle.sy_grammar_base.specs.Grown.{nonterminal_of}
use Rattle.sy_grammar_base.specs.declared.grammar.Non.{Non}

-- the grammar of these nonterminals over arguments of these sorts
abbrev pub syntax_with : {T N : Type 0} → (N → Val) → List Sort → List (Non T N) → Syntax
syntax_with number args nons = record { arguments = args; nonterminals = map (nonterminal_of number) nons }

-- truth values, and the sorts of the theory's numbers; a vector has from 1 to 64 bits
abbrev pub is_known : (Sort → Bool) → Sort → Bool
is_known numeric sorts.Bool = true
is_known numeric sorts.Int = numeric sorts.Int
is_known numeric (sorts.Bits width) = numeric (sorts.Bits width) && (nat_le 1 width && nat_le width 64)

-- a value as rules write it: one of its sort, and no integer below 0
abbrev pub is_plain : Val → Bool
is_plain value = valid value && not (is_negative value)

abbrev pub is_constant : Pattern → Bool
is_constant (Constant value) = true
is_constant _ = false

abbrev pub is_one_constant : Patterns → Bool
is_one_constant (more first none) = is_constant first
is_one_constant _ = false

-- a constant, or minus one
abbrev pub is_signed : Pattern → Bool
is_signed (Constant value) = true
is_signed (Apply ops.Neg arguments) = is_one_constant arguments
is_signed _ = false

-- the rule gives constants alone
abbrev pub gives_constants : Production → Bool
gives_constants (Template pattern) = is_signed pattern
gives_constants (EachConstant sort) = true
gives_constants (EachVariable sort) = false

abbrev pub all_give_constants : Option Nonterminal → Bool
all_give_constants None = false
all_give_constants (Some nonterminal) = list_all gives_constants nonterminal.rules

-- a factor that doesn't vary: a constant, minus one, or a nonterminal whose rules give constants alone
abbrev pub is_fixed : List Nonterminal → Pattern → Bool
is_fixed nonterminals (Occurrence nonterminal) = all_give_constants (slice_get nonterminals nonterminal)
is_fixed nonterminals pattern = is_signed pattern

-- how many of the factors vary
abbrev pub varying : List Nonterminal → Patterns → ℕ
varying nonterminals none = 0
varying nonterminals (more first rest) = varying nonterminals rest + (if is_fixed nonterminals first then 0 else 1)

-- a product has at most one factor that varies
abbrev pub is_linear : List Nonterminal → Op → Patterns → Bool
is_linear nonterminals ops.Mul factors = nat_le (varying nonterminals factors) 1
is_linear nonterminals _ arguments = true

unfoldable mutual
  -- the sort of a pattern that fits, where an occurrence has its nonterminal's sort
  pub pattern_sort : Scope → Syntax → Pattern → Option Sort
  pattern_sort scope syntax (Constant value) = if is_plain value then Some (sort_of_value value) else None
  pattern_sort scope syntax (Variable position) = slice_get syntax.arguments position
  pattern_sort scope syntax (Occurrence nonterminal) = option_map (λ (n : Nonterminal). n.sort) (slice_get syntax.nonterminals nonterminal)
  pattern_sort scope syntax (Apply operator arguments) = if is_linear syntax.nonterminals operator arguments then applied_sort scope operator (pattern_sorts scope syntax arguments) else None
  pattern_sort scope syntax (Invoke definition arguments) = called_sort (slice_get scope.defined definition) (pattern_sorts scope syntax arguments)

  pub pattern_sorts : Scope → Syntax → Patterns → Option (List Sort)
  pattern_sorts scope syntax none = Some []
  pattern_sorts scope syntax (more first rest) = with_sort (pattern_sort scope syntax first) (pattern_sorts scope syntax rest)

-- the sort of the terms that a rule gives
abbrev pub rule_sort : Scope → Syntax → Production → Option Sort
rule_sort scope syntax (Template pattern) = pattern_sort scope syntax pattern
rule_sort scope syntax (EachConstant sort) = Some sort
rule_sort scope syntax (EachVariable sort) = Some sort

-- a nonterminal of a known sort, which its rules have; there are fewer than 2 ^ 31 of them
abbrev pub nonterminal_fits : (Sort → Bool) → Scope → Syntax → Nonterminal → Bool
nonterminal_fits numeric scope syntax nonterminal =
    is_known numeric nonterminal.sort
    && (nat_lt (length nonterminal.rules) (2 ^ 31) && list_all (λ rule. is_sort nonterminal.sort (rule_sort scope syntax rule)) nonterminal.rules)

-- there is a start symbol and there are fewer than 2 ^ 31 nonterminals, all sorts are known, and all rules fit
abbrev pub is_formed : (Sort → Bool) → Scope → Syntax → Bool
is_formed numeric scope syntax =
    (nat_le 1 (length syntax.nonterminals) && nat_lt (length syntax.nonterminals) (2 ^ 31))
    && (list_all (is_known numeric) syntax.arguments && list_all (nonterminal_fits numeric scope syntax) syntax.nonterminals)
