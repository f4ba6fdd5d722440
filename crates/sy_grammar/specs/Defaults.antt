-- The grammar of a function that is declared without one.
use Rattle.std.specs.Prelude.{ℕ, ◌+◌, ◌≡◌, Bool, true, not, ◌&&◌, List, [], ◌∷◌, ◌++◌, length, map}
use Rattle.std.specs.List.{filter, list_any, range_with_len}
use Rattle.sy_terms.specs.Fitting.{Signature}
use Rattle.sy_terms.specs.Sorts.{same_sort}
use Rattle.sy_terms.specs.declared.op.Op.{Op}
use Rattle.sy_terms.specs.declared.op.Op.TheVariants as ops
use Rattle.sy_terms.specs.declared.sort.Logic.{Logic}
use Rattle.sy_terms.specs.declared.sort.Logic.TheVariants.{Lia, Bv}
use Rattle.sy_terms.specs.declared.sort.Sort.{Sort}
use Rattle.sy_terms.specs.declared.sort.Sort.TheVariants as sorts
use Rattle.sy_grammar_base.specs.Formed.{is_formed}
use Rattle.sy_grammar_base.specs.Patterns.{Patterns, Occurrence, Apply, none, more}
use Rattle.sy_grammar_base.specs.Trees.{Production, Template, EachConstant, EachVariable, Nonterminal, Syntax}

abbrev pub places : List ℕ → Patterns
places [] = none
places (nonterminal ∷ rest) = more (Occurrence nonterminal) (places rest)

-- the operator at these nonterminals
abbrev pub rule_applied : Op → List ℕ → Production
rule_applied operator nonterminals = Template (Apply operator (places nonterminals))

-- the operator at one, two or three of a nonterminal
abbrev pub rule_of_one : Op → ℕ → Production
rule_of_one operator n = rule_applied operator (n ∷ [])

abbrev pub rule_of_two : Op → ℕ → Production
rule_of_two operator n = rule_applied operator (n ∷ n ∷ [])

abbrev pub rule_of_three : Op → ℕ → Production
rule_of_three operator n = rule_applied operator (n ∷ n ∷ n ∷ [])

-- rules for integers, where these are the numbers of the nonterminals for integers, truth values and constants
abbrev pub integer_rules : (integers truths constants : ℕ) → List Production
integer_rules i b k =
    EachVariable sorts.Int ∷ EachConstant sorts.Int ∷
    rule_of_two ops.Add i ∷ rule_of_two ops.Sub i ∷ rule_applied ops.Mul (k ∷ i ∷ []) ∷ rule_applied ops.Ite (b ∷ i ∷ i ∷ []) ∷ []

-- what every nonterminal for truth values ends with
abbrev pub connectives : ℕ → List Production
connectives b = rule_of_one ops.Not b ∷ rule_of_two ops.And b ∷ rule_of_two ops.Or b ∷ rule_of_three ops.Ite b ∷ []

-- rules for truth values over integers
abbrev pub integer_tests : (integers truths : ℕ) → List Production
integer_tests i b = EachVariable sorts.Bool ∷ EachConstant sorts.Bool ∷ rule_of_two ops.Le i ∷ rule_of_two ops.Equal i ∷ connectives b

abbrev pub integers : (integers truths constants : ℕ) → Nonterminal
integers i b k = record { sort = sorts.Int; rules = integer_rules i b k }

abbrev pub tests : (integers truths : ℕ) → Nonterminal
tests i b = record { sort = sorts.Bool; rules = integer_tests i b }

abbrev pub factors_alone : Nonterminal
factors_alone = record { sort = sorts.Int; rules = EachConstant sorts.Int ∷ [] }

-- the nonterminals of LIA: for the result's sort, for the other one, and for constants
abbrev pub of_integers : Sort → List Nonterminal
of_integers sorts.Bool = tests 1 0 ∷ integers 1 0 2 ∷ factors_alone ∷ []
of_integers _ = integers 0 1 2 ∷ tests 0 1 ∷ factors_alone ∷ []

-- the operators of two vectors of one width
abbrev pub default_vector_operators : List Op
default_vector_operators =
    ops.BvAnd ∷ ops.BvOr ∷ ops.BvXor ∷ ops.BvAdd ∷ ops.BvSub ∷ ops.BvMul ∷ ops.BvUdiv ∷ ops.BvUrem ∷ ops.BvShl ∷ ops.BvLshr ∷ ops.BvAshr ∷ []

-- rules for vectors of a width, where these are the numbers of the nonterminals for them and for truth values
abbrev pub vector_rules : (width vectors truths : ℕ) → List Production
vector_rules width v b =
    EachVariable (sorts.Bits width) ∷ EachConstant (sorts.Bits width) ∷ rule_of_one ops.BvNot v ∷ rule_of_one ops.BvNeg v ∷
    map (λ operator. rule_of_two operator v) default_vector_operators ++ rule_applied ops.Ite (b ∷ v ∷ v ∷ []) ∷ []

-- the comparisons of each of these nonterminals for vectors
abbrev pub comparisons : List ℕ → List Production
comparisons [] = []
comparisons (v ∷ rest) = rule_of_two ops.Equal v ∷ rule_of_two ops.BvUlt v ∷ rule_of_two ops.BvSlt v ∷ comparisons rest

-- rules for truth values over vectors
abbrev pub vector_tests : List ℕ → ℕ → List Production
vector_tests vectors b = EachVariable sorts.Bool ∷ EachConstant sorts.Bool ∷ comparisons vectors ++ connectives b

abbrev pub vector_truths : List ℕ → ℕ → Nonterminal
vector_truths vectors b = record { sort = sorts.Bool; rules = vector_tests vectors b }

-- nonterminals for these widths, numbered from the first on
abbrev pub vectors_from : (first truths : ℕ) → List ℕ → List Nonterminal
vectors_from v b [] = []
vectors_from v b (width ∷ rest) = record { sort = sorts.Bits width; rules = vector_rules width v b } ∷ vectors_from (v + 1) b rest

abbrev pub width_of : Sort → List ℕ
width_of (sorts.Bits width) = width ∷ []
width_of _ = []

-- a width of an argument that isn't the result's
abbrev pub is_other : Sort → List Sort → ℕ → Bool
is_other sort arguments width = list_any (same_sort (sorts.Bits width)) arguments && not (same_sort (sorts.Bits width) sort)

-- these, ascending
abbrev pub others : Sort → List Sort → List ℕ
others sort arguments = filter (is_other sort arguments) (range_with_len 1 64)

-- the widths in the order of their nonterminals: the result's first
abbrev pub ordered : Sort → List Sort → List ℕ
ordered sort arguments = width_of sort ++ others sort arguments

-- the nonterminals of BV: for the result's sort, for the other widths, and for truth values
abbrev pub of_vectors : Sort → List ℕ → List Nonterminal
of_vectors (sorts.Bits width) found = vectors_from 0 (length found) found ++ vector_truths (range_with_len 0 (length found)) (length found) ∷ []
of_vectors _ found = vector_truths (range_with_len 1 (length found)) 0 ∷ vectors_from 1 0 found

abbrev pub nonterminals : Logic → List Sort → Sort → List Nonterminal
nonterminals Lia arguments sort = of_integers sort
nonterminals Bv arguments sort = of_vectors sort (ordered sort arguments)

-- the grammar of a function with arguments of these sorts and a value of this sort
abbrev pub default_syntax : Logic → List Sort → Sort → Syntax
default_syntax logic arguments sort = record { arguments = arguments; nonterminals = nonterminals logic arguments sort }

-- the grammar is well formed under any definitions
abbrev pub IsFormed : (Op → Bool) → (Sort → Bool) → Syntax → Type 0
IsFormed owned numeric syntax = (defined : List Signature) → is_formed numeric (record { owned = owned; defined = defined; wanted = [] }) syntax ≡ true
