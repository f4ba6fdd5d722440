-- Unfolded size and depth, and the literals that are written.
use Rattle.std.specs.Prelude.{ℕ, zero, suc, ◌+◌, max, List, [], ◌∷◌, ◌++◌, Bool, true, false, ◌&&◌, nat_le, get_or, ℤ, pos, negsuc, Option, Some, None, if◌then◌else◌}
use Rattle.sy_terms.specs.Values.{Val, Truth, Whole, Bits}
use Rattle.sy_terms.specs.declared.op.Op.{Op}
use Rattle.sy_terms.specs.declared.op.Op.TheVariants as ops
use Rattle.sy_terms.specs.declared.term.Fun.{Fun}
use Rattle.sy_terms.specs.declared.term.Fun.TheVariants.{Defined, Wanted}
use Rattle.sy_forms_items.specs.Phrases.{Phrase, Phrases, Literal, Position, Local, Nonterminal, Operation, Invocation, Let, none, more}

abbrev pub is_neg : Op → Bool
is_neg ops.Neg = true
is_neg _ = false

-- of a definition by its number; a function to be found has no body
abbrev pub of_body : List ℕ → Fun → ℕ
of_body measures (Defined number) = get_or measures number 0
of_body measures (Wanted number) = 0

-- where the bodies of the definitions have these sizes
unfoldable mutual
  pub unfolded_size : List ℕ → Phrase → ℕ
  unfolded_size sizes (Literal value) = 1
  unfolded_size sizes (Position position) = 1
  unfolded_size sizes (Local level) = 1
  unfolded_size sizes (Nonterminal number) = 1
  unfolded_size sizes (Operation operator arguments) = unfolded_sizes sizes arguments + 1
  unfolded_size sizes (Invocation function arguments) = unfolded_sizes sizes arguments + of_body sizes function + 1
  unfolded_size sizes (Let bound inner) = unfolded_sizes sizes bound + unfolded_size sizes inner + 1

  pub unfolded_sizes : List ℕ → Phrases → ℕ
  unfolded_sizes sizes none = 0
  unfolded_sizes sizes (more first rest) = unfolded_size sizes first + unfolded_sizes sizes rest

-- where the bodies of the definitions have these depths
unfoldable mutual
  pub unfolded_depth : List ℕ → Phrase → ℕ
  unfolded_depth depths (Literal value) = 1
  unfolded_depth depths (Position position) = 1
  unfolded_depth depths (Local level) = 1
  unfolded_depth depths (Nonterminal number) = 1
  unfolded_depth depths (Operation operator arguments) = unfolded_depths depths arguments + 1
  unfolded_depth depths (Invocation function arguments) = max (unfolded_depths depths arguments) (of_body depths function) + 1
  unfolded_depth depths (Let bound inner) = max (unfolded_depths depths bound) (unfolded_depth depths inner) + 1

  pub unfolded_depths : List ℕ → Phrases → ℕ
  unfolded_depths depths none = 0
  unfolded_depths depths (more first rest) = max (unfolded_depth depths first) (unfolded_depths depths rest)

-- the unfolded sizes and depths of the definitions so far
pub record Measures : Type 0 where
  pub sizes : List ℕ
  pub depths : List ℕ

-- the size is at most 1,000,000, and the depth at most 1,200
abbrev pub is_within_limits : Measures → Phrase → Bool
is_within_limits measures phrase = nat_le (unfolded_size measures.sizes phrase) 1000000 && nat_le (unfolded_depth measures.depths phrase) 1200

-- minus a whole number above 0
abbrev pub minus_numeral : ℤ → Option Val
minus_numeral (pos zero) = None
minus_numeral (pos (suc n)) = Some (Whole (negsuc n))
minus_numeral (negsuc n) = None

-- the value -n of `(- n)` with a numeral n of at least 1
abbrev pub negation_of : Val → Option Val
negation_of (Whole n) = minus_numeral n
negation_of (Truth truth) = None
negation_of (Bits width number) = None

abbrev pub written_negation : Phrase → Option Val
written_negation (Literal value) = negation_of value
written_negation _ = None

abbrev pub negated_literal : Phrases → Option Val
negated_literal (more argument none) = written_negation argument
negated_literal _ = None

abbrev pub literal_negated : Op → Phrases → Option Val
literal_negated operator arguments = if is_neg operator then negated_literal arguments else None

abbrev pub at_most_one : Option Val → List Val
at_most_one None = []
at_most_one (Some value) = value ∷ []

-- the values of literals in the order of writing, each with repeats
unfoldable mutual
  pub literals_in : Phrase → List Val
  literals_in (Literal value) = value ∷ []
  literals_in (Position position) = []
  literals_in (Local level) = []
  literals_in (Nonterminal number) = []
  literals_in (Operation operator arguments) = all_literals arguments ++ at_most_one (literal_negated operator arguments)
  literals_in (Invocation function arguments) = all_literals arguments
  literals_in (Let bound inner) = all_literals bound ++ literals_in inner

  pub all_literals : Phrases → List Val
  all_literals none = []
  all_literals (more first rest) = literals_in first ++ all_literals rest
