-- The largest sizes of the grammars of a problem.
use Rattle.std.specs.Prelude.{ℕ, ◌+◌, ◌≡◌, ◌≤◌, List, [], ◌∷◌}
use Rattle.sy_terms.specs.Values.{Val}
use Rattle.sy_grammar_base.specs.Questions.{Goal, Question}
use Rattle.sy_grammar_sizes.specs.Greatest.{IsLargest}

-- the largest sizes of the grammars' derivations sum to this; a grammar without derivations counts 0
abbrev pub SumTo : List Val → List Goal → ℕ → Type 0
SumTo pool [] total = total ≡ 0
SumTo pool (goal ∷ goals) total =
    (size : ℕ) × (rest : ℕ) × IsLargest goal.grammar pool size × SumTo pool goals rest × (total ≡ size + rest)

-- they sum to at most n
abbrev pub AreAtMost : Question → ℕ → Type 0
AreAtMost question n = (total : ℕ) × SumTo question.pool question.goals total × (total ≤ n)
