-- The limits of the searches for one problem.
use Rattle.std.specs.Prelude.{ℕ, List, [], ◌∷◌, min, max}
use Rattle.sy_query_limits.specs.declared.Limits.{Limits}

-- at most so many kept terms, learned clauses and inner nodes
abbrev pub lowered : ℕ → ℕ → ℕ → Limits → Limits
lowered bank clauses nodes limits = record {
  size = limits.size;
  rounds = limits.rounds;
  points = limits.points;
  bank = min limits.bank bank;
  weight = limits.weight;
  clauses = min limits.clauses clauses;
  nodes = min limits.nodes nodes;
  pivots = limits.pivots;
}

-- those of the early search, and those that are given
abbrev pub stages : Limits → List Limits
stages limits = lowered 1000 2000 500 limits ∷ limits ∷ []

-- the greatest size of what is found beyond
abbrev pub most_beyond : ℕ → ℕ
most_beyond size = max size 1024
