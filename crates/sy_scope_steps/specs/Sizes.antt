-- Unfolded sizes and depths of terms.
use Rattle.std.specs.Prelude.{ℕ, ◌+◌, min, max, List, [], ◌∷◌, ◌++◌, ◌≡◌}
use Rattle.sy_terms.specs.Expr.{Expr, Exprs, Constant, Variable, Apply, Invoke, Bind, none, more}
use Rattle.sy_forms_items.specs.Measures.{Measures, of_body, unfolded_size, unfolded_depth}
use Rattle.sy_forms_items.specs.Phrases.{Phrase, expr_at}

-- the nodes, with those of the bodies that are called, where the bodies of the definitions have these sizes
unfoldable mutual
  pub expr_size : List ℕ → Expr → ℕ
  expr_size sizes (Constant value) = 1
  expr_size sizes (Variable position) = 1
  expr_size sizes (Apply operator arguments) = expr_sizes sizes arguments + 1
  expr_size sizes (Invoke function arguments) = expr_sizes sizes arguments + of_body sizes function + 1
  expr_size sizes (Bind bound inner) = expr_sizes sizes bound + expr_size sizes inner + 1

  pub expr_sizes : List ℕ → Exprs → ℕ
  expr_sizes sizes none = 0
  expr_sizes sizes (more first rest) = expr_size sizes first + expr_sizes sizes rest

-- the nodes on the longest way down, where the bodies of the definitions have these depths
unfoldable mutual
  pub expr_depth : List ℕ → Expr → ℕ
  expr_depth depths (Constant value) = 1
  expr_depth depths (Variable position) = 1
  expr_depth depths (Apply operator arguments) = expr_depths depths arguments + 1
  expr_depth depths (Invoke function arguments) = max (expr_depths depths arguments) (of_body depths function) + 1
  expr_depth depths (Bind bound inner) = max (expr_depths depths bound) (expr_depth depths inner) + 1

  pub expr_depths : List ℕ → Exprs → ℕ
  expr_depths depths none = 0
  expr_depths depths (more first rest) = max (expr_depth depths first) (expr_depths depths rest)

-- the measures of a body more; above what a body may have they count as one more than that
abbrev pub measured_with : Measures → Expr → Measures
measured_with measures body = record {
  sizes = measures.sizes ++ min 1000001 (expr_size measures.sizes body) ∷ [];
  depths = measures.depths ++ min 1201 (expr_depth measures.depths body) ∷ [];
}

-- the measures of bodies behind others
unfoldable pub measured_behind : Measures → List Expr → Measures
measured_behind measures [] = measures
measured_behind measures (body ∷ bodies) = measured_behind (measured_with measures body) bodies

-- the measures of the definitions' bodies, each of which calls those before it
abbrev pub measures_in : List Expr → Measures
measures_in bodies = measured_behind (record { sizes = []; depths = [] }) bodies

-- the term of a phrase has the phrase's measures
abbrev pub MeasuresAgree : Type 0
MeasuresAgree = (measures : List ℕ) (outside : ℕ) (phrase : Phrase) →
    (expr_size measures (expr_at outside phrase) ≡ unfolded_size measures phrase) × (expr_depth measures (expr_at outside phrase) ≡ unfolded_depth measures phrase)
