-- How far a lowering is, apart from memory, and what its steps give.
use Rattle.std.specs.Prelude.{◌≡◌, ℕ}
use Rattle.sy_terms.specs.Values.{Whole}
use Rattle.sy_terms.specs.Expr.{Expr, Exprs}
use Rattle.sy_terms.specs.Denoted.{exprs_of}
use Rattle.sy_lower_laws.specs.Lowering as spec
use Rattle.sy_lower.specs.Kept.{pairs_in}
use Rattle.sy_lower.specs.declared.progress.Progress.{Progress}

-- how far the lowering is
abbrev pub progress_in : Progress → spec.Progress
progress_in progress = record { sorts = progress.sorts.items; sides = exprs_of Whole progress.sides.items.items; pairs = pairs_in progress.pairs.all.items }

-- the step gives this term, and the lowering is so far after it
pub record Gives (given : Expr) (after : spec.Progress) (found : spec.Lowered) : Type 0 where
  pub term : given ≡ found.term
  pub progress : after ≡ found.progress

-- these terms
pub record GivesAll (given : Exprs) (after : spec.Progress) (found : spec.AllLowered) : Type 0 where
  pub terms : given ≡ found.terms
  pub progress : after ≡ found.progress

-- this variable of a quotient
pub record GivesQuotient (given : ℕ) (after : spec.Progress) (found : spec.Divided) : Type 0 where
  pub quotient : given ≡ found.quotient
  pub progress : after ≡ found.progress

-- terms that are lowered, and how far the lowering is after them
abbrev pub lowered_terms : spec.Progress → Exprs → spec.AllLowered
lowered_terms progress terms = record { terms = terms; progress = progress }

abbrev pub lowered_term : spec.Progress → Expr → spec.Lowered
lowered_term progress term = record { term = term; progress = progress }
