use Rattle.std.proofs.Common.{◌≡◌, ◌<◌, ℕ, slice_index_or, length}
use Rattle.sy_clauses.specs.Needed.{needs}
use Rattle.sy_clauses.specs.Numbers.{count_left}
use Rattle.sy_clauses.proofs.numbering.Numbering.new.Given as goal

abbrev pub invariant-loop-is_needed : goal.invariant-loop-is_needed
invariant-loop-is_needed l = record {
  long : length l.before.items ≡ l.is_needed-index;
  all : l.all ≡ count_left (needs l.needed) l.is_needed-index;
  before : (place d : ℕ) → place < l.is_needed-index →
      slice_index_or l.before.items place d ≡ count_left (needs l.needed) place;
}
