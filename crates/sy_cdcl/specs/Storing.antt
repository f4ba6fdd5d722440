-- The clauses of a store.
use Rattle.std.specs.Prelude.{◌≡◌, ℕ, ◌≤◌, ◌-◌, Some, List, map, take, drop, length, slice_get}
use Rattle.sy_clauses.specs.declared.Lit.{Lit}
use Rattle.sy_clauses.specs.Clauses.{Clause, literals}
use Rattle.sy_cdcl.specs.declared.store.Span.{Span}
use Rattle.sy_cdcl.specs.declared.store.Store.{Store}

-- the clause whose literals stand in a span of the list
abbrev pub clause_in : List Lit → Span → Clause
clause_in codes span = literals (take (span.end - span.start) (drop span.start codes))

-- the clauses by their numbers
abbrev pub clauses_in : Store → List Clause
clauses_in s = map (clause_in s.codes.items) s.spans.items

-- each span is one of the list
abbrev pub SpansFit : Store → Type 0
SpansFit s = (n : ℕ) (span : Span) → slice_get s.spans.items n ≡ Some span →
    (span.start ≤ span.end) × (span.end ≤ length s.codes.items)
