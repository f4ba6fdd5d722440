use Rattle.std.proofs.Common.{◌≡◌, ◌↔◌, length}
use Rattle.sy_terms.specs.Denoted.{exprs_of}
use Rattle.sy_terms.proofs.term.+equals.Given as goal

abbrev pub invariant-Terms::equals-loop-a : goal.invariant-Terms::equals-loop-a
invariant-Terms::equals-loop-a g l =
    (length l.a-iterator.a.rest.now ≡ length l.a-iterator.b.rest.now) ×
    ((exprs_of g.T.Theory.denotes l.a-iterator.a.rest.now ≡ exprs_of g.T.Theory.denotes l.a-iterator.b.rest.now) ↔ (exprs_of g.T.Theory.denotes l.self.items.items ≡ exprs_of g.T.Theory.denotes l.other.items.items))
