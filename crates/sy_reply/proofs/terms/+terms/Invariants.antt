use Rattle.std.proofs.Common.{◌≡◌, ◌+◌, ◌*◌, ◌++◌, length, drop}
use Rattle.sy_terms.specs.Expr.{nodes, nodes_of}
use Rattle.sy_terms.specs.Denoted.{expr_of, exprs_of}
use Rattle.sy_reply.specs.Replies.{spaced, terms_text}
use Rattle.sy_reply.specs.Writable.{AreWritable}
use Rattle.sy_reply.proofs.terms.+terms.Given as goal

abbrev pub decreases-write_term : goal.decreases-write_term
decreases-write_term g l = 2 * nodes (expr_of g.T.Theory.denotes l.term.now)

abbrev pub decreases-write_parts : goal.decreases-write_parts
decreases-write_parts g l = 2 * nodes_of (exprs_of g.T.Theory.denotes l.terms.now.items.items) + 1

abbrev pub invariant-write_parts-loop-term : goal.invariant-write_parts-loop-term
invariant-write_parts-loop-term g l = record {
  text : l.out ++ spaced (terms_text l.arguments l.definitions (exprs_of g.T.Theory.denotes (drop l.term-index l.term-items)))
      ≡ l.fn.out ++ spaced (terms_text l.arguments l.definitions (exprs_of g.T.Theory.denotes l.terms.items.items));
  fit : AreWritable (length l.arguments) (length l.definitions) (exprs_of g.T.Theory.denotes (drop l.term-index l.term-items));
}
