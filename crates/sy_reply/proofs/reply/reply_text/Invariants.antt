use Rattle.std.proofs.Common.{◌≡◌, ◌++◌, length, map}
use Rattle.std.specs.Prelude.{codes}
use Rattle.std.specs.List.{concat}
use Rattle.sy_terms.specs.Denoted.{expr_of}
use Rattle.sy_grammar_base.specs.Questions.{goal_of}
use Rattle.sy_reply.specs.Replies.{line, definitions_text}
use Rattle.sy_reply.specs.Writable.{AreTitled, HaveBodies}
use Rattle.sy_reply.proofs.reply.reply_text.Given as goal

abbrev pub invariant-loop-title : goal.invariant-loop-title
invariant-loop-title g l = record {
  text : l.out ++ concat (map line (definitions_text l.titles.defined l.title-iterator.a.a.rest.now (map (goal_of g.T.Theory.denotes) l.title-iterator.a.b.rest.now) (map (expr_of g.T.Theory.denotes) l.title-iterator.b.rest.now)))
      ≡ line (codes "(") ++ concat (map line (definitions_text l.titles.defined l.titles.wanted (map (goal_of g.T.Theory.denotes) l.problem.wanted) (map (expr_of g.T.Theory.denotes) l.bodies)));
  titled : AreTitled l.title-iterator.a.a.rest.now (map (goal_of g.T.Theory.denotes) l.title-iterator.a.b.rest.now);
  bodies : HaveBodies (length l.problem.defs) (map (goal_of g.T.Theory.denotes) l.title-iterator.a.b.rest.now) (map (expr_of g.T.Theory.denotes) l.title-iterator.b.rest.now);
}
