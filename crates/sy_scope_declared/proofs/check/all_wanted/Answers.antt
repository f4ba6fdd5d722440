use Rattle.std.proofs.Common.{map}
use Rattle.sy_terms.specs.Definitions.{signature}
use Rattle.sy_grammar_base.specs.Questions as questions
use Rattle.sy_grammar_base.specs.Fits.{GoalFits}
use Rattle.sy_scope_names.specs.Contexts as contexts
use Rattle.sy_scope_declared.specs.Seen.{sought_of}
use Rattle.sy_scope_declared.proofs.Alike.{holds_at, more_alike}
use Rattle.sy_scope_declared.proofs.check.all_wanted.Goals as goal

pub wanted_of-requires-clause-fits : goal.wanted_of-requires-clause-fits
wanted_of-requires-clause-fits g c =
    holds_at (GoalFits g.T.Theory.owned g.T.Theory.numeric (map signature c.args.defs.now)) contexts.goal_sought (sought_of g.T.Theory.denotes c.args.logic)
    c.args.sought.now c.loop-one.one-index c.one-item.result c.loop-one-test.true c.one-item.is c.requires.fit

pub loop-one-preserved : goal.loop-one-preserved
loop-one-preserved g c =
    more_alike (questions.goal_of g.T.Theory.denotes) contexts.goal_sought (sought_of g.T.Theory.denotes c.args.logic) c.push.new.self c.loop-one.wanted c.in_ok-wanted_of.field-0
    c.args.sought.now c.loop-one.one-index c.one-item.result c.in_ok-push.ensures.ok c.loop-one-test.true c.one-item.is c.loop-one.invariant c.in_ok-wanted_of.ensures
