use Rattle.std.proofs.Common.{◌∙◌, sym, ap, map, None, List, Option, [], ◌∷◌, ◌++◌}
use Rattle.std.proofs.lemmas.List.{map_push, take_all}
use Rattle.std.specs.Option.{option_map}
use Rattle.sy_terms.specs.Denoted.{expr_of}
use Rattle.sy_terms.specs.Expr.{Expr}
use Rattle.sy_grammar_base.specs.Questions.{goal_of}
use Rattle.sy_reply_reader.specs.Slots.{no_bodies, slots_of}
use Rattle.sy_reply_reader.proofs.Filled.{nones}
use Rattle.sy_reply_reader.proofs.slots.no_bodies.Goals as goal

pub loop-preserved : goal.loop-preserved
loop-preserved g c =
    let number = g.T.Theory.denotes in
    ap (slots_of number) c.in_ok-push.ensures.items ∙ map_push (option_map (expr_of number)) c.loop.slots.items None
    ∙ ap (λ (done : List (Option Expr)). done ++ None ∷ []) c.loop.invariant
    ∙ sym (nones (goal_of number) c.args.wanted.now c.loop.index c.loop-test.true)

pub returns : goal.returns
returns g c =
    let number = g.T.Theory.denotes in
    c.loop.invariant ∙ ap (λ ws. no_bodies (map (goal_of number) ws)) (take_all c.loop.index c.args.wanted.now c.loop-test.false)
