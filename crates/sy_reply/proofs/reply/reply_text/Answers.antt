use Rattle.std.proofs.Common.{◌≡◌, ◌++◌, ◌∙◌, ap, sym, map, ⊎_elim}
use Rattle.std.specs.Prelude.{codes}
use Rattle.std.specs.List.{concat}
use Rattle.std.proofs.lemmas.List.{length-map}
use Rattle.sy_terms.specs.Denoted.{expr_of}
use Rattle.sy_grammar_base.specs.Questions.{goal_of}
use Rattle.sy_reply.specs.Replies.{line, definitions_text, reply_text}
use Rattle.sy_reply.proofs.Written as written
use Rattle.sy_reply.proofs.reply.reply_text.Goals as goal

pub write_definition-requires : goal.write_definition-requires
write_definition-requires g c =
    let steps = c.in-Some.ensures.steps in
    let titled = (written.first-titled g.T.Theory.denotes _ _ _ _ c.in-Some.title.now c.in-Some.function.now steps.0.0 steps.0.1 c.loop-title.invariant.titled).0 in
    let fits = (written.first-body g.T.Theory.denotes _ _ _ _ _ c.in-Some.function.now c.in-Some.body.now steps.0.1 steps.1 c.loop-title.invariant.bodies).0 in
    rw (titled, c.as_slice-in-loop-title.ensures) (written.wider _ _ _ c.requires.names _ fits)

pub loop-title-preserved : goal.loop-title-preserved
loop-title-preserved g c =
    let steps = c.in-Some.ensures.steps in
    let first = written.first-definition g.T.Theory.denotes c.args.titles.now.defined _ _ _ _ _ _ c.in-Some.title.now c.in-Some.function.now c.in-Some.body.now steps.0.0 steps.0.1 steps.1 in
    record {
      text =
          let appended = rw (c.as_slice-in-loop-title.ensures) at c.in_ok-write_definition.ensures in
          written.line_step c.loop-title.out c.write_definition.new.out _ _ _ appended
          (ap (λ lines. c.loop-title.out ++ concat (map line lines)) (sym first) ∙ c.loop-title.invariant.text);
      titled = (written.first-titled g.T.Theory.denotes _ _ _ _ c.in-Some.title.now c.in-Some.function.now steps.0.0 steps.0.1 c.loop-title.invariant.titled).1;
      bodies = (written.first-body g.T.Theory.denotes _ _ _ _ _ c.in-Some.function.now c.in-Some.body.now steps.0.1 steps.1 c.loop-title.invariant.bodies).1;
    }

pub returns : goal.returns
unfolding reply_text
returns g c =
    let iterator = c.loop-title.title-iterator in
    let goals = map (goal_of g.T.Theory.denotes) iterator.a.b.rest.now in
    let bodies = map (expr_of g.T.Theory.denotes) iterator.b.rest.now in
    let none : definitions_text c.args.titles.now.defined iterator.a.a.rest.now goals bodies ≡ _ = ⊎_elim
    (λ ended. ⊎_elim
    (λ titles. written.no_titles c.args.titles.now.defined iterator.a.a.rest.now goals bodies titles.1.0)
    (λ functions. written.no_goals c.args.titles.now.defined iterator.a.a.rest.now goals bodies (simp length-map functions.1.0))
    ended.1)
    (λ ended. written.no_bodies c.args.titles.now.defined iterator.a.a.rest.now goals bodies (simp length-map ended.1.0))
    c.in-None.ensures.steps in
    let all = written.ended c.loop-title.out _ _ (ap (λ lines. concat (map line lines)) none) c.loop-title.invariant.text in
    written.appended_twice (line (codes "(")) c.loop-title.out c.append-2.new.self _ _ all c.in_ok-append-2.ensures.ok
