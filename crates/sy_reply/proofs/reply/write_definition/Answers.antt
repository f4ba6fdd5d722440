use Rattle.sy_terms.specs.Denoted.{expr_of}
use Rattle.sy_grammar_base.specs.Questions.{goal_of}
use Rattle.sy_reply.proofs.Written as written
use Rattle.sy_reply.proofs.reply.write_definition.Goals as goal

pub returns : goal.returns
returns g c =
    let name = rw (c.as_slice.ensures) at c.in_ok-write_symbol.ensures in
    let arguments = rw (c.as_slice-arguments.ensures, c.as_slice-2.ensures) at c.in_ok-write_arguments.ensures in
    let body = rw (c.as_slice-arguments.ensures) at c.in_ok-write_term.ensures in
    rw (written.definition-parts c.args.definitions.now c.args.title.now (goal_of g.T.Theory.denotes c.args.function.now) (expr_of g.T.Theory.denotes c.args.body.now))
    (written.on_ok c.append-5.result c.append-5.ensures.ok (λ closed.
    written.definition_parts c.args.out.now _ _ _ _ _ _ _ _ c.append-5.new.self _ _ _ _
    c.in_ok-append.ensures.ok name c.in_ok-append-2.ensures.ok arguments c.in_ok-append-3.ensures.ok c.in_ok-write_sort.ensures c.in_ok-append-4.ensures.ok body closed))
