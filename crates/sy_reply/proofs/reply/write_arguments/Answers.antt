use Rattle.std.proofs.Common.{arith, sym, ◌∙◌, ap, ◌++◌, ⊎_elim}
use Rattle.sy_reply.specs.Replies.{arguments_text, argument_text}
use Rattle.sy_reply.proofs.Written as written
use Rattle.sy_reply.proofs.Written.{left_text}
use Rattle.sy_reply.proofs.reply.write_arguments.Goals as goal
use Rattle.sy_reply.proofs.reply.write_arguments.Goals.{then-i-gt0+in_ok-append, else-i-gt0}

pub loop-i-preserved : goal.loop-i-preserved
loop-i-preserved c =
    let steps = c.in-Some.ensures.steps in
    let iterator = c.loop-i.i-iterator in
    let next = c.next.new.self in
    let first = written.first-argument iterator.iter.a.rest.now next.iter.a.rest.now iterator.iter.b.rest.now next.iter.b.rest.now c.in-Some.name.now c.in-Some.sort.now steps.0.0 steps.0.1 in
    let left = ap (λ parts. c.loop-i.out ++ left_text iterator.count parts) (sym first) ∙ c.loop-i.invariant in
    rw (steps.2) (elim c.if-i-gt0.branch [
      | then-i-gt0+in_ok-append w ↦
          written.next_step c.loop-i.out c.if-i-gt0.out c.write_argument.new.out _ _ iterator.count _ (omega (arith, steps.1, w.if-i-gt0.true)) (w.out-is ∙ w.in_ok-append.ensures.ok) c.in_ok-write_argument.ensures left
      | else-i-gt0 w ↦
          written.first_step c.loop-i.out c.write_argument.new.out _ _ iterator.count _ (omega (arith, steps.1, w.if-i-gt0.false)) (c.in_ok-write_argument.ensures ∙ ap (λ bytes. bytes ++ argument_text c.in-Some.name.now c.in-Some.sort.now) w.out-is) left
    ])

pub returns : goal.returns
returns c =
    let iterator = c.loop-i.i-iterator in
    let none = ⊎_elim
    (λ ended. written.no_names iterator.iter.a.rest.now iterator.iter.b.rest.now ended.1.0)
    (λ ended. written.no_sorts iterator.iter.a.rest.now iterator.iter.b.rest.now ended.1.0)
    c.in-None.ensures.steps.0 in
    written.ended c.loop-i.out (left_text iterator.count (arguments_text iterator.iter.a.rest.now iterator.iter.b.rest.now)) _ (ap (left_text iterator.count) none ∙ written.left_none iterator.count) c.loop-i.invariant
