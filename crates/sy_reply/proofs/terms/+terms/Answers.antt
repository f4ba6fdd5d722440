use Rattle.std.proofs.Common.{arith, sym, ◌∙◌, ap, ◌++◌, length, drop}
use Rattle.std.proofs.lemmas.List.{drop_all}
use Rattle.sy_reply.proofs.Written as written
use Rattle.sy_reply.proofs.terms.+terms.Goals as goal

pub write_term-write_value-requires : goal.write_term-write_value-requires
write_term-write_value-requires g t c = written.constant-fits g.T.Theory.denotes _ _ c.args.term.now c.in-Const.value c.in-Const.is c.requires

pub write_term-write_name-requires : goal.write_term-write_name-requires
write_term-write_name-requires g t c = written.variable-fits g.T.Theory.denotes _ _ c.args.term.now c.in-Var.position c.in-Var.is c.requires

pub write_term-write_parts-requires : goal.write_term-write_parts-requires
write_term-write_parts-requires g t c κs within =
    let falls = written.application-falls g.T.Theory.denotes c.args.term.now c.in-App.operator c.in-App.parts c.in-App.is in
    (omega (arith, falls, c.decreases), (within.0, (within.1, written.application-fits g.T.Theory.denotes _ _ c.args.term.now c.in-App.operator c.in-App.parts c.in-App.is c.requires)))

pub write_term-write_function-requires : goal.write_term-write_function-requires
write_term-write_function-requires g t c =
    (written.call-fits g.T.Theory.denotes _ _ c.args.term.now c.in-Call.function c.in-Call.parts c.in-Call.is c.requires).0

pub write_term-write_function-requires-in-Call : goal.write_term-write_function-requires-in-Call
write_term-write_function-requires-in-Call g t c =
    (written.call-fits g.T.Theory.denotes _ _ c.args.term.now c.in-Call.function c.in-Call.parts c.in-Call.is c.requires).0

pub write_term-write_parts-requires-in-Call : goal.write_term-write_parts-requires-in-Call
write_term-write_parts-requires-in-Call g t c κs within =
    let falls = written.call-falls g.T.Theory.denotes c.args.term.now c.in-Call.function c.in-Call.parts c.in-Call.is in
    (omega (arith, falls, c.decreases), (within.0, (within.1, (written.call-fits g.T.Theory.denotes _ _ c.args.term.now c.in-Call.function c.in-Call.parts c.in-Call.is c.requires).1)))

pub write_term-unreachable-requires : goal.write_term-unreachable-requires
write_term-unreachable-requires g t c = written.binding-fits g.T.Theory.denotes _ _ c.args.term.now _ _ c.in-Let.is c.requires

pub write_term-returns-in-Const : goal.write_term-returns-in-Const
write_term-returns-in-Const g t c = rw (written.constant-text g.T.Theory.denotes c.args.arguments.now c.args.definitions.now c.args.term.now c.in-Const.value c.in-Const.is) c.write_value.ensures

pub write_term-returns-in-Var : goal.write_term-returns-in-Var
write_term-returns-in-Var g t c = rw (written.variable-text g.T.Theory.denotes c.args.arguments.now c.args.definitions.now c.args.term.now c.in-Var.position c.in-Var.is) c.write_name.ensures

pub write_term-returns-then-len-eq0 : goal.write_term-returns-then-len-eq0
write_term-returns-then-len-eq0 g t c =
    rw (written.name-text g.T.Theory.denotes c.args.arguments.now c.args.definitions.now c.args.term.now c.in-Call.function c.in-Call.parts c.in-Call.is (omega (arith, c.len.ensures, c.if-len-eq0.true))) c.write_function.ensures

pub write_term-returns-in_ok-write_parts-in-App : goal.write_term-returns-in_ok-write_parts-in-App
write_term-returns-in_ok-write_parts-in-App g t c =
    rw (written.application-text g.T.Theory.denotes c.args.arguments.now c.args.definitions.now c.args.term.now c.in-App.operator c.in-App.parts c.in-App.is)
    (written.on_ok c.append-in-App.result c.append-in-App.ensures.ok (λ closed.
    written.appended_in_four _ _ _ _ _ _ _ _ _ c.in_ok-append-in-App.ensures.ok c.in_ok-write_operator-in-App.ensures c.in_ok-write_parts-in-App.ensures closed))

pub write_term-returns-in_ok-write_parts-in-Call : goal.write_term-returns-in_ok-write_parts-in-Call
write_term-returns-in_ok-write_parts-in-Call g t c =
    rw (written.call-text g.T.Theory.denotes c.args.arguments.now c.args.definitions.now c.args.term.now c.in-Call.function c.in-Call.parts c.in-Call.is (omega (arith, c.len.ensures, c.if-len-eq0.false)))
    (written.on_ok c.append-in-Call-2.result c.append-in-Call-2.ensures.ok (λ closed.
    written.appended_in_four _ _ _ _ _ _ _ _ _ c.in_ok-append-in-Call.ensures.ok c.in_ok-write_function-in-Call.ensures c.in_ok-write_parts-in-Call.ensures closed))

pub write_parts-write_term-requires : goal.write_parts-write_term-requires
write_parts-write_term-requires g t c κs within =
    let left = written.from_item c.as_slice-term-items.result.now c.loop-term.term-index c.term-item.result c.loop-term-test.true c.term-item.is in
    let least = written.nodes_within g.T.Theory.denotes c.as_slice-term-items.result.now c.loop-term.term-index c.term-item.result c.loop-term-test.true c.term-item.is in
    let same = c.as_slice-term-items.ensures in
    (omega (arith, rw same at least, c.decreases), (within.0, (within.1, (written.first-fits g.T.Theory.denotes _ _ _ _ c.term-item.result left c.loop-term.invariant.fit).0)))

pub write_parts-loop-term-preserved : goal.write_parts-loop-term-preserved
write_parts-loop-term-preserved g t c =
    let left = written.from_item c.as_slice-term-items.result.now c.loop-term.term-index c.term-item.result c.loop-term-test.true c.term-item.is in
    record {
      text =
          let first = written.first-text g.T.Theory.denotes c.args.arguments.now c.args.definitions.now _ _ c.term-item.result left in
          written.spaced_step c.loop-term.out c.append.new.self c.write_term.new.out _ _ _ c.in_ok-append.ensures.ok c.in_ok-write_term.ensures
          (ap (λ text. c.loop-term.out ++ text) (sym first) ∙ c.loop-term.invariant.text);
      fit = (written.first-fits g.T.Theory.denotes _ _ _ _ c.term-item.result left c.loop-term.invariant.fit).1;
    }

pub write_parts-returns : goal.write_parts-returns
write_parts-returns g t c =
    let none = written.empty-text g.T.Theory.denotes c.args.arguments.now c.args.definitions.now (drop c.loop-term.term-index c.as_slice-term-items.result.now) (ap length (drop_all c.loop-term.term-index c.as_slice-term-items.result.now c.loop-term-test.false)) in
    written.ended c.loop-term.out _ _ none c.loop-term.invariant.text
