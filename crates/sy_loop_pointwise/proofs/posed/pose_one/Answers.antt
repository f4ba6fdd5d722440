use Rattle.std.proofs.Common.{◌<◌, ap, sym, subst, length, arith}
use Rattle.std.proofs.lemmas.List.{length-map}
use Rattle.std.proofs.lemmas.Result.{IfOk-from_err}
use Rattle.sy_terms.specs.Denoted.{expr_of}
use Rattle.sy_grammar_base.specs.Questions.{question_of}
use Rattle.sy_loop_spec.specs.WrittenOut.{written_out}
use Rattle.sy_loop_pointwise.specs.Denoted.{shape_of}
use Rattle.sy_loop_pointwise.specs.Shapes.{AreSubterms, subterms}
use Rattle.sy_loop_pointwise.specs.Asked.{AreKnown}
use Rattle.sy_loop_pointwise.specs.declared.asks.Asks.TheVariants.{Nothing, Calls, Mixed}
use Rattle.sy_loop_pointwise.proofs.Kept.{known_at}
use Rattle.sy_loop_pointwise.proofs.posed.pose_one.Goals as goal

pub all_asks-requires : goal.all_asks-requires
all_asks-requires g c = record { subterms = subst AreSubterms (sym c.shapes.ensures.shapes) c.shapes.ensures.are }

pub returns-in-Nothing : goal.returns-in-Nothing
returns-in-Nothing g c =
    let number = g.T.Theory.denotes in
    let out = written_out (question_of number c.args.problem.now) (expr_of number c.args.constraint.now) in
    let known = subst (λ shapes. AreKnown (subterms shapes) c.in_ok-asks.asks.items) c.shapes.ensures.shapes c.in_ok-asks.ensures.known in
    let within : c.in_ok-table.number < length c.as_slice.result.now = omega (arith, ap length c.as_slice.ensures.value, c.in_ok-asks.ensures.many, length-map c.shapes.result.now (shape_of number), ap length c.shapes.ensures.shapes, c.in_ok-table.ensures.within) in
    known_at (subterms c.in_ok-table.table) c.in_ok-asks.asks.items c.as_slice.result.now c.in_ok-table.number out _ Nothing c.as_slice.ensures.value known within (c.in_ok-table.ensures.is c.args.problem.now.vars (sym c.len.ensures)) c.in-Nothing.is

pub returns-in-Calls : goal.returns-in-Calls
returns-in-Calls g c =
    let number = g.T.Theory.denotes in
    let out = written_out (question_of number c.args.problem.now) (expr_of number c.args.constraint.now) in
    let known = subst (λ shapes. AreKnown (subterms shapes) c.in_ok-asks.asks.items) c.shapes.ensures.shapes c.in_ok-asks.ensures.known in
    let within : c.in_ok-table.number < length c.as_slice.result.now = omega (arith, ap length c.as_slice.ensures.value, c.in_ok-asks.ensures.many, length-map c.shapes.result.now (shape_of number), ap length c.shapes.ensures.shapes, c.in_ok-table.ensures.within) in
    known_at (subterms c.in_ok-table.table) c.in_ok-asks.asks.items c.as_slice.result.now c.in_ok-table.number out _ (Calls c.in-Calls.call) c.as_slice.ensures.value known within (c.in_ok-table.ensures.is c.args.problem.now.vars (sym c.len.ensures)) c.in-Calls.is

pub returns-in-Mixed : goal.returns-in-Mixed
returns-in-Mixed g c = λ arguments posed.
    let number = g.T.Theory.denotes in
    let out = written_out (question_of number c.args.problem.now) (expr_of number c.args.constraint.now) in
    let known = subst (λ shapes. AreKnown (subterms shapes) c.in_ok-asks.asks.items) c.shapes.ensures.shapes c.in_ok-asks.ensures.known in
    let within : c.in_ok-table.number < length c.as_slice.result.now = omega (arith, ap length c.as_slice.ensures.value, c.in_ok-asks.ensures.many, length-map c.shapes.result.now (shape_of number), ap length c.shapes.ensures.shapes, c.in_ok-table.ensures.within) in
    known_at (subterms c.in_ok-table.table) c.in_ok-asks.asks.items c.as_slice.result.now c.in_ok-table.number out _ Mixed c.as_slice.ensures.value known within (c.in_ok-table.ensures.is c.args.problem.now.vars (sym c.len.ensures)) c.in-Mixed.is
    arguments (record { same = posed.same; plain = posed.plain })

pub returns-in_err-table : goal.returns-in_err-table
returns-in_err-table g c = IfOk-from_err c.from_residual.result _ c.from_residual.ensures.0

pub returns-in_err-asks : goal.returns-in_err-asks
returns-in_err-asks g c = IfOk-from_err c.from_residual-in_err-asks.result _ c.from_residual-in_err-asks.ensures.0
