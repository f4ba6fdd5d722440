use Rattle.std.proofs.Common.{◌∙◌, sym, ap, subst, arith, ◌<◌, ◌≤◌, ◌-◌, length, length-take, List}
use Rattle.std.proofs.lemmas.Option.{slice_get_within}
use Rattle.sy_clauses.specs.Clauses.{known_clauses}
use Rattle.sy_clauses.specs.Marking.{clause_of}
use Rattle.sy_clauses.specs.New.{IsUnit}
use Rattle.sy_cdcl_literals.specs.declared.entries.Entry.{Entry}
use Rattle.sy_cdcl.specs.Trails.{entries_values, level_start}
use Rattle.sy_cdcl_literals.specs.Falsified.{SomeFalsified, NoneFalsified}
use Rattle.sy_cdcl.proofs.Learning.{start_within}
use Rattle.sy_cdcl.proofs.Back.{ready_left, levels_left, unit_left, open_below, back_first, back_more}
use Rattle.sy_cdcl.proofs.analysis.go_back.Goals as goal

pub loop-trail-init : goal.loop-trail-init
loop-trail-init c =
    let known = known_clauses c.args.cnf.now.clauses c.args.derived.now in
    let e = c.leave_level.ensures in
    record {
      ready = ready_left known c.args.trail.now c.leave_level.new.self c.requires.deep c.requires.ready e.assignment e.entries e.starts;
      levels = levels_left known c.args.trail.now c.leave_level.new.self c.requires.deep c.requires.ready c.requires.levels e.entries e.starts;
      vars = e.vars;
      unit = subst (λ (t : List Entry). IsUnit (entries_values t) (clause_of c.args.marks.now) c.args.literal.var c.args.literal.positive) (sym e.entries)
          c.requires.unit;
      back = back_first c.args.trail.now c.leave_level.new.self c.requires.deep e.entries e.starts;
    }

pub loop-trail-preserved : goal.loop-trail-preserved
loop-trail-preserved c =
    let known = known_clauses c.args.cnf.now.clauses c.args.derived.now in
    let e = c.leave_level-in-loop-trail.ensures in
    let i = c.loop-trail.invariant in
    let t = c.loop-trail.trail in
    let deep : 0 < length t.starts.items = omega arith in
    let none : NoneFalsified t.entries.items (level_start t.starts.items) (length t.entries.items) (clause_of c.args.marks.now) =
    λ p g l k h. (let x = c.level_start-start.ensures in let y = c.len-in-loop-trail.ensures in let z = t.entries.ok.0 in
    c.if-any_falsifies.ensures p g (omega arith) (omega arith) h) in
    let unit = unit_left t (clause_of c.args.marks.now) c.args.literal.var c.args.literal.positive i.ready.assignment.once (start_within known t i.ready) i.unit none in
    record {
      ready = ready_left known t c.leave_level-in-loop-trail.new.self deep i.ready e.assignment e.entries e.starts;
      levels = levels_left known t c.leave_level-in-loop-trail.new.self deep i.ready i.levels e.entries e.starts;
      vars = e.vars ∙ i.vars;
      unit = subst (λ (x : List Entry). IsUnit (entries_values x) (clause_of c.args.marks.now) c.args.literal.var c.args.literal.positive) (sym e.entries) unit;
      back = back_more c.args.trail.now t c.leave_level-in-loop-trail.new.self c.requires.ready.assignment i.back deep e.entries e.starts;
    }

pub returns-then-any_falsifies-clause-lowest : goal.returns-then-any_falsifies-clause-lowest
returns-then-any_falsifies-clause-lowest c =
    let known = known_clauses c.args.cnf.now.clauses c.args.derived.now in
    let i = c.loop-trail.invariant in
    let t = c.loop-trail.trail in
    let deep : 0 < length t.starts.items = omega arith in
    let some : SomeFalsified t.entries.items (level_start t.starts.items) (length t.entries.items) (clause_of c.args.marks.now) =
    (let x = c.level_start-start.ensures in let y = c.len-in-loop-trail.ensures in let z = t.entries.ok.0 in
    let w : SomeFalsified t.entries.items c.level_start-start.result c.len-in-loop-trail.result (clause_of c.args.marks.now) = c.if-any_falsifies.ensures in
    let l = w.from in let m = w.to in
    record { place = w.place; entry = w.entry; from = omega arith; to = omega arith; at = w.at; hit = w.hit }) in
    open_below known t (clause_of c.args.marks.now) c.args.literal.var c.args.literal.positive deep i.ready i.unit some

pub leave_level-requires-clause-level : goal.leave_level-requires-clause-level
leave_level-requires-clause-level c = c.requires.deep

pub leave_level-requires-clause-assignment : goal.leave_level-requires-clause-assignment
leave_level-requires-clause-assignment c = c.requires.ready.assignment

pub any_falsifies-requires : goal.any_falsifies-requires
any_falsifies-requires c =
    let y = c.len-in-loop-trail.ensures in
    let z = c.loop-trail.trail.entries.ok.0 in
    omega arith

pub loop-trail-smaller : goal.loop-trail-smaller
loop-trail-smaller c =
    let starts = c.loop-trail.trail.starts.items in
    let deep : 0 < length starts = omega arith in
    omega (arith, deep, ap length c.leave_level-in-loop-trail.ensures.starts, length-take (length starts - 1) starts)

pub returns-then-any_falsifies-clause-ready : goal.returns-then-any_falsifies-clause-ready
returns-then-any_falsifies-clause-ready c = c.loop-trail.invariant.ready

pub returns-then-any_falsifies-clause-levels : goal.returns-then-any_falsifies-clause-levels
returns-then-any_falsifies-clause-levels c = c.loop-trail.invariant.levels

pub returns-then-any_falsifies-clause-vars : goal.returns-then-any_falsifies-clause-vars
returns-then-any_falsifies-clause-vars c = c.loop-trail.invariant.vars

pub returns-then-any_falsifies-clause-unit : goal.returns-then-any_falsifies-clause-unit
returns-then-any_falsifies-clause-unit c = c.loop-trail.invariant.unit

pub returns-then-any_falsifies-clause-back : goal.returns-then-any_falsifies-clause-back
returns-then-any_falsifies-clause-back c = c.loop-trail.invariant.back

pub returns-clause-ready : goal.returns-clause-ready
returns-clause-ready c = c.loop-trail.invariant.ready

pub returns-clause-levels : goal.returns-clause-levels
returns-clause-levels c = c.loop-trail.invariant.levels

pub returns-clause-vars : goal.returns-clause-vars
returns-clause-vars c = c.loop-trail.invariant.vars

pub returns-clause-unit : goal.returns-clause-unit
returns-clause-unit c = c.loop-trail.invariant.unit

-- at the lowest level there is none below
pub returns-clause-lowest : goal.returns-clause-lowest
returns-clause-lowest c k n h =
    let w = slice_get_within c.loop-trail.trail.starts.items k n h in
    absurd (omega arith)

pub returns-clause-back : goal.returns-clause-back
returns-clause-back c = c.loop-trail.invariant.back
