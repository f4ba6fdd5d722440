use Rattle.std.proofs.Common.{List, ◌∙◌, ap, sym, subst, length, vec_len}
use Rattle.std.proofs.lemmas.List.{length-map}
use Rattle.std.proofs.lemmas.Result.{IfOk-from_err}
use Rattle.sy_clauses.specs.Clauses.{Clause, literals}
use Rattle.sy_cdcl.specs.Trails.{VarsBelow}
use Rattle.sy_cdcl.proofs.Ends.{attach_vars, option_map_facts}
use Rattle.sy_cdcl.proofs.States.{sound_first, stored_first, stuck_first}
use Rattle.sy_cdcl.proofs.solver.attach_all.Goals as goal

pub attach-requires-clause-vars : goal.attach-requires-clause-vars
attach-requires-clause-vars c =
    let s = c.args.state.now in
    subst (λ (ks : List Clause). VarsBelow (vec_len s.trail.values) ks) (sym (stored_first c.args.cnf.now s c.requires.fresh))
    (attach_vars c.args.cnf.now s.derived.items (vec_len s.trail.values) c.requires.vars c.requires.fresh.derived c.requires.fresh.vars)

pub attach-requires-clause-count : goal.attach-requires-clause-count
attach-requires-clause-count c =
    ap length c.requires.fresh.stored ∙ length-map c.args.cnf.now.clauses literals ∙ c.requires.count

pub returns-clause-ends : goal.returns-clause-ends
returns-clause-ends c =
    let e = c.in_ok-conflict.ensures in
    let s = c.args.state.now in
    option_map_facts c.in_ok-conflict.conflict
    (sound_first c.args.cnf.now s c.attach.new.trail c.attach.new.watches c.requires.fresh c.requires.vars e.ready e.extends)
    (λ n k. stuck_first c.args.cnf.now s c.attach.new.trail c.attach.new.watches n c.requires.fresh e.ready e.extends k)
    e.ends

pub returns-in_err-conflict-clause-ends : goal.returns-in_err-conflict-clause-ends
returns-in_err-conflict-clause-ends c = IfOk-from_err c.from_residual.result _ c.from_residual.ensures.0
