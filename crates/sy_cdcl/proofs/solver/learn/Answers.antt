use Rattle.std.proofs.Common.{◌∙◌, ap, subst, Option, ℕ, length, arith}
use Rattle.std.specs.Prelude.{MatchOption}
use Rattle.std.proofs.lemmas.Result.{IfOk-from_err}
use Rattle.sy_cdcl.specs.States.{StateIsSound, IsFinalConflict}
use Rattle.sy_cdcl.proofs.Courses.{end_idle, end_spent}
use Rattle.sy_cdcl.proofs.solver.learn.Goals as goal

pub loop-learned-init : goal.loop-learned-init
loop-learned-init c =
    let s = c.attach_all.new.state in
    let cnf = c.args.cnf.now in
    record {
      sound = subst (λ (o : Option ℕ). MatchOption o (StateIsSound cnf s) (λ n. IsFinalConflict cnf s n)) c.in_default.is c.in_ok-conflict.ensures.ends;
      lines = ap length (c.attach_all.ensures.lines ∙ c.requires.fresh.lines);
    }

pub returns-then-fuel-eq0 : goal.returns-then-fuel-eq0
returns-then-fuel-eq0 c = end_idle c.args.cnf.now c.args.state.now c.args.fuel c.requires.fresh c.requires.vars c.if-fuel-eq0.true

pub returns : goal.returns
returns c =
    let i = c.loop-learned.invariant in
    let lines = i.lines in
    let test = c.loop-learned-test.false in
    let end = c.loop-learned.auto.learned-end in
    end_spent c.args.cnf.now c.loop-learned.state c.args.fuel i.sound (omega arith)

pub returns-in_err-conflict : goal.returns-in_err-conflict
returns-in_err-conflict c = IfOk-from_err c.from_residual.result _ c.from_residual.ensures.0

pub returns-in_err-found : goal.returns-in_err-found
returns-in_err-found c = IfOk-from_err c.from_residual-in_err-found.result _ c.from_residual-in_err-found.ensures.0

pub returns-in_err-more : goal.returns-in_err-more
returns-in_err-more c = IfOk-from_err c.from_residual-in_err-more.result _ c.from_residual-in_err-more.ensures.0
