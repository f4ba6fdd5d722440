use Rattle.std.proofs.Common.{◌∙◌, ap, subst, sym, arith, List, Bool, length}
use Rattle.std.specs.Prelude.{slice_index_or, false}
use Rattle.std.proofs.lemmas.List.{length-map}
use Rattle.std.proofs.lemmas.Result.{IfOk-from_err}
use Rattle.sy_clauses.specs.Clauses.{IsModel}
use Rattle.sy_cdcl.specs.Answer.{or_false}
use Rattle.sy_cdcl.proofs.Ends.{model_of}
use Rattle.sy_cdcl.proofs.solver.model_of.Goals as goal

pub returns : goal.returns
returns c =
    let cnf = c.args.cnf.now in
    let s = c.args.state.now in
    let made = c.in_ok-values.ensures in
    let long = ap length made ∙ length-map s.trail.values.items or_false in
    let all = c.requires.sound.all in
    let same = s.trail.values.ok.0 in
    record {
      long = omega (arith, long, all, same);
      model = subst (λ (vs : List Bool). IsModel (λ v. slice_index_or vs v false) cnf.clauses) (sym made)
          (model_of cnf.vars s.trail.values.items cnf.clauses s.derived.items c.requires.sound.vars c.requires.settled c.requires.valued);
    }

pub returns-in_err-values : goal.returns-in_err-values
returns-in_err-values c = IfOk-from_err c.from_residual.result _ c.from_residual.ensures.0
