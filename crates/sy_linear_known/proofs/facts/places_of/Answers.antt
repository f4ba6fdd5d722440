use Rattle.std.specs.Prelude.{nat_eq}
use Rattle.std.specs.HashMap.{get}
use Rattle.std.proofs.lemmas.Result.{IfOk-from_err}
use Rattle.sy_linear_known.proofs.Keying.{keyed-next, keyed-last}
use Rattle.sy_linear_known.proofs.facts.places_of.Goals as goal

pub loop-fact-preserved : goal.loop-fact-preserved
loop-fact-preserved c =
    let l = c.loop-fact in
    keyed-next (get nat_eq l.places) (get nat_eq c.note.new.places) c.args.facts.now l.fact-index c.fact-item.result c.loop-fact-test.true c.fact-item.is
    c.in_ok-note.ensures.kept l.invariant c.in_ok-note.ensures.keyed

pub returns : goal.returns
returns c = keyed-last (get nat_eq c.loop-fact.places) c.args.facts.now c.loop-fact.fact-index c.loop-fact-test.false c.loop-fact.invariant

pub returns-in_err-note : goal.returns-in_err-note
returns-in_err-note c = IfOk-from_err c.from_residual.result _ c.from_residual.ensures.0
