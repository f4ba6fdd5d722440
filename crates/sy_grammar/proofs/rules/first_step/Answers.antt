use Rattle.std.proofs.Common.{refl, arith}
use Rattle.std.proofs.lemmas.List.{length-map}
use Rattle.std.proofs.lemmas.Option.{slice_get_read, slice_get_within}
use Rattle.sy_grammar_base.specs.Grown.{production_of}
use Rattle.sy_grammar.proofs.Grammars.{none_more}
use Rattle.sy_grammar.proofs.rules.first_step.Goals as goal

pub loop-place-preserved : goal.loop-place-preserved
loop-place-preserved g c =
    none_more g.T.Theory.denotes c.args.rules.now _ _ _ _ c.loop-place.place c.index-rules-place.result c.loop-place.invariant
    (slice_get_read c.args.rules.now _ c.loop-place.place c.index-rules-place.result refl c.loop-place-test.true c.index-rules-place.is)
    (rw c.in_default.is at c.in_ok-made.ensures)

pub returns : goal.returns
returns g c = λ rule production at.
    let within = slice_get_within _ rule production at in
    let sized = length-map c.args.rules.now (production_of g.T.Theory.denotes) in
    c.loop-place.invariant rule production (omega (arith, within, sized, c.loop-place-test.false)) at
