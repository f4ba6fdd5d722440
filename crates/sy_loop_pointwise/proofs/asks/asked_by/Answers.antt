use Rattle.std.proofs.Common.{◌<◌, arith, length, take, subst, sym, get_or, refl}
use Rattle.std.proofs.lemmas.List.{take_all}
use Rattle.std.proofs.lemmas.List.Elements.{All-get_or}
use Rattle.std.proofs.lemmas.Option.{slice_get-get_or}
use Rattle.sy_loop_spec.specs.Applications.{applications, all_applications}
use Rattle.sy_loop_pointwise.specs.Denoted.{shapes_of}
use Rattle.sy_loop_pointwise.specs.Shapes.{subterms, term_of, terms_of}
use Rattle.sy_loop_pointwise.specs.Asked.{AreApplications}
use Rattle.sy_loop_pointwise.proofs.Kept.{asked_nothing, asked_more}
use Rattle.sy_loop_pointwise.proofs.asks.asked_by.Goals as goal

pub loop-number-init : goal.loop-number-init
loop-number-init g c = asked_nothing

pub bounds-asks-number : goal.bounds-asks-number
bounds-asks-number g c = All-get_or (λ n. n < length c.args.asks.now) c.args.numbers.now c.loop-number.number-index 0 (omega arith) c.requires.below

pub loop-number-preserved : goal.loop-number-preserved
loop-number-preserved g c =
    let l = c.loop-number in
    let terms = subterms (shapes_of g.T.Theory.denotes c.args.shapes.now) in
    let numbers = c.args.numbers.now in
    let number = get_or numbers l.number-index 0 in
    let within : number < length c.args.asks.now = All-get_or (λ n. n < length c.args.asks.now) numbers l.number-index 0 (omega arith) c.requires.below in
    subst (λ all. AreApplications terms all c.joined-all.result) (sym (asked_more terms numbers l.number-index number (omega arith) refl))
    (c.joined-all.ensures (all_applications (terms_of terms (take l.number-index numbers))) (applications (term_of terms number)) l.invariant (c.requires.known number _ (slice_get-get_or c.args.asks.now number _ within)))

pub returns : goal.returns
returns g c =
    let l = c.loop-number in
    let terms = subterms (shapes_of g.T.Theory.denotes c.args.shapes.now) in
    subst (λ numbers. AreApplications terms (all_applications (terms_of terms numbers)) l.all) (take_all l.number-index c.args.numbers.now (omega arith)) l.invariant
