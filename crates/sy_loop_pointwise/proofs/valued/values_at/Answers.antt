use Rattle.std.proofs.Common.{[], ◌<◌, subst, length, get_or, arith}
use Rattle.std.specs.List.{AllZip}
use Rattle.std.proofs.lemmas.List.{take_all}
use Rattle.std.proofs.lemmas.List.Elements.{All-get_or}
use Rattle.std.proofs.lemmas.Option.{slice_get-get_or}
use Rattle.std.proofs.lemmas.Result.{IfOk-from_err}
use Rattle.sy_terms.specs.Denoted.{val_of}
use Rattle.sy_terms_operators.specs.Evaluation.{HasValue}
use Rattle.sy_loop_pointwise.specs.Shapes.{term_of}
use Rattle.sy_loop_pointwise.specs.Valued.{IsValued}
use Rattle.sy_loop_pointwise.proofs.Values.{all_valued, one_unvalued, zip_more}
use Rattle.sy_loop_pointwise.proofs.valued.values_at.Goals as goal

pub loop-number-init : goal.loop-number-init
loop-number-init g c = rw (c.in_ok-values.ensures.items) (λ scope defined values terms each below. tt)

pub returns-in-None : goal.returns-in-None
returns-in-None g c = λ scope defined values terms each below.
    let numbers = c.args.numbers.now in
    let place = c.loop-number.number-index in
    let at = get_or numbers place 0 in
    let within : at < length c.args.found.now = All-get_or (λ n. n < length c.args.found.now) numbers place 0 (omega arith) below in
    let own = subst (IsValued g.T.Theory.denotes scope defined values (term_of terms at)) c.in-None.is (c.value_at.ensures scope defined values terms each within) in
    one_unvalued g.T.Theory.denotes scope defined values terms numbers place at (slice_get-get_or numbers place 0 (omega arith)) own

pub loop-number-preserved : goal.loop-number-preserved
loop-number-preserved g c = λ scope defined values terms each below.
    let number = g.T.Theory.denotes in
    let numbers = c.args.numbers.now in
    let place = c.loop-number.number-index in
    let at = get_or numbers place 0 in
    let within : at < length c.args.found.now = All-get_or (λ n. n < length c.args.found.now) numbers place 0 (omega arith) below in
    let own = subst (IsValued number scope defined values (term_of terms at)) c.in-Some.is (c.value_at.ensures scope defined values terms each within) in
    rw (c.in_ok-push-in-Some.ensures.items)
    (zip_more (λ n v. HasValue scope defined [] values (term_of terms n) (val_of number v)) numbers c.loop-number.values.items place 0 c.in-Some.value (omega arith) (c.loop-number.invariant scope defined values terms each below) own)

pub returns : goal.returns
returns g c = λ scope defined values terms each below.
    let number = g.T.Theory.denotes in
    let numbers = c.args.numbers.now in
    let found = c.loop-number.values.items in
    let all = subst (λ ns. AllZip (λ n v. HasValue scope defined [] values (term_of terms n) (val_of number v)) ns found) (take_all c.loop-number.number-index numbers (omega arith)) (c.loop-number.invariant scope defined values terms each below) in
    rw (c.from.ensures) (all_valued number scope defined values terms numbers found all)

pub returns-in_err-values : goal.returns-in_err-values
returns-in_err-values g c = IfOk-from_err c.from_residual.result _ c.from_residual.ensures.0

pub returns-in_err-push-in-Some : goal.returns-in_err-push-in-Some
returns-in_err-push-in-Some g c = IfOk-from_err c.from_residual-in_err-push-in-Some.result _ c.from_residual-in_err-push-in-Some.ensures.0
