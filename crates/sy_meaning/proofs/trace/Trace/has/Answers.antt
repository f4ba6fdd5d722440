use Rattle.std.proofs.Common.{arith, ◌≡◌, sym, ◌∙◌, subst, true, false}
use Rattle.std.proofs.lemmas.List.{take_all}
use Rattle.sy_terms.specs.Denoted.{vals_of}
use Rattle.sy_terms_operators.specs.Tracing.{has_call}
use Rattle.sy_terms_operators.proofs.Traced.{scan-found, scan-more}
use Rattle.sy_meaning.proofs.trace.Trace.has.Goals as goal

pub returns-then-is_call : goal.returns-then-is_call
returns-then-is_call g c =
    let found = scan-found g.T.Theory.denotes c.as_slice-call-items.result.now c.loop-call.call-index c.call-item.result (omega arith) c.call-item.is _ _ (sym c.is_call.ensures ∙ c.if-is_call.true) in
    let here = rw (c.as_slice-call-items.ensures) at found in
    sym (subst (λ calls. has_call calls c.args.function (vals_of g.T.Theory.denotes c.args.values.now) ≡ true) c.self.view_is here)

pub loop-call-preserved : goal.loop-call-preserved
loop-call-preserved g c =
    scan-more g.T.Theory.denotes c.as_slice-call-items.result.now c.loop-call.call-index c.call-item.result (omega arith) c.call-item.is _ _ c.loop-call.invariant (sym c.is_call.ensures ∙ c.if-is_call.false)

pub returns : goal.returns
returns g c =
    let nothing = c.loop-call.invariant in
    let all = take_all c.loop-call.call-index c.as_slice-call-items.result.now (omega arith) in
    let here = rw (all, c.as_slice-call-items.ensures) at nothing in
    sym (subst (λ calls. has_call calls c.args.function (vals_of g.T.Theory.denotes c.args.values.now) ≡ false) c.self.view_is here)
