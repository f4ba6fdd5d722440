use Rattle.std.proofs.Common.{◌∙◌, ◌++◌, sym, subst, true}
use Rattle.std.proofs.lemmas.Bool.{true≢false}
use Rattle.sy_terms.specs.declared.term.Fun.TheVariants.{Wanted}
use Rattle.sy_loop_pointwise.specs.Denoted.{shapes_of}
use Rattle.sy_loop_pointwise.specs.Shapes.{subterms}
use Rattle.sy_loop_pointwise.specs.Asked.{AreApplications, IsTheCall}
use Rattle.sy_loop_pointwise.proofs.Asked.{same_joined, others_joined, mixed_first, mixed_second}
use Rattle.sy_loop_pointwise.proofs.asks.joined.Goals as goal

pub returns-then-same_arguments : goal.returns-then-same_arguments
returns-then-same_arguments g c = λ ones others first second.
    let terms = subterms (shapes_of g.T.Theory.denotes c.args.shapes.now) in
    let one : IsTheCall terms ones c.in-Calls-Calls.one = subst (AreApplications terms ones) c.in-Calls-Calls.is-0 first in
    let other : IsTheCall terms others c.in-Calls-Calls.other = subst (AreApplications terms others) c.in-Calls-Calls.is-1 second in
    let told = c.same_arguments.ensures (Wanted one.application.0) (Wanted other.application.0) one.application.1 other.application.1 one.is other.is in
    subst (AreApplications terms (ones ++ others)) (sym c.in-Calls-Calls.is-0) (same_joined terms ones others c.in-Calls-Calls.one c.in-Calls-Calls.other one other (told.0 c.if-same_arguments.true))

pub returns-else-same_arguments : goal.returns-else-same_arguments
returns-else-same_arguments g c = λ ones others first second.
    let terms = subterms (shapes_of g.T.Theory.denotes c.args.shapes.now) in
    let one : IsTheCall terms ones c.in-Calls-Calls.one = subst (AreApplications terms ones) c.in-Calls-Calls.is-0 first in
    let other : IsTheCall terms others c.in-Calls-Calls.other = subst (AreApplications terms others) c.in-Calls-Calls.is-1 second in
    let told = c.same_arguments.ensures (Wanted one.application.0) (Wanted other.application.0) one.application.1 other.application.1 one.is other.is in
    others_joined terms ones others c.in-Calls-Calls.one c.in-Calls-Calls.other one other (λ same. true≢false (sym (told.1 same) ∙ c.if-same_arguments.false))

pub returns-in_default : goal.returns-in_default
returns-in_default g c = λ ones others first second.
    let terms = subterms (shapes_of g.T.Theory.denotes c.args.shapes.now) in
    mixed_second terms ones others (subst (AreApplications terms others) c.in_default.is-1 second)

pub returns-in_default-2 : goal.returns-in_default-2
returns-in_default-2 g c = λ ones others first second.
    let terms = subterms (shapes_of g.T.Theory.denotes c.args.shapes.now) in
    mixed_first terms ones others (subst (AreApplications terms ones) c.in_default.is-0 first)
