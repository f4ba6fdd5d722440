use Rattle.std.proofs.Common.{subst, sym, List, ℤ}
use Rattle.sy_terms.specs.Values.{Whole}
use Rattle.sy_terms.specs.Denoted.{vals_of}
use Rattle.sy_terms.specs.declared.sort.Value.{Value}
use Rattle.sy_query_base.specs.Asked.{query_of, Satisfies}
use Rattle.sy_lower_laws.proofs.Integers.{term_integers}
use Rattle.sy_intsolve.proofs.Fitting as step
use Rattle.sy_intsolve.proofs.lowered.solve_lowered.Goals as goal

pub solve_query-requires : goal.solve_query-requires
solve_query-requires c =
    let fits = step.fits_lowered (query_of Whole c.args.query.now) (query_of Whole c.args.lowered.now) c.requires.lowered c.requires.fits (term_integers c.args.query.now.body) in
    record { asked = step.asked (query_of Whole c.args.lowered.now) fits (c.is_numbered.ensures.nodes c.if-not-is_numbered.false) (c.is_numbered.ensures.vars c.if-not-is_numbered.false) }

pub returns-in-Never : goal.returns-in-Never
returns-in-Never c =
    step.never (query_of Whole c.args.query.now) (query_of Whole c.args.lowered.now) c.in-Never.tree c.requires.lowered (term_integers c.args.query.now.body) (rw c.in-Never.is at c.in_ok-verdict.ensures)

pub returns-in_ok-first-in-Model : goal.returns-in_ok-first-in-Model
returns-in_ok-first-in-Model c =
    let model = step.model (query_of Whole c.args.query.now) (query_of Whole c.args.lowered.now) c.in-Model.values c.requires.lowered c.requires.fits (term_integers c.args.query.now.body) (rw c.in-Model.is at c.in_ok-verdict.ensures) in
    let is = rw (c.len.ensures, c.as_slice.ensures) at c.in_ok-first-in-Model.ensures in
    subst (λ (values : List (Value ℤ)). Satisfies (query_of Whole c.args.query.now) (vals_of Whole values)) (sym is) model

pub returns-in-Spent : goal.returns-in-Spent
returns-in-Spent c =
    step.spent (query_of Whole c.args.query.now) (query_of Whole c.args.lowered.now) c.args.limits.now c.in-Spent.spent c.requires.lowered (rw c.in-Spent.is at c.in_ok-verdict.ensures)
