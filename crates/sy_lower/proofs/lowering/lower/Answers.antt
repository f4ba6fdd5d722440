use Rattle.std.proofs.Common.{sym, subst}
use Rattle.sy_terms.specs.Values.{Whole}
use Rattle.sy_query_base.specs.Asked.{query_of}
use Rattle.sy_lower_laws.specs.Laws.{IsLowering, IsSmall}
use Rattle.sy_lower_laws.proofs.Bounds.{lowering_small}
use Rattle.sy_lower_laws.proofs.Lowered.{lowering_is}
use Rattle.sy_lower_laws.proofs.Integers.{term_integers}
use Rattle.sy_lower.proofs.lowering.lower.Goals as goal

pub returns-clause-law : goal.returns-clause-law
returns-clause-law c = λ fits.
    let query = query_of Whole c.args.query.now in
    subst (IsLowering query) (sym c.in_ok-found.ensures) (lowering_is query fits (term_integers c.args.query.now.body))

pub returns-clause-small : goal.returns-clause-small
returns-clause-small c = λ fits.
    let query = query_of Whole c.args.query.now in
    subst (IsSmall query) (sym c.in_ok-found.ensures) (lowering_small query fits (term_integers c.args.query.now.body))
