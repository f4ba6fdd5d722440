use Rattle.std.proofs.Common.{◌∙◌, sym}
use Rattle.sy_clauses.specs.Clauses.{literals}
use Rattle.sy_cdcl.specs.Storing.{clauses_in}
use Rattle.sy_cdcl.specs.Trails.{kept_values}
use Rattle.sy_cdcl.proofs.Judging.{guarded_by, pair_within, suits_at, stays_unpaired, stays_unknown, stays_true}
use Rattle.sy_cdcl.proofs.propagation.judge.Goals as goal

pub returns : goal.returns
returns c =
    let known = clauses_in c.args.store.now in
    let pairs = c.args.watches.now.pairs.items in
    let head = c.args.watches.now.head in
    let clause = literals c.in-Some-clause.clause.now in
    let had = sym c.pair.ensures ∙ c.in-Some.is in
    let at = c.in-Some-clause.ensures in
    let guarded = guarded_by known c.args.trail.now head pairs c.args.number clause c.in-Some.pair c.requires.watched at had in
    suits_at known (kept_values c.args.trail.now.values.items) pairs c.args.falsified c.other_of-other.result c.args.number clause c.in-Some.pair
    c.inspect.result at had record { one = c.other_of-other.ensures.one; apart = c.other_of-other.ensures.apart guarded.different }
    (pair_within known c.args.trail.now head pairs c.args.number clause c.in-Some.pair c.other_of-other.result c.requires.watched at had c.other_of-other.ensures.one)
    c.inspect.ensures

pub clause-requires : goal.clause-requires
clause-requires c = c.requires.fit

pub inspect-requires : goal.inspect-requires
inspect-requires c = pair_within (clauses_in c.args.store.now) c.args.trail.now c.args.watches.now.head c.args.watches.now.pairs.items c.args.number
    (literals c.in-Some-clause.clause.now) c.in-Some.pair c.other_of-other.result c.requires.watched c.in-Some-clause.ensures
    (sym c.pair.ensures ∙ c.in-Some.is) c.other_of-other.ensures.one

pub returns-in_default : goal.returns-in_default
returns-in_default c = stays_unpaired (clauses_in c.args.store.now) (kept_values c.args.trail.now.values.items) c.args.watches.now.pairs.items
    c.args.falsified c.args.number (sym c.pair.ensures ∙ c.in_default.is)

pub returns-then-is_true : goal.returns-then-is_true
returns-then-is_true c = stays_true (clauses_in c.args.store.now) c.args.trail.now c.args.watches.now.head (kept_values c.args.trail.now.values.items)
    c.args.watches.now.pairs.items c.args.falsified c.other_of-other.result c.args.number c.in-Some.pair c.requires.watched
    (sym c.pair.ensures ∙ c.in-Some.is) c.other_of-other.ensures.one c.if-is_true.ensures

pub returns-in_default-clause : goal.returns-in_default-clause
returns-in_default-clause c = stays_unknown (clauses_in c.args.store.now) (kept_values c.args.trail.now.values.items) c.args.watches.now.pairs.items
    c.args.falsified c.args.number c.in_default-clause.ensures
