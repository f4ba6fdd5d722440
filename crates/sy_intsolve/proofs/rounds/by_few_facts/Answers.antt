use Rattle.std.proofs.Common.{sym, subst}
use Rattle.sy_intsolve_paths_laws.specs.Paths.{IsPath}
use Rattle.sy_intsolve.proofs.rounds.by_few_facts.Goals as goal

pub by_chosen-requires-clause-chosen : goal.by_chosen-requires-clause-chosen
by_chosen-requires-clause-chosen c = subst (IsPath c.args.vars.now) (sym c.as_slice.ensures.value) (c.in_ok-chosen.ensures c.args.vars.now c.requires.path c.loop-round.invariant)
