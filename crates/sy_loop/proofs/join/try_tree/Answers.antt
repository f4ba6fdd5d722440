use Rattle.sy_loop.proofs.join.try_tree.Goals as goal

pub decide_term-requires-clause-meets : goal.decide_term-requires-clause-meets
decide_term-requires-clause-meets g c = c.requires.meets c.if-served.true
