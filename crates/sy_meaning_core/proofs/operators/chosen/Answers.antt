use Rattle.std.proofs.Common.{◌∙◌, sym, arith}
use Rattle.sy_terms.specs.Denoted.{val_of}
use Rattle.sy_meaning_core.proofs.Three.{ite-then, ite-else, ite-length}
use Rattle.sy_meaning_core.proofs.operators.chosen.Goals as goal

pub value_at-requires : goal.value_at-requires
value_at-requires g c = omega (arith, ite-length (val_of g.N.Number.denotes) c.args.values.now c.requires)

pub value_at-requires-then-is_true : goal.value_at-requires-then-is_true
value_at-requires-then-is_true g c = omega (arith, ite-length (val_of g.N.Number.denotes) c.args.values.now c.requires)

pub value_at-requires-else-is_true : goal.value_at-requires-else-is_true
value_at-requires-else-is_true g c = omega (arith, ite-length (val_of g.N.Number.denotes) c.args.values.now c.requires)

pub returns-then-is_true : goal.returns-then-is_true
returns-then-is_true g c =
    let found = ite-then (val_of g.N.Number.denotes) c.args.values.now c.value_at.result c.value_at-then-is_true.result c.requires c.value_at.ensures c.value_at-then-is_true.ensures (sym c.is_true.ensures ∙ c.if-is_true.true) in
    record { value = found.0; valid = found.1 }

pub returns-else-is_true : goal.returns-else-is_true
returns-else-is_true g c =
    let found = ite-else (val_of g.N.Number.denotes) c.args.values.now c.value_at.result c.value_at-else-is_true.result c.requires c.value_at.ensures c.value_at-else-is_true.ensures (sym c.is_true.ensures ∙ c.if-is_true.false) in
    record { value = found.0; valid = found.1 }
