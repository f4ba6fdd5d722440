use Rattle.std.proofs.Common.{◌≡◌, ◌++◌, take}
use Rattle.sy_cdcl.proofs.store.Store.extend.Given as goal

abbrev pub invariant-loop-literal : goal.invariant-loop-literal
invariant-loop-literal l = record {
  codes : l.self.codes.items ≡ l.initial.self.codes.items ++ take l.literal-index l.clause;
  spans : l.self.spans.items ≡ l.initial.self.spans.items;
}
