use Rattle.std.proofs.Common.{◌≡◌, ◌++◌}
use Rattle.sy_forms_items.specs.Locals.{named_in}
use Rattle.sy_forms_items.proofs.locals.Locals.append.Given as goal

abbrev pub invariant-loop-local : goal.invariant-loop-local
invariant-loop-local l = l.self ++ named_in l.local-iterator.rest.items ≡ l.fn.self ++ l.fn.more
