-- When the functions that a context is to find have grammars.
use Rattle.std.specs.Prelude.{Bool, map, All}
use Rattle.sy_terms.specs.declared.op.Op.{Op}
use Rattle.sy_terms.specs.declared.sort.Sort.{Sort}
use Rattle.sy_grammar_base.specs.Fits.{GoalFits}
use Rattle.sy_scope_names.specs.Contexts.{Context, definition_signature, goal_sought}

-- the grammars are well formed, and each is that of its function's arguments and value
abbrev pub GoalsFit : (Op → Bool) → (Sort → Bool) → Context → Type 0
GoalsFit owned numeric context = All (GoalFits owned numeric (map definition_signature context.definitions)) (map goal_sought context.sought)
