-- When a task is one that may be done.
use Rattle.std.specs.Prelude.{ℕ, ◌≡◌, ◌<◌, Bool, true, length, Some}
use Rattle.sy_terms.specs.Values.{Val}
use Rattle.sy_terms.specs.Definitions.{DefinitionsFit}
use Rattle.sy_terms.specs.declared.op.Op.{Op}
use Rattle.sy_terms.specs.declared.sort.Sort.{Sort}
use Rattle.sy_grammar_base.specs.Patterns.{Pattern}
use Rattle.sy_grammar_base.specs.Trees.{Syntax, Template, rule_at}
use Rattle.sy_grammar_base.specs.Formed.{is_formed}
use Rattle.sy_bank_level.specs.Rows.{ArePointsOf}
use Rattle.sy_bank_level.specs.Filling.{World}
use Rattle.sy_bank_level.specs.Task.{world}
use Rattle.sy_bank_level.specs.declared.task.Task.{Task}

-- the grammar is well formed, and points have values of the arguments' sorts
pub record IsSet (numeric : Sort → Bool) (w : World) : Type 0 where
  pub formed : is_formed numeric w.scope w.syntax ≡ true
  pub points : ArePointsOf w.syntax.arguments w.points

-- a task that may be done: the definitions fit, and the size is the next one
pub record IsTask {T N : Type 0} (owned : Op → Bool) (numeric : Sort → Bool) (number : N → Val) (task : Task T N) : Type 0 where
  pub definitions : DefinitionsFit owned number task.defs.now
  pub set : IsSet numeric (world owned number task)
  pub sized : task.size ≡ length task.levels.now

-- the rule of this number of the nonterminal gives the pattern
pub record IsRule (syntax : Syntax) (nonterminal rule : ℕ) (pattern : Pattern) : Type 0 where
  pub known : nonterminal < length syntax.nonterminals
  pub at : rule_at syntax nonterminal rule ≡ Some (Template pattern)
