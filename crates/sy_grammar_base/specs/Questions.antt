-- Problems, apart from how a machine keeps them.
use Rattle.std.specs.Prelude.{List, map}
use Rattle.sy_terms.specs.Values.{Val}
use Rattle.sy_terms.specs.Expr.{Expr}
use Rattle.sy_terms.specs.Fitting.{Signature}
use Rattle.sy_terms.specs.Denoted.{val_of, expr_of}
use Rattle.sy_terms.specs.Definitions.{signature, bodies}
use Rattle.sy_terms.specs.declared.sort.Sort.{Sort}
use Rattle.sy_grammar_base.specs.Trees.{Syntax}
use Rattle.sy_grammar_base.specs.Grown.{syntax_from}
use Rattle.sy_grammar_base.specs.declared.problem.Problem.{Problem}
use Rattle.sy_grammar_base.specs.declared.problem.Wanted.{Wanted}

-- a function to be found
pub record Goal : Type 0 where
  pub signature : Signature
  pub grammar : Syntax

-- what is to be solved: definitions by their signatures and bodies, the sorts of the variables, the functions to be found,
-- assumptions, constraints, and the constants that count as one whole
pub record Question : Type 0 where
  pub signatures : List Signature
  pub definitions : List Expr
  pub variables : List Sort
  pub goals : List Goal
  pub assumptions : List Expr
  pub constraints : List Expr
  pub pool : List Val

-- what a function to be found takes and gives
abbrev pub wanted_signature : {T N : Type 0} → Wanted T N → Signature
wanted_signature wanted = record { takes = wanted.args; gives = wanted.sort }

-- what the functions to be found take and give
abbrev pub signatures : {T N : Type 0} → Problem T N → List Signature
signatures problem = map wanted_signature problem.wanted

abbrev pub goal_of : {T N : Type 0} → (N → Val) → Wanted T N → Goal
goal_of number wanted = record { signature = wanted_signature wanted; grammar = syntax_from number wanted.grammar }

-- what a problem asks
abbrev pub question_of : {T N : Type 0} → (N → Val) → Problem T N → Question
question_of number problem = record {
  signatures = map signature problem.defs;
  definitions = bodies number problem.defs;
  variables = problem.vars;
  goals = map (goal_of number) problem.wanted;
  assumptions = map (expr_of number) problem.assumptions;
  constraints = map (expr_of number) problem.constraints;
  pool = map (val_of number) problem.pool;
}
