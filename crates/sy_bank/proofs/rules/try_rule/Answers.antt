use Rattle.std.proofs.Common.{arith}
use Rattle.std.proofs.lemmas.List.{length-map}
use Rattle.sy_grammar_base.specs.Grown.{nonterminal_of}
use Rattle.sy_bank.proofs.rules.try_rule.Goals as goal

pub try_part-requires-clause-task : goal.try_part-requires-clause-task
try_part-requires-clause-task g c = c.requires.task

pub try_part-requires-clause-rule : goal.try_part-requires-clause-rule
try_part-requires-clause-rule g c = record {
  known = omega (arith, c.requires.known, length-map c.args.task.now.grammar.now.nons (nonterminal_of g.T.Theory.denotes));
  at = rw c.in-Term.is at c.requires.rule;
}

pub try_part-requires-clause-steady : goal.try_part-requires-clause-steady
try_part-requires-clause-steady g c = c.requires.steady

pub constants-requires-clause-task : goal.constants-requires-clause-task
constants-requires-clause-task g c = c.requires.task

pub constants-requires-clause-rule : goal.constants-requires-clause-rule
constants-requires-clause-rule g c = record {
  known = omega (arith, c.requires.known, length-map c.args.task.now.grammar.now.nons (nonterminal_of g.T.Theory.denotes));
  at = rw c.in-AnyConstant.is at c.requires.rule;
}

pub constants-requires-clause-steady : goal.constants-requires-clause-steady
constants-requires-clause-steady g c = c.requires.steady

pub variables-requires-clause-task : goal.variables-requires-clause-task
variables-requires-clause-task g c = c.requires.task

pub variables-requires-clause-rule : goal.variables-requires-clause-rule
variables-requires-clause-rule g c = record {
  known = omega (arith, c.requires.known, length-map c.args.task.now.grammar.now.nons (nonterminal_of g.T.Theory.denotes));
  at = rw c.in-AnyVariable.is at c.requires.rule;
}

pub variables-requires-clause-steady : goal.variables-requires-clause-steady
variables-requires-clause-steady g c = c.requires.steady

pub returns-in-Term-clause-steady : goal.returns-in-Term-clause-steady
returns-in-Term-clause-steady g c = c.try_part.ensures.steady

pub returns-in-Term-clause-grows : goal.returns-in-Term-clause-grows
returns-in-Term-clause-grows g c = c.try_part.ensures.grows

pub returns-in-Term-clause-tried : goal.returns-in-Term-clause-tried
returns-in-Term-clause-tried g c = c.try_part.ensures.tried

pub returns-in-Term-clause-stop : goal.returns-in-Term-clause-stop
returns-in-Term-clause-stop g c = c.try_part.ensures.stop

pub returns-in-AnyConstant-clause-steady : goal.returns-in-AnyConstant-clause-steady
returns-in-AnyConstant-clause-steady g c = c.constants.ensures.steady

pub returns-in-AnyConstant-clause-grows : goal.returns-in-AnyConstant-clause-grows
returns-in-AnyConstant-clause-grows g c = c.constants.ensures.grows

pub returns-in-AnyConstant-clause-tried : goal.returns-in-AnyConstant-clause-tried
returns-in-AnyConstant-clause-tried g c = rw (c.requires.rule, c.in-AnyConstant.is) c.constants.ensures.done

pub returns-in-AnyConstant-clause-stop : goal.returns-in-AnyConstant-clause-stop
returns-in-AnyConstant-clause-stop g c = c.constants.ensures.stop

pub returns-in-AnyVariable-clause-steady : goal.returns-in-AnyVariable-clause-steady
returns-in-AnyVariable-clause-steady g c = c.variables.ensures.steady

pub returns-in-AnyVariable-clause-grows : goal.returns-in-AnyVariable-clause-grows
returns-in-AnyVariable-clause-grows g c = c.variables.ensures.grows

pub returns-in-AnyVariable-clause-tried : goal.returns-in-AnyVariable-clause-tried
returns-in-AnyVariable-clause-tried g c = rw (c.requires.rule, c.in-AnyVariable.is) c.variables.ensures.done

pub returns-in-AnyVariable-clause-stop : goal.returns-in-AnyVariable-clause-stop
returns-in-AnyVariable-clause-stop g c = c.variables.ensures.stop
