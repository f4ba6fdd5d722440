use Rattle.std.proofs.Common.{◌∙◌, sym}
use Rattle.sy_grammar_base.specs.Grown.{tree_of-Variable}
use Rattle.sy_terms.specs.Denoted.{expr_of-Var}
use Rattle.sy_bank_level.specs.Task.{world}
use Rattle.sy_bank.proofs.Offered.{argument-derives, argument-sized}
use Rattle.sy_bank.proofs.positions.offer_argument.Goals as goal

pub offer_leaf-requires-clause-derives : goal.offer_leaf-requires-clause-derives
offer_leaf-requires-clause-derives g c =
    rw (tree_of-Variable, expr_of-Var, c.in-Ok.ensures.1)
    (argument-derives (world g.T.Theory.owned g.T.Theory.denotes c.args.task.now) c.args.rule.now.nonterminal c.args.rule.now.number c.args.position c.args.rule.now.sort c.args.sort.now c.requires.rule c.requires.at (sym c.if-not-same_sort.ensures))

pub offer_leaf-requires-clause-sized : goal.offer_leaf-requires-clause-sized
offer_leaf-requires-clause-sized g c =
    rw tree_of-Variable
    (argument-sized (world g.T.Theory.owned g.T.Theory.denotes c.args.task.now) c.args.rule.now.nonterminal c.args.rule.now.number c.in-Ok.position ∙ sym c.requires.one)

pub returns-clause-done : goal.returns-clause-done
returns-clause-done g c same = rw (expr_of-Var, c.in-Ok.ensures.1) at c.in_ok-offer_leaf.ensures.done
