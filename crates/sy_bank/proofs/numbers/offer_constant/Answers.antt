use Rattle.std.proofs.Common.{◌≡◌, ◌∙◌, sym, arith}
use Rattle.sy_terms.specs.Denoted.{val_of}
use Rattle.sy_grammar_base.specs.Grown.{tree_of-Constant}
use Rattle.sy_bank_level.specs.Task.{world}
use Rattle.sy_bank.proofs.Offered.{constant-derives, constant-sized}
use Rattle.sy_bank.proofs.numbers.offer_constant.Goals as goal

pub offer_leaf-requires-clause-derives : goal.offer_leaf-requires-clause-derives
offer_leaf-requires-clause-derives g c =
    let number = g.T.Theory.denotes in
    rw (tree_of-Constant, c.in_ok-term.ensures)
    (constant-derives (world g.T.Theory.owned number c.args.task.now) c.args.rule.now.nonterminal c.args.rule.now.number c.args.rule.now.sort (val_of number c.args.value) c.requires.rule c.requires.given)

pub offer_leaf-requires-clause-sized : goal.offer_leaf-requires-clause-sized
offer_leaf-requires-clause-sized g c =
    let number = g.T.Theory.denotes in
    let same : c.constant_size.result ≡ c.args.task.now.size = omega (arith, c.if-constant_size-task.false) in
    rw tree_of-Constant
    (constant-sized (world g.T.Theory.owned number c.args.task.now) c.args.rule.now.nonterminal c.args.rule.now.number (val_of number c.args.value) ∙ sym c.constant_size.ensures ∙ same)
