use Rattle.std.proofs.Common.{◌∙◌, ap, map, List}
use Rattle.std.proofs.lemmas.Result.{IfOk-from_err}
use Rattle.sy_terms.specs.declared.sort.Sort.{Sort}
use Rattle.sy_grammar_base.specs.Trees.{Production, Nonterminal}
use Rattle.sy_grammar_base.specs.Grown.{nonterminal_of}
use Rattle.sy_scope_names.specs.Groups.{group_of, production_in}
use Rattle.sy_scope_names.proofs.Made.{more_alike, all_alike}
use Rattle.sy_scope_names.proofs.convert.nonterminals.Goals as goal

abbrev with_rules : Sort → List Production → Nonterminal
with_rules sort productions = record { sort = sort; rules = productions }

pub loop-group-preserved : goal.loop-group-preserved
loop-group-preserved g c =
    let number = g.T.Theory.denotes in
    let rules = c.in_ok-rules.ensures ∙ ap (map (production_in number)) c.as_slice.ensures in
    let same = ap (with_rules c.group-item.result.sort) rules in
    more_alike (nonterminal_of number) (group_of number) c.push.new.self c.loop-group.nons _
    c.args.groups.now c.loop-group.group-index c.group-item.result c.in_ok-push.ensures.ok c.loop-group-test.true c.group-item.is c.loop-group.invariant same

pub returns : goal.returns
returns g c =
    all_alike (group_of g.T.Theory.denotes) (map (nonterminal_of g.T.Theory.denotes) c.loop-group.nons)
    c.args.groups.now c.loop-group.group-index c.loop-group-test.false c.loop-group.invariant

pub returns-in_err-rules : goal.returns-in_err-rules
returns-in_err-rules g c = IfOk-from_err c.from_residual.result _ c.from_residual.ensures.0

pub returns-in_err-push : goal.returns-in_err-push
returns-in_err-push g c = IfOk-from_err c.from_residual-in_err-push.result _ c.from_residual-in_err-push.ensures.0
