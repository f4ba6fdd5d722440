use Rattle.std.proofs.Common.{◌<◌, ◌+◌, length, arith, map}
use Rattle.std.proofs.lemmas.List.{length-map}
use Rattle.std.proofs.lemmas.Result.{IfOk-from_err}
use Rattle.sy_terms.specs.Denoted.{val_of}
use Rattle.sy_grammar_base.specs.Grown.{nonterminal_of, syntax_from}
use Rattle.sy_grammar_sizes.proofs.Tabled.{table_more, slack_less, largest_is}
use Rattle.sy_grammar_sizes.proofs.greatest.largest.Goals as goal

pub loop-nonterminal-smaller : goal.loop-nonterminal-smaller
loop-nonterminal-smaller g c =
    let number = g.T.Theory.denotes in
    let said = rw (c.as_slice-in-loop-nonterminal.ensures.value) at c.in-Some.ensures in
    let sized = length-map c.args.g.now.nons (nonterminal_of number) in
    let within : c.in-Some.nonterminal < length c.loop-nonterminal.table.items = omega (arith, said.0, c.loop-nonterminal.invariant.sized, sized) in
    slack_less (syntax_from number c.args.g.now) (c.from-limit.result + 1) c.loop-nonterminal.table.items c.in-Some.nonterminal c.in-Some.size within said.1

pub loop-nonterminal-preserved : goal.loop-nonterminal-preserved
loop-nonterminal-preserved g c =
    let number = g.T.Theory.denotes in
    let said = rw (c.as_slice-in-loop-nonterminal.ensures.value) at c.in-Some.ensures in
    let sized = length-map c.args.g.now.nons (nonterminal_of number) in
    let within : c.in-Some.nonterminal < length c.loop-nonterminal.table.items = omega (arith, said.0, c.loop-nonterminal.invariant.sized, sized) in
    table_more (syntax_from number c.args.g.now) (map (val_of number) c.args.pool.now) (c.from-limit.result + 1) c.loop-nonterminal.table.items c.in-Some.nonterminal c.in-Some.size c.loop-nonterminal.invariant within said.1

pub returns : goal.returns
returns g c =
    let number = g.T.Theory.denotes in
    let stable = rw (c.as_slice-in-loop-nonterminal.ensures.value) at c.in_default.ensures in
    let start = rw (c.as_slice-2.ensures.value) at c.entry.ensures in
    largest_is (syntax_from number c.args.g.now) (map (val_of number) c.args.pool.now) (c.from-limit.result + 1) c.args.cap c.loop-nonterminal.table.items c.entry.result c.within.result (omega (arith, c.from-limit.ensures)) c.loop-nonterminal.invariant stable start c.within.ensures

pub returns-in_err-table : goal.returns-in_err-table
returns-in_err-table g c = IfOk-from_err c.from_residual.result _ c.from_residual.ensures.0
