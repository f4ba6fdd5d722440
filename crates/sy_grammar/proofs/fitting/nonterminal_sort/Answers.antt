use Rattle.std.proofs.Common.{refl, ap, sym, arith, map, ◌∙◌}
use Rattle.std.specs.Option.{option_map}
use Rattle.std.proofs.lemmas.List.{length-map}
use Rattle.std.proofs.lemmas.Option.{slice_get_read, slice_get_past, slice_get-map}
use Rattle.sy_grammar_base.specs.Trees.{Nonterminal}
use Rattle.sy_grammar_base.specs.Grown.{nonterminal_of}
use Rattle.sy_grammar.proofs.fitting.nonterminal_sort.Goals as goal

pub returns : goal.returns
returns g c =
    let seen = nonterminal_of g.T.Theory.denotes in
    let lookup = c.in_ok-non.ensures.lookup in
    let read = slice_get_read c.args.nons.now _ c.args.nonterminal c.in_ok-non.non.now refl lookup.3.0 lookup.1 in
    sym (ap (option_map (λ (n : Nonterminal). n.sort)) (slice_get-map seen c.args.nons.now c.args.nonterminal ∙ ap (option_map seen) read))

pub returns-in_err-non : goal.returns-in_err-non
returns-in_err-non g c =
    let seen = nonterminal_of g.T.Theory.denotes in
    let past = slice_get_past (map seen c.args.nons.now) c.args.nonterminal (omega (arith, length-map c.args.nons.now seen, c.in_err-non.ensures.lookup.3)) in
    c.from_residual.ensures ∙ sym (ap (option_map (λ (n : Nonterminal). n.sort)) past)
