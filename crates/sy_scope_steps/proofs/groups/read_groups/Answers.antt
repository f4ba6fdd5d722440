use Rattle.std.proofs.Common.{◌+◌, ◌∙◌, sym, arith, drop}
use Rattle.std.proofs.lemmas.Result.{err_from_is_err_and}
use Rattle.sy_forms_items.specs.Seen.{environment_of}
use Rattle.sy_text_items.specs.Views.{item_of}
use Rattle.sy_forms_items.specs.Views.{items_in}
use Rattle.sy_forms_items.proofs.Readings as readings
use Rattle.sy_forms_items.proofs.Lookups.{found_at, drop-at}
use Rattle.sy_scope_steps.specs.Grammars as spec
use Rattle.sy_scope_steps.specs.Seen.{grown_grammar_of}
use Rattle.sy_scope_steps.proofs.Walking.{past, groups_over, groups_none, groups_more}
use Rattle.sy_scope_steps.proofs.groups.read_groups.Goals as goal

pub returns-in_default : goal.returns-in_default
returns-in_default g c =
    sym c.loop-named.invariant
    ∙ groups_none (environment_of c.args.env.now) (drop c.loop-named.named-index c.args.env.now.nonterminals.now) (items_in c.loop-named.left) (grown_grammar_of g.T.Theory.denotes c.loop-named.grown) c.in_default.ensures

pub returns-in_err-grown : goal.returns-in_err-grown
returns-in_err-grown g c =
    let p = err_from_is_err_and c.from_residual.result c.from_residual.ensures.1 in
    let i = c.loop-named.named-index in
    let named = c.args.env.now.nonterminals.now in
    let there = found_at i named c.named-item.result (omega arith) c.named-item.is in
    let more = groups_more (environment_of c.args.env.now) (drop i named) c.named-item.result (drop (i + 1) named) (items_in c.loop-named.left) (item_of c.in-Some.group.now) (items_in c.in-Some.rest) (grown_grammar_of g.T.Theory.denotes c.loop-named.grown)
    (drop-at i named c.named-item.result there) c.in-Some.ensures in
    rw (p.1, p.2) (readings.fails_same c.in_err-grown.field-0.0 _ _ (sym c.loop-named.invariant ∙ more) (readings.fails_bind c.in_err-grown.field-0.0 _ _ c.in_err-grown.ensures))

pub loop-named-preserved : goal.loop-named-preserved
loop-named-preserved g c =
    let i = c.loop-named.named-index in
    let named = c.args.env.now.nonterminals.now in
    let there = found_at i named c.named-item.result (omega arith) c.named-item.is in
    let more = groups_more (environment_of c.args.env.now) (drop i named) c.named-item.result (drop (i + 1) named) (items_in c.loop-named.left) (item_of c.in-Some.group.now) (items_in c.in-Some.rest) (grown_grammar_of g.T.Theory.denotes c.loop-named.grown)
    (drop-at i named c.named-item.result there) c.in-Some.ensures in
    sym (readings.bound (spec.read_group (environment_of c.args.env.now) c.named-item.result (item_of c.in-Some.group.now) (grown_grammar_of g.T.Theory.denotes c.loop-named.grown)) (grown_grammar_of g.T.Theory.denotes c.in_ok-grown.grown)
    (λ longer. spec.read_groups (environment_of c.args.env.now) (drop (i + 1) named) (items_in c.in-Some.rest) longer) c.in_ok-grown.ensures)
    ∙ sym more ∙ c.loop-named.invariant

pub returns : goal.returns
returns g c =
    let i = c.loop-named.named-index in
    let named = c.args.env.now.nonterminals.now in
    sym c.loop-named.invariant
    ∙ groups_over (environment_of c.args.env.now) (drop i named) (items_in c.loop-named.left) (grown_grammar_of g.T.Theory.denotes c.loop-named.grown) (past i named (omega arith))
