use Rattle.std.proofs.Common.{◌+◌, ◌∙◌, ap, sym, map, drop, Some, [], ◌∷◌}
use Rattle.std.specs.Option.{option_map}
use Rattle.sy_terms.specs.Denoted.{expr_of}
use Rattle.sy_grammar_base.specs.Questions.{goal_of}
use Rattle.sy_reply_reader.specs.Slots.{open_from, slots_of}
use Rattle.sy_reply_reader.proofs.Filled.{all_but_first, empty_below, first_of, no_titles, no_goals, no_slots, open_here, open_later}
use Rattle.sy_reply_reader.proofs.slots.+open_from.Goals as goal

pub returns-in_default-clause-found : goal.returns-in_default-clause-found
returns-in_default-clause-found g t c =
    let n = g.T.Theory.denotes in
    no_titles c.args.number c.args.name.now c.args.titles.now (map (goal_of n) c.args.wanted.now) (slots_of n c.args.slots.now) (empty_below c.args.titles.now c.in_default.len_below)

pub returns-in_default-wanted-clause-found : goal.returns-in_default-wanted-clause-found
returns-in_default-wanted-clause-found g t c =
    let n = g.T.Theory.denotes in
    no_goals c.args.number c.args.name.now c.args.titles.now (map (goal_of n) c.args.wanted.now) (slots_of n c.args.slots.now) c.title-item.result (drop 1 c.args.titles.now)
    (first_of c.args.titles.now c.title-item.result c.in-len1-up.len_at_least c.title-item.is)
    (ap (map (goal_of n)) (empty_below c.args.wanted.now c.in_default-wanted.len_below))

pub returns-in_default-slots-clause-found : goal.returns-in_default-slots-clause-found
returns-in_default-slots-clause-found g t c =
    let n = g.T.Theory.denotes in
    no_slots c.args.number c.args.name.now c.args.titles.now (map (goal_of n) c.args.wanted.now) (slots_of n c.args.slots.now) c.title-item.result (drop 1 c.args.titles.now)
    (goal_of n c.function-item.result) (map (goal_of n) (drop 1 c.args.wanted.now))
    (first_of c.args.titles.now c.title-item.result c.in-len1-up.len_at_least c.title-item.is)
    (ap (map (goal_of n)) (first_of c.args.wanted.now c.function-item.result c.in-len1-up-wanted.len_at_least c.function-item.is))
    (ap (slots_of n) (empty_below c.args.slots.now c.in_default-slots.len_below))

pub returns-then-is_open-clause-found : goal.returns-then-is_open-clause-found
returns-then-is_open-clause-found g t c =
    let n = g.T.Theory.denotes in
    (λ i. Some (c.args.number, record { takes = c.as_slice.ensures i; gives = c.function-item.result.sort }))
    ∙ open_here c.args.number c.args.name.now c.args.titles.now (map (goal_of n) c.args.wanted.now) (slots_of n c.args.slots.now) c.title-item.result (drop 1 c.args.titles.now)
    (goal_of n c.function-item.result) (map (goal_of n) (drop 1 c.args.wanted.now)) (option_map (expr_of n) c.slot-item.result) (slots_of n (drop 1 c.args.slots.now))
    (first_of c.args.titles.now c.title-item.result c.in-len1-up.len_at_least c.title-item.is)
    (ap (map (goal_of n)) (first_of c.args.wanted.now c.function-item.result c.in-len1-up-wanted.len_at_least c.function-item.is))
    (ap (slots_of n) (first_of c.args.slots.now c.slot-item.result c.in-len1-up-slots.len_at_least c.slot-item.is))
    (sym c.is_open.ensures ∙ c.if-is_open.true)

pub returns-clause-found : goal.returns-clause-found
returns-clause-found g t c =
    let n = g.T.Theory.denotes in
    c.open_from.ensures.found
    ∙ (λ i. open_from (c.args.number + 1) c.args.name.now (all_but_first c.args.titles.now i) (map (goal_of n) (all_but_first c.args.wanted.now i)) (slots_of n (all_but_first c.args.slots.now i)))
    ∙ open_later c.args.number c.args.name.now c.args.titles.now (map (goal_of n) c.args.wanted.now) (slots_of n c.args.slots.now) c.title-item.result (drop 1 c.args.titles.now)
    (goal_of n c.function-item.result) (map (goal_of n) (drop 1 c.args.wanted.now)) (option_map (expr_of n) c.slot-item.result) (slots_of n (drop 1 c.args.slots.now))
    (first_of c.args.titles.now c.title-item.result c.in-len1-up.len_at_least c.title-item.is)
    (ap (map (goal_of n)) (first_of c.args.wanted.now c.function-item.result c.in-len1-up-wanted.len_at_least c.function-item.is))
    (ap (slots_of n) (first_of c.args.slots.now c.slot-item.result c.in-len1-up-slots.len_at_least c.slot-item.is))
    (sym c.is_open.ensures ∙ c.if-is_open.false)
