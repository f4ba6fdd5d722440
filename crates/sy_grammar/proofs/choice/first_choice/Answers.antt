use Rattle.std.proofs.Common.{◌∙◌, sym, map, refl}
use Rattle.std.proofs.lemmas.Option.{slice_get_read}
use Rattle.sy_grammar_base.specs.Trees.{is_choice}
use Rattle.sy_grammar_base.specs.Grown.{production_of}
use Rattle.sy_grammar.proofs.Choices.{none_first, none_next, none_at_all, found_first}
use Rattle.sy_grammar.proofs.choice.first_choice.Goals as goal

pub loop-place-init : goal.loop-place-init
loop-place-init g c = none_first is_choice (map (production_of g.T.Theory.denotes) c.args.rules.now)

pub loop-place-preserved : goal.loop-place-preserved
loop-place-preserved g c = none_next g.T.Theory.denotes c.args.rules.now c.loop-place.place c.index-rules-place.result (slice_get_read _ _ _ _ refl c.loop-place-test.true c.index-rules-place.is) (sym c.is_choice.ensures ∙ c.if-is_choice.false) c.loop-place.invariant

pub returns-then-is_choice : goal.returns-then-is_choice
returns-then-is_choice g c = found_first g.T.Theory.denotes c.args.rules.now c.loop-place.place c.index-rules-place.result (slice_get_read _ _ _ _ refl c.loop-place-test.true c.index-rules-place.is) (sym c.is_choice.ensures ∙ c.if-is_choice.true) c.loop-place.invariant

pub returns : goal.returns
returns g c = none_at_all g.T.Theory.denotes c.args.rules.now c.loop-place.place c.loop-place-test.false c.loop-place.invariant
