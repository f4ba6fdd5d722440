use Rattle.std.proofs.Common.{◌≡◌, refl, sym, ap, ◌∙◌, true, false, Bool}
use Rattle.std.proofs.lemmas.List.{take_more}
use Rattle.std.proofs.lemmas.Option.{slice_get_read}
use Rattle.sy_terms.specs.Values.{same}
use Rattle.sy_terms.specs.Denoted.{val_of}
use Rattle.sy_grammar_sizes.proofs.PoolMembers.{same_is, same_again, any_at, none_more}
use Rattle.sy_grammar_sizes.proofs.constants.is_in_pool.Goals as goal

pub returns-then-same_value : goal.returns-then-same_value
returns-then-same_value g c =
    let number = g.T.Theory.denotes in
    let value = val_of number c.args.value.now in
    let at = slice_get_read c.args.pool.now _ c.loop-other.other-index c.other-item.result refl c.loop-other-test.true c.other-item.is in
    let equal = c.same_value.ensures.0 c.if-same_value.true in
    sym (any_at (same value) (val_of number) c.args.pool.now c.loop-other.other-index c.other-item.result at (ap (same value) (sym equal) ∙ same_again value))

pub loop-other-preserved : goal.loop-other-preserved
loop-other-preserved g c =
    let number = g.T.Theory.denotes in
    let value = val_of number c.args.value.now in
    let more = take_more c.args.pool.now c.loop-other.other-index c.other-item.result c.loop-other-test.true in
    let differs : same value (val_of number c.other-item.result) ≡ false = fails (same value (val_of number c.other-item.result)) (λ yes. let equal = c.same_value.ensures.1 (same_is value _ yes) in let no = c.if-same_value.false in cc) in
    rw (more, ← c.other-item.is) (none_more (same value) (val_of number) _ c.other-item.result c.loop-other.invariant differs)
  where
    fails : (b : Bool) → (b ≡ true → ⊥) → b ≡ false
    fails true h = absurd (h refl)
    fails false h = refl
