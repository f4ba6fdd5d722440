use Rattle.std.proofs.Common.{◌∙◌, Some, ap, refl, sym}
use Rattle.std.proofs.lemmas.Option.{slice_get_read}
use Rattle.sy_terms.specs.Denoted.{val_of}
use Rattle.sy_bank_level.specs.Stored.{entry_of}
use Rattle.sy_loop_goods.proofs.Columns.{chosen_at}
use Rattle.sy_loop_goods.proofs.leaf.copied.Goals as goal

pub returns-then-same_value : goal.returns-then-same_value
returns-then-same_value g c =
    let kept = c.index-leaves-leaf.result in
    let other = c.in_ok-get.field-0.now in
    let same = c.same_value.ensures.0 c.if-same_value.true in
    record {
      entry = entry_of g.T.Theory.denotes kept.now;
      at = chosen_at g.T.Theory.denotes c.args.leaves.now c.args.leaf kept (slice_get_read _ _ _ _ refl c.requires.leaf c.index-leaves-leaf.is);
      value = val_of g.T.Theory.denotes c.in_ok-value.value;
      has = c.in_ok-value.ensures;
      other = c.in_ok-other.field-0.now;
      other_entry = entry_of g.T.Theory.denotes other.now;
      other_at = chosen_at g.T.Theory.denotes c.args.leaves.now c.in_ok-other.field-0.now other (slice_get_read _ _ _ _ refl c.in_ok-get.ensures.lookup.3.0 c.in_ok-get.ensures.lookup.1);
      other_has = c.in_ok-found.ensures ∙ ap Some (sym same);
      stands = slice_get_read _ _ _ _ refl c.in_ok-good.ensures.lookup.3.0 c.in_ok-good.ensures.lookup.1;
    }
