use Rattle.std.proofs.Common.{◌∷◌, []}
use Rattle.sy_vectors.proofs.evaluation.notes.Goals as goal

pub gives-is_right-requires-clause-term : goal.gives-is_right-requires-clause-term
gives-is_right-requires-clause-term g c =
    record {
      wanted = record { takes = c.args.sort ∷ []; gives = c.args.sort } ∷ [];
      bodies = rw c.one-bodies.ensures (c.requires.body, tt);
      fits = c.assert_fitting.ensures.term;
    }
