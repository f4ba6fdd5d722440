use Rattle.std.proofs.Common.{[], ◌∷◌, ◌++◌, take}
use Rattle.sy_terms.specs.Denoted.{vals_of}
use Rattle.sy_bank_level.specs.Filling.{AreOther}
use Rattle.sy_bank_level.specs.Task.{level_of, levels_of}
use Rattle.sy_bank_level.proofs.filling.Filling.has_row.Given as goal

abbrev pub invariant-loop-place : goal.invariant-loop-place
invariant-loop-place g l =
    let number = g.T.Theory.denotes in
    AreOther (levels_of number l.levels ++ level_of number l.self.fresh ∷ []) l.nonterminal (take l.place-index l.place-items) (vals_of number l.row)
