use Rattle.std.proofs.Common.{◌≡◌, ◌∙◌, sym, length}
use Rattle.std.proofs.lemmas.List.{length-map}
use Rattle.sy_terms.specs.Denoted.{vals_of}
use Rattle.sy_bank_level.specs.Task.{world, level_state_of, level_of}
use Rattle.sy_bank.proofs.Offered.{no-points, settled-or}
use Rattle.sy_bank.proofs.numbers.is_settled.Goals as goal

pub returns : goal.returns
returns g c =
    let number = g.T.Theory.denotes in
    let w = world g.T.Theory.owned number c.args.task.now in
    let sized : c.args.task.now.size ≡ length w.levels = c.requires.task.sized ∙ sym (length-map c.args.task.now.levels.now (level_of number)) in
    let found = rw (c.as_slice-2.ensures.value, c.new-row.ensures.items) at c.has_row.ensures in
    rw sized (settled-or w (level_state_of number c.args.filling.now) c.args.nonterminal c.has_row.result _ c.requires.steady (no-points (vals_of number) c.args.task.now.points.now (sym c.is_empty.ensures ∙ c.if-not-is_empty.false)) found)
