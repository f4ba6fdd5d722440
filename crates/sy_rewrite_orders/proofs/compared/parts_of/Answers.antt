use Rattle.sy_terms.specs.Denoted.{expr_of-App}
use Rattle.sy_rewrite_orders.proofs.Meanings.{some_then}
use Rattle.sy_rewrite_orders.proofs.compared.parts_of.Goals as goal

pub returns-in-App : goal.returns-in-App
returns-in-App g c = some_then c.chosen_of.result c.chosen_of.ensures (λ parts are. rw (c.in-App.is, expr_of-App) are)
