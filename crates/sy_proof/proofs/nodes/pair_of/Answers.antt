use Rattle.sy_forms_items.specs.Views.{items_in}
use Rattle.sy_proof.proofs.Others.{no_pair}
use Rattle.sy_proof.proofs.nodes.pair_of.Goals as goal

pub returns-in_default : goal.returns-in_default
returns-in_default c = no_pair (items_in c.args.items) c.in_default.ensures
