use Rattle.sy_forms_items.specs.Views.{items_in}
use Rattle.sy_proof.proofs.Others.{no_branch}
use Rattle.sy_proof.proofs.nodes.read_branch.Goals as goal

pub returns-in_default : goal.returns-in_default
returns-in_default c = no_branch (items_in c.args.rest) c.in_default.ensures
