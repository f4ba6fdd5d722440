-- A query for which a tree in text is accepted is never satisfied.
use Rattle.sy_text_items.specs.Items.{Item}
use Rattle.sy_meaning_integers.specs.Lia.{numeric, owned}
use Rattle.sy_query_base.specs.Asked.{Query, QueryFits, IsNever}
use Rattle.sy_linear.proofs.Sound as trees
use Rattle.sy_verify_proofs.specs.Trees.{TreeProves}

pub sound : (query : Query) (item : Item) → QueryFits owned numeric query → TreeProves query item → IsNever query
sound query item fits it = trees.sound query it.tree fits it.proves
