use Rattle.sy_terms.specs.Denoted.{vals_of}
use Rattle.sy_loop_goods.proofs.Pages.{truth_more}
use Rattle.sy_loop_goods.proofs.page.Page.add.Goals as goal

pub returns : goal.returns
returns g c =
    let is = c.is_of.ensures c.if-not-is_of.false in
    rw c.in_ok-push.ensures.items (truth_more g.T.Theory.denotes c.args.self.now.constraint c.args.constraint is.0 c.args.self.now.assignment (vals_of g.T.Theory.denotes c.args.assignment.now) is.1 c.args.self.now.truths.items c.args.value c.args.truth)
