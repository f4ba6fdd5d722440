use Rattle.std.proofs.lemmas.Option.{IfSome_then}
use Rattle.sy_loop_goods.proofs.Pages.{told_on}
use Rattle.sy_loop_goods.proofs.memo.Memo.truth.Goals as goal

pub returns : goal.returns
returns g c = IfSome_then c.truth.result c.truth.ensures (λ truth stands. told_on g.T.Theory.denotes c.args.self.now c.page_of.result c.in_ok-page.page.now (rw c.deref.ensures.value at c.in_ok-page.ensures.lookup.3.0) (rw c.deref.ensures.value at c.in_ok-page.ensures.lookup.1) _ stands)
