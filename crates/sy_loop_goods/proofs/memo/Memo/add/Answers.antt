use Rattle.std.proofs.Common.{arith, refl}
use Rattle.sy_loop_goods.proofs.Pages.{memo_gains}
use Rattle.sy_loop_goods.proofs.memo.Memo.add.Goals as goal

pub returns : goal.returns
returns g c = λ other told. memo_gains g.T.Theory.denotes c.args.self.now _ c.page_of-page.result c.index_mut.result.now c.add.new.self (omega (arith, c.if-page-len.false)) c.index_mut.ensures.value refl _ c.in_ok-add.ensures other told
