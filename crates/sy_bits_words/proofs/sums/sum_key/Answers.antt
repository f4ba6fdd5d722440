use Rattle.std.proofs.Common.{◌∙◌, sym}
use Rattle.sy_bits_words.proofs.Contents.{monomial-next, monomial-last}
use Rattle.sy_bits_words.proofs.sums.sum_key.Goals as goal

pub loop-monomial-preserved : goal.loop-monomial-preserved
loop-monomial-preserved c =
    let l = c.loop-monomial in
    rw c.monomial_key-key.ensures (l.invariant ∙ monomial-next l.key c.as_slice-monomial-items.result.now l.monomial-index c.monomial-item.result c.loop-monomial-test.true c.monomial-item.is)

pub returns : goal.returns
returns c =
    let l = c.loop-monomial in
    sym (l.invariant ∙ monomial-last l.key c.as_slice-monomial-items.result.now l.monomial-index c.loop-monomial-test.false)
