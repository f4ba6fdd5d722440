use Rattle.sy_cdcl.proofs.analysis.any_falsifies.Goals as goal

pub some_falsifies-requires : goal.some_falsifies-requires
some_falsifies-requires c = rw c.deref.ensures.value c.requires

pub returns : goal.returns
returns c = rw c.deref.ensures.value at c.some_falsifies.ensures
