use Rattle.sy_lower_laws.proofs.Bounds.{lowering_small}
use Rattle.sy_lower_laws.proofs.Lowered.{lowering_is, lowering_itself}
use Rattle.sy_lower_laws.proofs.lowerings.Goals as goal

pub returns : goal.returns
returns c = record {
  law = λ query over. lowering_is query over.fits over.integers;
  bounds = λ query over. lowering_small query over.fits over.integers;
  own = lowering_itself;
}
