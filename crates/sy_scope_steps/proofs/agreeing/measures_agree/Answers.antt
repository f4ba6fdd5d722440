use Rattle.sy_scope_steps.proofs.Measuring.{size_at, depth_at}
use Rattle.sy_scope_steps.proofs.agreeing.measures_agree.Goals as goal

pub returns : goal.returns
returns c = λ measures outside phrase. (size_at measures outside phrase, depth_at measures outside phrase)
