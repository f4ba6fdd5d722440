use Rattle.std.proofs.Common.{length}
use Rattle.std.proofs.Math.Seq.{take-length}
use Rattle.sygus_replies.proofs.Steps.{appended_nothing}
use Rattle.sygus_replies.proofs.write.write_both.Goals as goal

pub returns-in-Err-write_whole-clause-begun : goal.returns-in-Err-write_whole-clause-begun
returns-in-Err-write_whole-clause-begun g c = (length c.args.text.now, rw take-length c.in-Ok.ensures.ok)

pub returns-in-Err-clause-line_begun : goal.returns-in-Err-clause-line_begun
returns-in-Err-clause-line_begun g c = (0, appended_nothing _)
