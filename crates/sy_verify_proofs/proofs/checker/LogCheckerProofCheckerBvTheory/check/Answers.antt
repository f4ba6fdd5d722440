use Rattle.std.proofs.Common.{inr, sym}
use Rattle.sy_verify_proofs.proofs.checker.LogCheckerProofCheckerBvTheory.check.Goals as goal

pub returns : goal.returns
returns c =
    let clauses = c.in_ok-refuted.ensures in
    inr (record {
      log = c.in-Some.log;
      spelled = sym (rw c.in-Some.is at c.in_ok-log.ensures);
      cnf = clauses.0;
      circuit = clauses.1;
      refused = λ refutes. let yes = clauses.2.1 refutes in cc;
    })
