use Rattle.std.proofs.Common.{◌≡◌, ◌≤◌, length}
use Rattle.std.specs.Io.KnownBytes.{Appends}
use Rattle.sygus_verdicts.specs.Clauses.{AreJudgedFor, verdicts_for}
use Rattle.sygus_verdicts.specs.Lines.{verdict_lines}
use Rattle.sygus_verdicts.proofs.verdicts.judge_all.Given as goal

abbrev pub invariant-loop-place : goal.invariant-loop-place
invariant-loop-place g l = record {
  count : length l.answers ≡ l.place;
  right : AreJudgedFor g.T.Theory g.J.Judge l.limits l.claims.problems l.claims.statements l.answers;
  lined : Appends (g.O.Sink.written l.fn.out) (g.O.Sink.written l.out) (verdict_lines l.claims.titles 1 (verdicts_for g.J.Judge l.answers));
  quiet : l.err ≡ l.fn.err;
  later : g.O.Sink.faults l.fn.out ≤ g.O.Sink.faults l.out;
}
