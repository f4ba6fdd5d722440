use Rattle.std.proofs.Common.{List, length, refl, map, arith, ◌<◌, ◌≤◌}
use Rattle.std.specs.List.{concat}
use Rattle.sy_clauses.specs.declared.Lit.{Lit}
use Rattle.sy_proof.specs.Clauses.{clause_text}
use Rattle.sy_proof.proofs.Lists.{written_all, written_step}
use Rattle.sy_proof.proofs.clauses.put_clauses.Goals as goal

pub loop-clause-preserved : goal.loop-clause-preserved
loop-clause-preserved c =
    let within : c.loop-clause.clause-index < length c.args.clauses.now = omega arith in
    written_step (λ (clauses : List (List Lit)). concat (map clause_text clauses)) clause_text (λ clause clauses. refl) c.args.clauses.now c.loop-clause.clause-index c.clause-item.result c.clause-item.result c.loop-clause.out c.put_clause.new.out _ within c.clause-item.is (rw c.as_slice.ensures at c.in_ok-put_clause.ensures) c.loop-clause.invariant

pub returns : goal.returns
returns c =
    let all : length c.args.clauses.now ≤ c.loop-clause.clause-index = omega arith in
    written_all (λ (clauses : List (List Lit)). concat (map clause_text clauses)) refl c.args.clauses.now c.loop-clause.clause-index c.loop-clause.out _ all c.loop-clause.invariant
