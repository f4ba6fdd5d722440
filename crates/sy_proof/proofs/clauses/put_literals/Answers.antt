use Rattle.std.proofs.Common.{List, length, refl, map, arith, get_or, ◌<◌, ◌≤◌}
use Rattle.std.specs.Prelude.{false}
use Rattle.std.specs.List.{concat}
use Rattle.sy_clauses.specs.declared.Lit.{Lit}
use Rattle.sy_proof.specs.Clauses.{literal_text}
use Rattle.sy_proof.proofs.Lists.{written_all, written_step}
use Rattle.sy_proof.proofs.clauses.put_literals.Goals as goal

pub loop-literal-preserved : goal.loop-literal-preserved
loop-literal-preserved c =
    let zero : Lit = record { var = 0; positive = false } in
    let within : c.loop-literal.literal-index < length c.args.literals.now = omega arith in
    written_step (λ (literals : List Lit). concat (map literal_text literals)) literal_text (λ literal literals. refl) c.args.literals.now c.loop-literal.literal-index (get_or c.args.literals.now c.loop-literal.literal-index zero) zero c.loop-literal.out c.put_literal.new.out _ within refl c.in_ok-put_literal.ensures c.loop-literal.invariant

pub returns : goal.returns
returns c =
    let all : length c.args.literals.now ≤ c.loop-literal.literal-index = omega arith in
    written_all (λ (literals : List Lit). concat (map literal_text literals)) refl c.args.literals.now c.loop-literal.literal-index c.loop-literal.out _ all c.loop-literal.invariant
