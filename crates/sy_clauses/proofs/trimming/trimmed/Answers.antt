use Rattle.std.proofs.Common.{ap, arith, length}
use Rattle.sy_clauses.specs.Needed.{needs}
use Rattle.sy_clauses.specs.Numbers.{number_in}
use Rattle.sy_clauses.proofs.Counts.{table_small}
use Rattle.sy_clauses.proofs.TrimLaw.{trimmed_refutes, trimmed_named, trimmed_shorter}
use Rattle.sy_clauses.proofs.trimming.trimmed.Goals as goal

pub kept_lines-requires : goal.kept_lines-requires
kept_lines-requires c =
    table_small c.len-formula.result (needs c.deref.result.now) c.in_ok-numbering.numbering c.in_ok-numbering.ensures

pub returns-clause-law : goal.returns-clause-law
returns-clause-law c refutes =
    trimmed_refutes c.args.cnf.now c.args.log.now c.len-formula.result c.as_slice-lines.result.now c.in_ok-lines.lines
    c.in_ok-needed.needed.items
    c.deref.result.now c.deref-2.result.now c.in_ok-numbering.numbering c.len-formula.ensures c.as_slice-lines.ensures
    c.deref.ensures.value
    c.deref-2.ensures.value c.in_ok-needed.ensures c.in_ok-numbering.ensures c.in_ok-lines.ensures refutes

pub returns-clause-needed : goal.returns-clause-needed
returns-clause-needed c =
    trimmed_named c.args.cnf.now c.len-formula.result c.as_slice-lines.result.now c.in_ok-lines.lines
    c.in_ok-needed.needed.items
    c.deref.result.now c.deref-2.result.now c.in_ok-numbering.numbering c.len-formula.ensures c.deref.ensures.value
    c.deref-2.ensures.value c.in_ok-needed.ensures c.in_ok-numbering.ensures c.in_ok-lines.ensures

pub returns-clause-no_longer : goal.returns-clause-no_longer
returns-clause-no_longer c =
    let shorter = trimmed_shorter c.as_slice-lines.result.now c.in_ok-lines.lines (needs c.deref-2.result.now)
    (number_in c.in_ok-numbering.numbering) c.in_ok-lines.ensures in
    let same = ap length c.as_slice-lines.ensures in
    omega (arith, shorter, same)
