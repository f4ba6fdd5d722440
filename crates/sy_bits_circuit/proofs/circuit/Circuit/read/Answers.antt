use Rattle.std.proofs.Common.{rules, ◌≡◌}
use Rattle.sy_terms.specs.Denoted.{vals_of}
use Rattle.sy_meaning_words.specs.Vectors.{vector}
use Rattle.sy_bits_circuit.specs.Assignments.{assignment}
use Rattle.sy_bits_circuit.proofs.Reading.{read-satisfies}
use Rattle.sy_bits_circuit.proofs.circuit.Circuit.read.Goals as goal

pub returns-clause-satisfies : goal.returns-clause-satisfies
returns-clause-satisfies c =
    let values : vals_of vector c.in_ok-values.values ≡ assignment c.args.self.now.variables c.args.bits.now = search rules in
    λ query variables clauses model. read-satisfies query c.args.self.now.clauses c.args.self.now.variables c.args.bits.now _ values c.requires variables clauses model
