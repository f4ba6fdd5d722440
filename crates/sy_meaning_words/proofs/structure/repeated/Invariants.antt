use Rattle.std.proofs.Common.{◌≡◌, ◌≤◌, ◌*◌}
use Rattle.sy_terms.specs.BitVectors as bv
use Rattle.sy_meaning_words.proofs.structure.repeated.Given as goal

abbrev pub invariant-loop : goal.invariant-loop
invariant-loop l = record {
  some : 1 ≤ l.counter;
  most : l.counter ≤ l.copies;
  width : l.all.width ≡ l.counter * l.s.width;
  bits : l.all.bits ≡ bv.repeated l.counter l.s.width l.s.bits;
}
