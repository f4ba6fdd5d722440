use Rattle.sy_query_normal.proofs.unordered.is_vector.Goals as goal

pub returns-in-Bits : goal.returns-in-Bits
returns-in-Bits c = λ does. (c.in-Bits.field-0, c.in-Bits.is)
