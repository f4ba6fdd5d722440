use Rattle.std.proofs.Common.{◌≡◌, drop}
use Rattle.sy_terms.specs.Values.{Whole}
use Rattle.sy_terms.specs.Denoted.{exprs_of}
use Rattle.sy_lower.specs.Codes.{terms_key}
use Rattle.sy_lower.proofs.keys.+key.Given as goal

abbrev pub invariant-terms_key-loop-term : goal.invariant-terms_key-loop-term
invariant-terms_key-loop-term l = terms_key l.key (exprs_of Whole (drop l.term-index l.terms)) ≡ terms_key l.fn.seed (exprs_of Whole l.terms)
