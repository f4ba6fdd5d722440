-- What is found of proofs and clauses can be written.
use Rattle.sy_verify.specs.declared.rechecked.Rechecked.{Rechecked}
use Rattle.sy_verify.specs.declared.rechecked.Rechecked.TheVariants as rechecked
use Rattle.sy_verify.specs.declared.spelled.Spelled.{Spelled}
use Rattle.sy_verify.specs.declared.spelled.Spelled.TheVariants as spelled
use Rattle.sygus_verdicts.specs.Verdicts.{IsPrintable}
use Rattle.sygus_verdicts.specs.Proofs.{verdict_rechecked, verdict_spelled}

pub printable_rechecked : (found : Rechecked) → IsPrintable (verdict_rechecked found)
printable_rechecked rechecked.Accepted = tt
printable_rechecked (rechecked.NotMember function) = tt
printable_rechecked rechecked.Heavy = tt
printable_rechecked rechecked.Rejected = tt
printable_rechecked (rechecked.Range node) = tt

pub printable_spelled : (found : Spelled) → IsPrintable (verdict_spelled found)
printable_spelled (spelled.NotMember function) = tt
printable_spelled spelled.Heavy = tt
printable_spelled (spelled.Clauses text) = tt
printable_spelled spelled.NoClauses = tt
