-- What the functions to be found take and give.
use Rattle.std.specs.Prelude.{List, map}
use Rattle.sy_terms.specs.Fitting as fitting
use Rattle.sy_terms.specs.Fitting.{Scope}
use Rattle.sy_terms.specs.declared.op.Op.{Op}
use Rattle.sy_terms.specs.declared.term.Def.{Def}
use Rattle.sy_terms_operators.specs.Evaluation.{scope_with}
use Rattle.std.specs.Prelude.{Bool}
use Rattle.sy_meaning.specs.declared.fitting.Signature.{Signature}

abbrev pub declared_signature : Signature → fitting.Signature
declared_signature signature = record { takes = signature.takes; gives = signature.gives }

abbrev pub signatures_of : List Signature → List fitting.Signature
signatures_of signatures = map declared_signature signatures

-- what a term may name under these definitions, where functions of these signatures are to be found
abbrev pub scope_and_wanted : {T N : Type 0} → (Op → Bool) → List (Def T N) → List Signature → Scope
scope_and_wanted owned defs wanted = scope_with owned defs (signatures_of wanted)
