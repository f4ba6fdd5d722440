-- Declared names that stand for what is there, and what terms over values may name.
use Rattle.std.specs.Prelude.{Bool, true, List, [], Some, ◌≡◌, slice_get}
use Rattle.sy_terms.specs.Fitting.{Signature, signature_of}
use Rattle.sy_terms.specs.declared.op.Op.{Op}
use Rattle.sy_terms.specs.declared.sort.Sort.{Sort}
use Rattle.sy_grammar_base.specs.Fits.{with_functions}
use Rattle.sy_forms_items.specs.declared.names.Entity.{Entity}
use Rattle.sy_forms_items.specs.declared.names.Entity.TheVariants as entity
use Rattle.sy_forms.specs.Fitting.{Setting}

-- what terms may name that use values of these sorts
abbrev pub setting_with : (Op → Bool) → List Signature → List Signature → List Sort → Setting
setting_with owned defined wanted values = record { scope = with_functions owned defined wanted; values = values; nonterminals = []; constants = []; lets = true }

-- a declared name stands for a variable or a function that is there
abbrev pub IsDeclared : List Signature → List Signature → List Sort → Entity → Type 0
IsDeclared defined wanted variables (entity.Variable position sort) = slice_get variables position ≡ Some sort
IsDeclared defined wanted variables (entity.Function function takes gives) =
    signature_of (with_functions (λ operator. true) defined wanted) function ≡ Some (record { takes = takes; gives = gives })
