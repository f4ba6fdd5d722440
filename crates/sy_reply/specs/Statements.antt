-- What replies state, apart from a theory and from memory.
use Rattle.std.specs.Prelude.{List, map, Option}
use Rattle.std.specs.Option.{option_map}
use Rattle.sy_text_items.specs.Items.{Item}
use Rattle.sy_text_items.specs.Views.{item_of}
use Rattle.sy_terms.specs.Values.{Val}
use Rattle.sy_terms.specs.Expr.{Expr}
use Rattle.sy_terms.specs.Denoted.{expr_of}
use Rattle.sy_reply.specs.declared.stated.Stated.{Stated}
use Rattle.sy_reply.specs.declared.stated.Stated.TheVariants as stated

-- no definitions; or a body for each function to be found, in order of declaration, and the item of a proof, if any
pub data Statement : Type 0 where
  Nothing : Statement
  Bodies : (bodies : List Expr) → (proof : Option Item) → Statement

-- what a reply states, where a number stands for a value
abbrev pub statement_of : {T N : Type 0} → (N → Val) → Stated T N → Statement
statement_of number stated.Nothing = Nothing
statement_of number (stated.Bodies bodies proof) = Bodies (map (expr_of number) bodies) (option_map item_of proof)
