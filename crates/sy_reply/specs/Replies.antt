-- The text of a reply: a line `(`, one definition on each line, and a line `)`.
use Rattle.std.specs.Prelude.{ℕ, List, [], ◌∷◌, ◌++◌, codes, map, true, false, pos, negsuc, slice_get, Option, Some, None}
use Rattle.std.specs.List.{join_with_byte, concat}
use Rattle.sy_text.specs.Spelling.{symbol_text, numeral_text, vector_text}
use Rattle.sy_scope_causes.specs.declared.titles.Title.{Title}
use Rattle.sy_scope_causes.specs.declared.titles.Titles.{Titles}
use Rattle.sy_terms.specs.Values.{Val, Truth, Whole, Bits}
use Rattle.sy_terms.specs.Expr.{Expr, Exprs, Constant, Variable, Apply, Invoke, Bind, none, more}
use Rattle.sy_terms.specs.Spelling.{spelling}
use Rattle.sy_terms.specs.declared.op.Op.{Op}
use Rattle.sy_terms.specs.declared.op.Op.TheVariants as ops
use Rattle.sy_terms.specs.declared.sort.Sort.{Sort}
use Rattle.sy_terms.specs.declared.sort.Sort.TheVariants as sorts
use Rattle.sy_terms.specs.declared.term.Fun.{Fun}
use Rattle.sy_terms.specs.declared.term.Fun.TheVariants.{Defined, Wanted}
use Rattle.sy_grammar_base.specs.Questions.{Goal, Question}

-- the parts in brackets, with one space between them
unfoldable pub bracketed : List (List ℕ) → List ℕ
bracketed parts = codes "(" ++ (join_with_byte 32 parts ++ codes ")")

-- each part after a space
abbrev pub spaced : List (List ℕ) → List ℕ
spaced parts = concat (map (λ part. 32 ∷ part) parts)

-- a line and its end
abbrev pub line : List ℕ → List ℕ
line text = text ++ 10 ∷ []

unfoldable pub sort_text : Sort → List ℕ
sort_text sorts.Bool = codes "Bool"
sort_text sorts.Int = codes "Int"
sort_text (sorts.Bits width) = bracketed (codes "_" ∷ codes "BitVec" ∷ numeral_text width ∷ [])

-- a literal; a negative number has none
unfoldable pub value_text : Val → List ℕ
value_text (Truth true) = codes "true"
value_text (Truth false) = codes "false"
value_text (Whole (pos n)) = numeral_text n
value_text (Whole (negsuc n)) = []
value_text (Bits width n) = vector_text width n

-- the indices of an operator
unfoldable pub indices : Op → List ℕ
indices (ops.Extract high low) = high ∷ low ∷ []
indices (ops.Repeat count) = count ∷ []
indices (ops.ZeroExtend count) = count ∷ []
indices (ops.SignExtend count) = count ∷ []
indices (ops.RotateLeft count) = count ∷ []
indices (ops.RotateRight count) = count ∷ []
indices _ = []

-- a name, or `(_ NAME I ..)` where it has indices
unfoldable pub indexed_text : List ℕ → List ℕ → List ℕ
indexed_text name [] = name
indexed_text name (first ∷ rest) = bracketed (codes "_" ∷ name ∷ map numeral_text (first ∷ rest))

abbrev pub operator_text : Op → List ℕ
operator_text operator = indexed_text (spelling operator) (indices operator)

-- the name at a place of a list
abbrev pub name_text : Option (List ℕ) → List ℕ
name_text None = []
name_text (Some name) = symbol_text name

-- the name of a definition; a body calls no function to be found
abbrev pub function_text : List (List ℕ) → Fun → List ℕ
function_text definitions (Defined number) = name_text (slice_get definitions number)
function_text definitions (Wanted number) = []

-- a name alone, or in brackets with the arguments behind it
unfoldable pub called_text : List ℕ → List (List ℕ) → List ℕ
called_text name [] = name
called_text name (first ∷ rest) = bracketed (name ∷ first ∷ rest)

unfoldable mutual
  -- a term over arguments and definitions of these names, in which no `let` stands
  pub term_text : (arguments definitions : List (List ℕ)) → Expr → List ℕ
  term_text arguments definitions (Constant value) = value_text value
  term_text arguments definitions (Variable position) = name_text (slice_get arguments position)
  term_text arguments definitions (Apply operator parts) = bracketed (operator_text operator ∷ terms_text arguments definitions parts)
  term_text arguments definitions (Invoke function parts) = called_text (function_text definitions function) (terms_text arguments definitions parts)
  term_text arguments definitions (Bind bound inner) = []

  pub terms_text : (arguments definitions : List (List ℕ)) → Exprs → List (List ℕ)
  terms_text arguments definitions none = []
  terms_text arguments definitions (more first rest) = term_text arguments definitions first ∷ terms_text arguments definitions rest

-- an argument `(x s)`
unfoldable pub argument_text : List ℕ → Sort → List ℕ
argument_text name sort = bracketed (symbol_text name ∷ sort_text sort ∷ [])

unfoldable pub arguments_text : List (List ℕ) → List Sort → List (List ℕ)
arguments_text (name ∷ names) (sort ∷ sorts) = argument_text name sort ∷ arguments_text names sorts
arguments_text _ _ = []

-- `(define-fun NAME (ARGS) SORT BODY)`
unfoldable pub definition_text : List (List ℕ) → Title → Goal → Expr → List ℕ
definition_text definitions title goal body =
    bracketed (codes "define-fun" ∷ symbol_text title.name ∷ bracketed (arguments_text title.args goal.signature.takes) ∷ sort_text goal.signature.gives
    ∷ term_text title.args definitions body ∷ [])

-- the definitions of the functions, in order of declaration
unfoldable pub definitions_text : List (List ℕ) → List Title → List Goal → List Expr → List (List ℕ)
definitions_text definitions (title ∷ titles) (goal ∷ goals) (body ∷ bodies) = definition_text definitions title goal body ∷ definitions_text definitions titles goals bodies
definitions_text _ _ _ _ = []

unfoldable pub reply_text : Titles → Question → List Expr → List ℕ
reply_text titles question bodies =
    line (codes "(") ++ (concat (map line (definitions_text titles.defined titles.wanted question.goals bodies)) ++ line (codes ")"))
