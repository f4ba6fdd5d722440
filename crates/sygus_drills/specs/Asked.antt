-- What the file of a number asks.
use Rattle.std.specs.Prelude.{ℕ, ◌≡◌, ◌≤◌, ◌%◌, List, [], ◌∷◌, length, map, Some, Ok}
use Rattle.sy_terms.specs.Values.{Bits}
use Rattle.sy_terms.specs.Expr as expr
use Rattle.sy_terms.specs.Expr.{Expr}
use Rattle.sy_terms.specs.declared.op.Op.TheVariants as ops
use Rattle.sy_terms.specs.declared.sort.Logic.TheVariants.{Bv}
use Rattle.sy_terms.specs.declared.sort.Sort.{Sort}
use Rattle.sy_terms.specs.declared.sort.Sort.TheVariants as sorts
use Rattle.sy_terms.specs.declared.term.Fun.TheVariants.{Wanted}
use Rattle.sy_grammar_base.specs.Patterns.{Constant, Variable, Occurrence, Apply, none, more}
use Rattle.sy_grammar_base.specs.Trees.{Syntax, Template}
use Rattle.sy_grammar_base.specs.Questions.{Question}
use Rattle.sy_scope_steps.specs.Files.{file_read}
use Rattle.sy_scope_names.specs.Jobs.{Wish, wished}
use Rattle.sygus_drills.specs.Examples.{examples}
use Rattle.sygus_drills.specs.Files.{drill_file}
use Rattle.sygus_drills.specs.declared.generator.Example.{Example}

abbrev pub byte : Sort
byte = sorts.Bits 8

-- S: the argument, its complement, one more than it, or a choice between two of S; C: whether the argument is below k
abbrev pub grammar : ℕ → Syntax
grammar k = record {
  arguments = byte ∷ [];
  nonterminals =
      record {
        sort = byte;
        rules =
            Template (Variable 0)
            ∷ Template (Apply ops.BvNot (more (Variable 0) none))
            ∷ Template (Apply ops.BvAdd (more (Variable 0) (more (Constant (Bits 8 1)) none)))
            ∷ Template (Apply ops.Ite (more (Occurrence 1) (more (Occurrence 0) (more (Occurrence 0) none))))
            ∷ [];
      }
      ∷ record { sort = sorts.Bool; rules = Template (Apply ops.BvUlt (more (Variable 0) (more (Constant (Bits 8 k)) none))) ∷ [] }
      ∷ [];
}

-- the function to be found has the value at the argument
abbrev pub constraint : Example → Expr
constraint example =
    expr.Apply ops.Equal (expr.more (expr.Invoke (Wanted 0) (expr.more (expr.Constant (Bits 8 example.argument)) expr.none)) (expr.more (expr.Constant (Bits 8 example.value)) expr.none))

-- a function from bytes to bytes is to be found, in this grammar and by these examples alone
pub record AsksFor (k : ℕ) (examples : List Example) (question : Question) : Type 0 where
  pub goals : question.goals ≡ record { signature = record { takes = byte ∷ []; gives = byte }; grammar = grammar k } ∷ []
  pub constraints : question.constraints ≡ map constraint examples
  pub assumptions : question.assumptions ≡ []
  pub variables : question.variables ≡ []
  pub definitions : question.definitions ≡ []

-- one question over bit vectors
pub record Asks (number : ℕ) (wish : Wish) : Type 0 where
  pub logic : wish.logic ≡ Some Bv
  pub question : Question
  pub one : wish.questions ≡ question ∷ []
  pub asks : AsksFor (number % 256) (examples number) question

-- the file of each number is no longer than a file may be
abbrev pub FilesAreShort : Type 0
FilesAreShort = (number : ℕ) → length (drill_file number) ≤ 4194304

-- the file of each number is in the profile, and asks so
abbrev pub FilesAsk : Type 0
FilesAsk = (number : ℕ) → (wish : Wish) × (wished (file_read (drill_file number)) ≡ Ok wish) × Asks number wish
