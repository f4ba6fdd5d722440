-- What the commands of a number's file do.
use Rattle.std.proofs.Common.{◌≡◌, ℕ, ◌<◌, ◌^◌, true, List, [], ◌∷◌, ◌++◌, Some, Ok, nat_lt, refl, arith}
use Rattle.std.specs.Prelude.{codes}
use Rattle.std.proofs.lemmas.Bool.{lt-ltb}
use Rattle.sy_text_items.specs.Items.{Item}
use Rattle.sy_terms.specs.Values.{Val, Bits}
use Rattle.sy_terms.specs.Sorts.{sort_of}
use Rattle.sy_terms.specs.Spelling.{spelling}
use Rattle.sy_terms.specs.declared.op.Op.TheVariants as ops
use Rattle.sy_terms.specs.declared.sort.Logic.TheVariants.{Bv}
use Rattle.sy_terms.specs.declared.term.Fun.TheVariants.{Wanted}
use Rattle.sy_forms_items.specs.declared.names.Entity.TheVariants as entity
use Rattle.sy_forms_items.specs.Sorts.{read_sort}
use Rattle.sy_forms_items.specs.Phrases.{Phrase, Literal, Operation, Invocation, none, more, pattern_at, patterns_at}
use Rattle.sy_forms_items.specs.Measures.{unfolded_size, unfolded_sizes, unfolded_depth, unfolded_depths, literals_in, all_literals}
use Rattle.sy_forms.specs.Terms.{atom_term, read_head, head_applied, read_term, read_list, read_terms}
use Rattle.sy_forms.specs.Rules.{read_rule}
use Rattle.sy_scope_names.specs.Pools.{pooled}
use Rattle.sy_scope_names.specs.Requests.{request_of}
use Rattle.sy_scope_names.specs.Lists.{named_item, read_named}
use Rattle.sy_scope_steps.specs.Grammars.{read_rules, read_group, read_groups, read_productions}
use Rattle.sy_scope_names.specs.Contexts.{Context, Condition, Written, beginning, with_logic}
use Rattle.sy_scope_names.specs.Changes.{with_question}
use Rattle.sy_scope_steps.specs.Steps.{perform_in, perform_first, step}
use Rattle.sygus_drills.specs.declared.generator.Example.{Example}
use Rattle.sygus_drills.specs.Asked.{byte, grammar}
use Rattle.sygus_drills.proofs.Laid.{item_in, placed}
use Rattle.sygus_drills.proofs.Commands.{logic, synthesis, example_at, check}

-- the function to be found is declared, and these constraints and values were written
abbrev pub declared : ℕ → List Condition → List Val → Context
declared k constraints pool = record beginning {
  logic = Some Bv;
  entities = (codes "f", entity.Function (Wanted 0) (byte ∷ []) byte) ∷ [];
  sought = record { name = codes "f"; arguments = record { name = codes "x"; sort = byte } ∷ []; sort = byte; grammar = grammar k } ∷ [];
  constraints = constraints;
  pool = pool;
}

abbrev pub phrase_of : Example → Phrase
phrase_of e = Operation ops.Equal (more (Invocation (Wanted 0) (more (Literal (Bits 8 e.argument)) none)) (more (Literal (Bits 8 e.value)) none))

abbrev pub values_of : Example → List Val
values_of e = Bits 8 e.argument ∷ Bits 8 e.value ∷ []

-- a byte is a number of 127 bits, and of 8
below_large : (n : ℕ) → n < 256 → nat_lt n (2 ^ 127) ≡ true
below_large n lt = lt-ltb n (2 ^ 127) (omega (arith, lt))

below_small : (n : ℕ) → n < 256 → nat_lt n (2 ^ 8) ≡ true
below_small n lt = lt-ltb n (2 ^ 8) (omega (arith, lt))

pub logic_steps : (y : Item) → step beginning (placed (item_in logic) y) ≡ Ok (with_logic Bv beginning)
unfolding step perform_first request_of
logic_steps y = refl

pub synthesis_steps : (k : ℕ) → k < 256 → (y : Item) → step (with_logic Bv beginning) (placed (item_in (synthesis k)) y) ≡ Ok (declared k [] (pooled [] (Bits 8 1 ∷ Bits 8 k ∷ [])))
unfolding step perform_in request_of read_sort named_item read_named read_rules read_rule read_group read_groups read_productions atom_term read_head head_applied read_term read_list read_terms sort_of spelling pattern_at patterns_at literals_in all_literals
synthesis_steps k lt y = rw (below_large k lt, below_small k lt) refl

pub example_steps : (k : ℕ) (e : Example) (constraints : List Condition) (pool : List Val) → e.argument < 256 → e.value < 256
    → (y : Item) → step (declared k constraints pool) (placed (item_in (example_at e)) y) ≡ Ok (declared k (constraints ++ Written (phrase_of e) ∷ []) (pooled pool (values_of e)))
unfolding step perform_in request_of atom_term read_head head_applied read_term read_list read_terms sort_of spelling unfolded_size unfolded_sizes unfolded_depth unfolded_depths literals_in all_literals
example_steps k e constraints pool argument value y = rw (below_large e.argument argument, below_small e.argument argument, below_large e.value value, below_small e.value value) refl

pub check_steps : (k : ℕ) (constraints : List Condition) (pool : List Val) (y : Item) → step (declared k constraints pool) (placed (item_in check) y) ≡ Ok (with_question (declared k constraints pool))
unfolding step perform_in request_of
check_steps k constraints pool y = refl
