-- A body that is read fits under the definitions around it.
use Rattle.std.proofs.Common.{◌≡◌, ◌+◌, ◌∙◌, refl, sym, ap, subst, arith, ℕ, suc, Bool, true, false, List, [], ◌∷◌, ◌++◌, length, map, slice_get, Some, All}
use Rattle.std.specs.Prelude.{Ok, is_some, if◌then◌else◌}
use Rattle.std.proofs.lemmas.List.{length-map}
use Rattle.std.proofs.lemmas.List.Elements.{All-nil, All-cons, All-head, All-tail, All-push}
use Rattle.sy_text_items.specs.Items.{Item}
use Rattle.sy_terms.specs.Expr.{Expr}
use Rattle.sy_terms.specs.Fitting.{Signature, sort_in}
use Rattle.sy_terms.specs.Logics.{IsTheoryOf, Serves}
use Rattle.sy_terms.specs.declared.op.Op.{Op}
use Rattle.sy_terms.specs.declared.sort.Logic.{Logic}
use Rattle.sy_terms.specs.declared.sort.Logic.TheVariants.{Lia, Bv}
use Rattle.sy_terms.specs.declared.sort.Sort.{Sort}
use Rattle.sy_terms.specs.declared.sort.Sort.TheVariants as sorts
use Rattle.sy_grammar_base.specs.Fits.{with_functions}
use Rattle.sy_scope_causes.specs.declared.titles.Title.{Title}
use Rattle.sy_scope_causes.specs.declared.titles.Titles.{Titles}
use Rattle.sy_forms_items.specs.declared.names.Entity.{Entity}
use Rattle.sy_forms_items.specs.declared.names.Named.{Named}
use Rattle.sy_forms_items.specs.declared.names.Role.TheVariants as role
use Rattle.sy_forms_items.specs.Environments.{entry_under, place_among, declared_in}
use Rattle.sy_forms_items.specs.Phrases.{Phrase, expr_at}
use Rattle.sy_forms_items.specs.Readings.{Reading, ReadingFails}
use Rattle.sy_forms_items.specs.declared.fault.ReadEnd.{ReadEnd}
use Rattle.sy_forms_items.specs.declared.fault.ReadEnd.TheVariants as read_ends
use Rattle.sy_forms_items.proofs.Readings.{bound}
use Rattle.sy_forms.specs.Standing.{setting_with, IsDeclared}
use Rattle.sy_forms.specs.Fitting.{phrase_sort}
use Rattle.sy_forms.specs.Right.{EnvironmentIsRight}
use Rattle.sy_forms.proofs.Bodies.{in_body, argument_or}
use Rattle.sy_forms.proofs.NamesLaws.{place_among_at}
use Rattle.sy_forms.proofs.Readings.{at_read}
use Rattle.sy_forms.proofs.Sorts.{entry_has}
use Rattle.sy_forms.proofs.Terms.{whole_fits}
use Rattle.sy_forms.proofs.Whole.{term_fits}
use Rattle.sy_scope_names.specs.Contexts.{Context}
use Rattle.sy_scope_names.specs.Lists.{sorts_of_names}
use Rattle.sy_scope_names.proofs.Earlier.{bind_ok}
use Rattle.sy_scope_steps.specs.Steps.{environment, read_in}
use Rattle.sy_scope_steps.specs.Around.{defined_from, definition_at, wanted_from, sought_at, with_entry, with_entries, entities_in, surroundings}
use Rattle.sy_scope_ends.specs.Ends.{ended_as}
use Rattle.sy_scope_steps.specs.Bodies.{body_in, body_read, BodyFits, FitsUnder, EndsBody}

-- an entry stands for a function that is there
abbrev Declared : List Signature → List Signature → List ℕ × Entity → Type 0
Declared defined wanted x = IsDeclared defined wanted [] x.1

-- so do definitions that stand in the list from a number on
defined_declared : (all wanted : List Signature) (number : ℕ) (names : List (List ℕ)) (signatures : List Signature) → ((i : ℕ) → slice_get all (number + i) ≡ slice_get signatures i) →
    All (Declared all wanted) (defined_from number names signatures)
unfolding defined_from
defined_declared all wanted number [] signatures there = All-nil (Declared all wanted)
defined_declared all wanted number (name ∷ names) [] there = All-nil (Declared all wanted)
defined_declared all wanted number (name ∷ names) (f ∷ signatures) there =
    let first : number ≡ number + 0 = omega arith in
    let next : (i : ℕ) → number + 1 + i ≡ number + suc i = λ i. omega arith in
    All-cons (Declared all wanted) (name, definition_at number f) (defined_from (number + 1) names signatures) (ap (slice_get all) first ∙ there 0)
    (defined_declared all wanted (number + 1) names signatures (λ i. ap (slice_get all) (next i) ∙ there (suc i)))

-- the signatures under which functions to be found are declared
opaque_signatures : List Title → List Signature
opaque_signatures [] = []
opaque_signatures (title ∷ titles) = record { takes = []; gives = sorts.Bool } ∷ opaque_signatures titles

-- and so do functions to be found
wanted_declared : (defined all : List Signature) (number : ℕ) (titles : List Title) → ((i : ℕ) → slice_get all (number + i) ≡ slice_get (opaque_signatures titles) i) →
    All (Declared defined all) (wanted_from number titles)
unfolding wanted_from opaque_signatures
wanted_declared defined all number [] there = All-nil (Declared defined all)
wanted_declared defined all number (title ∷ titles) there =
    let first : number ≡ number + 0 = omega arith in
    let next : (i : ℕ) → number + 1 + i ≡ number + suc i = λ i. omega arith in
    All-cons (Declared defined all) (title.name, sought_at number) (wanted_from (number + 1) titles) (ap (slice_get all) first ∙ there 0)
    (wanted_declared defined all (number + 1) titles (λ i. ap (slice_get all) (next i) ∙ there (suc i)))

-- what holds of entries holds where they are added in turn
kept_by : (P : List ℕ × Entity → Type 0) (b : Bool) (entries : List (List ℕ × Entity)) (x : List ℕ × Entity) → All P entries → P x → All P (if b then entries else entries ++ x ∷ [])
kept_by P true entries x all one = all
kept_by P false entries x all one = All-push P entries x all one

entries_have : (P : List ℕ × Entity → Type 0) (entries later : List (List ℕ × Entity)) → All P entries → All P later → All P (with_entries entries later)
unfolding with_entries
entries_have P entries [] all more = all
entries_have P entries (x ∷ later) all more =
    entries_have P (with_entry entries x) later (kept_by P (is_some (entry_under x.0 entries)) entries x all (All-head P x later more)) (All-tail P x later more)

from_zero : (i : ℕ) → 0 + i ≡ i
from_zero i = omega arith

-- all names around a body stand for what is there
names_declared : (titles : Titles) (signatures : List Signature) → All (Declared signatures (opaque_signatures titles.wanted)) (entities_in titles signatures)
names_declared titles signatures =
    let P = Declared signatures (opaque_signatures titles.wanted) in
    entries_have P (with_entries [] (defined_from 0 titles.defined signatures)) (wanted_from 0 titles.wanted)
    (entries_have P [] (defined_from 0 titles.defined signatures) (All-nil P) (defined_declared signatures (opaque_signatures titles.wanted) 0 titles.defined signatures (λ i. ap (slice_get signatures) (from_zero i))))
    (wanted_declared signatures (opaque_signatures titles.wanted) 0 titles.wanted (λ i. ap (slice_get (opaque_signatures titles.wanted)) (from_zero i)))

-- a body is read rightly
body_right : (logic : Logic) (owned : Op → Bool) (numeric : Sort → Bool) → IsTheoryOf logic owned numeric → (titles : Titles) (signatures : List Signature) (definitions : List Expr) (arguments : List Named) →
    EnvironmentIsRight numeric (setting_with owned signatures [] (sorts_of_names arguments)) (environment (surroundings titles signatures definitions) logic role.Body arguments)
body_right logic owned numeric of titles signatures definitions arguments = record {
  theory = of;
  sorts = All-nil _;
  names = λ name sense e. argument_or owned signatures arguments (place_among name arguments) (declared_in role.Body (entry_under name (entities_in titles signatures))) sense (place_among_at name arguments)
      (λ f. in_body owned signatures (opaque_signatures titles.wanted) [] (sorts_of_names arguments) (entry_under name (entities_in titles signatures)) sense
      (λ it g. entry_has (IsDeclared signatures (opaque_signatures titles.wanted) []) name (entities_in titles signatures) it (names_declared titles signatures) g) f) e;
  constants = refl;
  lets = refl;
}

-- a phrase that is read is a term of the sort
pub phrase_fits : (logic : Logic) (owned : Op → Bool) (numeric : Sort → Bool) → IsTheoryOf logic owned numeric → (titles : Titles) (signatures : List Signature) (definitions : List Expr) (arguments : List Named) (sort : Sort) (item : Item) (it : Phrase) →
    read_in (surroundings titles signatures definitions) logic role.Body arguments sort item ≡ Ok it → BodyFits owned signatures arguments sort (expr_at (length arguments) it)
phrase_fits logic owned numeric of titles signatures definitions arguments sort item it e =
    let setting = setting_with owned signatures [] (sorts_of_names arguments) in
    let around = surroundings titles signatures definitions in
    let fit : phrase_sort setting [] it ≡ Some sort = at_read (λ p. phrase_sort setting [] p ≡ Some sort) (read_in around logic role.Body arguments sort item) it
    (whole_fits numeric setting (environment around logic role.Body arguments) (body_right logic owned numeric of titles signatures definitions arguments) around.measures sort item) e in
    subst (λ count. sort_in (with_functions owned signatures []) (sorts_of_names arguments) (expr_at count it) ≡ Some sort) (length-map arguments (λ (x : Named). x.sort)) (term_fits setting it sort refl fit)

-- a body that is read has the sort
pub body_fits : (logic : Logic) (owned : Op → Bool) (numeric : Sort → Bool) → IsTheoryOf logic owned numeric → (titles : Titles) (signatures : List Signature) (definitions : List Expr) (arguments : List Named) (sort : Sort) (item : Item) (body : Expr) →
    body_read logic titles signatures definitions arguments sort item ≡ Ok body → BodyFits owned signatures arguments sort body
body_fits logic owned numeric of titles signatures definitions arguments sort item body e =
    let found = bind_ok (read_in (surroundings titles signatures definitions) logic role.Body arguments sort item) (λ it. Ok (expr_at (length arguments) it)) body e in
    let same : expr_at (length arguments) found.0 ≡ body = cc in
    subst (BodyFits owned signatures arguments sort) same (phrase_fits logic owned numeric of titles signatures definitions arguments sort item found.0 found.1)

-- so in a context
pub fits_under : (logic : Logic) (owned : Op → Bool) (numeric : Sort → Bool) → IsTheoryOf logic owned numeric → (context : Context) (arguments : List Named) (sort : Sort) (item : Item) (body : Expr) →
    body_in context logic arguments sort item ≡ Ok body → FitsUnder owned context arguments sort body
fits_under logic owned numeric of context arguments sort item body e titles signatures definitions is =
    body_fits logic owned numeric of titles signatures definitions arguments sort item body (subst (λ (c : Context). body_in c logic arguments sort item ≡ Ok body) is e)

-- the body that a phrase is
pub body_is : (context : Context) (logic : Logic) (arguments : List Named) (sort : Sort) (item : Item) (it : Phrase) (count : ℕ) (body : Expr) → read_in context logic role.Body arguments sort item ≡ Ok it → count ≡ length arguments →
    (let made : Reading Expr = Ok (expr_at count it) in made ≡ Ok body) → body_in context logic arguments sort item ≡ Ok body
body_is context logic arguments sort item it count body is counted made =
    bound (read_in context logic role.Body arguments sort item) it (λ p. Ok (expr_at (length arguments) p)) is ∙ ap (λ n. Ok (expr_at n it)) (sym counted) ∙ made

-- where all was read, only memory can run out
pub only_memory : (end : ReadEnd) (body : Expr) (read : Reading Expr) → ReadingFails end (let made : Reading Expr = Ok body in made) → ReadingFails end read
only_memory read_ends.Want body read f = tt
only_memory (read_ends.Refused place cause) body read f = absurd cc

-- a refusal, under a number
pub ended_body : (end : ReadEnd) (read : Reading Expr) → ReadingFails end read → EndsBody (ended_as 0 end) read
ended_body read_ends.Want read f = tt
ended_body (read_ends.Refused place cause) read f = (refl, f)

-- a theory of the logic serves it
pub serves : (logic : Logic) (owned : Op → Bool) (numeric : Sort → Bool) → IsTheoryOf logic owned numeric → Serves numeric logic
serves Lia owned numeric of = of.sorts sorts.Int
serves Bv owned numeric of = λ width. of.sorts (sorts.Bits width)
