-- What a command does, by what it writes.
use Rattle.std.proofs.Common.{◌≡◌, refl, sym, ap, List, []}
use Rattle.std.specs.Prelude.{Ok}
use Rattle.sy_text_items.specs.Items.{Item, Items}
use Rattle.sy_terms.specs.declared.sort.Logic.{Logic}
use Rattle.sy_forms_items.specs.declared.names.Role.TheVariants as role
use Rattle.sy_forms_items.specs.Sorts.{read_sort}
use Rattle.sy_forms_items.specs.Readings.{Reading, ReadingFails, ◌>>=◌}
use Rattle.sy_forms_items.specs.declared.fault.ReadEnd.{ReadEnd}
use Rattle.sy_scope_names.specs.Requests.{Spelled}
use Rattle.sy_scope_names.specs.Lists.{read_named}
use Rattle.sy_scope_names.specs.Contexts.{Context, Definition, new_name}
use Rattle.sy_scope_names.specs.Changes.{with_definition}
use Rattle.sy_scope_steps.specs.Steps.{define, read_in}
use Rattle.sy_scope.specs.Entered.{definition_read}
use Rattle.sy_scope.proofs.Stages as stage

module _ (context : Context) where
  define_by : (logic : Logic) (name : Spelled) (arguments : Items) (sort body : Item) →
      define context logic name arguments sort body ≡ (definition_read context logic name arguments sort body >>= λ d. Ok (with_definition context d))
  define_by logic name arguments sort body =
      stage.by_four (λ d. Ok (with_definition context d)) (new_name context logic name.place name.name) (λ new. read_named context.sorts logic [] [] arguments) (λ new named. read_sort logic context.sorts sort) (λ new named found. read_in context logic role.Body named found body)
      (λ new named found phrase. Ok (with_definition context (record { name = new; arguments = named; sort = found; body = phrase }))) (λ new named found phrase. Ok (record { name = new; arguments = named; sort = found; body = phrase }))
      (λ new named found phrase. refl)

  pub define_fails : (logic : Logic) (name : Spelled) (arguments : Items) (sort body : Item) (e : ReadEnd) → ReadingFails e (definition_read context logic name arguments sort body) → ReadingFails e (define context logic name arguments sort body)
  define_fails logic name arguments sort body = stage.fails (λ d. Ok (with_definition context d)) (define context logic name arguments sort body) (definition_read context logic name arguments sort body) (define_by logic name arguments sort body)

  pub define_gives : (logic : Logic) (name : Spelled) (arguments : Items) (sort body : Item) (d : Definition) (later : Context) → definition_read context logic name arguments sort body ≡ Ok d → later ≡ with_definition context d → define context logic name arguments sort body ≡ Ok later
  define_gives logic name arguments sort body d later is next =
      stage.gives (λ x. Ok (with_definition context x)) (define context logic name arguments sort body) (definition_read context logic name arguments sort body) (define_by logic name arguments sort body) d later is (ap Ok (sym next))
