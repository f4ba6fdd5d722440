-- What a command writes, apart from what it does to the context.
use Rattle.std.specs.Prelude.{[], Ok}
use Rattle.sy_text_items.specs.Items.{Item, Items}
use Rattle.sy_terms.specs.declared.sort.Logic.{Logic}
use Rattle.sy_forms_items.specs.declared.names.Role.TheVariants as role
use Rattle.sy_forms_items.specs.Sorts.{read_sort}
use Rattle.sy_forms_items.specs.Readings.{Reading, ◌>>=◌}
use Rattle.sy_scope_names.specs.Lists.{read_named}
use Rattle.sy_scope_names.specs.Contexts.{Context, Definition, new_name}
use Rattle.sy_scope_names.specs.Requests.{Spelled}
use Rattle.sy_scope_steps.specs.Steps.{read_in}

-- the definition of a `define-fun`
abbrev pub definition_read : Context → Logic → Spelled → Items → Item → Item → Reading Definition
definition_read context logic name arguments sort body =
    new_name context logic name.place name.name >>= λ new.
    read_named context.sorts logic [] [] arguments >>= λ named.
    read_sort logic context.sorts sort >>= λ found.
    read_in context logic role.Body named found body >>= λ phrase.
    Ok (record { name = new; arguments = named; sort = found; body = phrase })
