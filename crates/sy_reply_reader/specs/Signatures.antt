-- The arguments and the sort of a part, beside those that its function was declared with.
use Rattle.std.specs.Prelude.{List, [], Bool, true, false, ◌&&◌, Option, Some, None, Ok, Err, if◌then◌else◌}
use Rattle.sy_terms.specs.Fitting.{Signature, same_sorts}
use Rattle.sy_terms.specs.Sorts.{same_sort}
use Rattle.sy_terms.specs.declared.sort.Logic.{Logic}
use Rattle.sy_terms.specs.declared.sort.Sort.{Sort}
use Rattle.sy_forms_items.specs.Readings.{Reading}
use Rattle.sy_forms_items.specs.Sorts.{read_sort}
use Rattle.sy_forms_items.specs.declared.names.Named.{Named}
use Rattle.sy_scope_names.specs.Lists.{sorts_of_names, read_named}
use Rattle.sy_reply_reader.specs.Parts.{Part}

abbrev pub is_read_as : Sort → Reading Sort → Bool
is_read_as sort (Ok found) = same_sort found sort
is_read_as sort (Err fault) = false

abbrev pub with_sorts : List Sort → Reading (List Named) → Option (List Named)
with_sorts sorts (Ok named) = if same_sorts (sorts_of_names named) sorts then Some named else None
with_sorts sorts (Err fault) = None

-- The arguments of a part, where these and its sort have the declared sorts, in their order, and no name is reserved or
-- repeated. Abbreviations of sorts aren't known here.
abbrev pub arguments_of : Logic → Signature → Part → Option (List Named)
arguments_of logic signature part =
    if is_read_as signature.gives (read_sort logic [] part.sort) then with_sorts signature.takes (read_named [] logic [] [] part.arguments)
    else None
