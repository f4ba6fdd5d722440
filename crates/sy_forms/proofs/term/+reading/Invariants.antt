use Rattle.std.proofs.Common.{◌≡◌, ◌≤◌, ◌+◌, ◌*◌, length}
use Rattle.sy_text_items.specs.Items.{item_size, items_size, listed}
use Rattle.sy_text_items.specs.Views.{item_of}
use Rattle.sy_forms.specs.Gathered.{several_of, bounds_of}
use Rattle.sy_forms_items.specs.Phrases.{no_terms}
use Rattle.sy_forms_items.specs.Seen.{environment_of}
use Rattle.sy_forms.specs.Terms as spec
use Rattle.sy_forms_items.specs.Views.{items_in}
use Rattle.sy_forms.proofs.term.+reading.Given as goal

abbrev pub decreases-read_term : goal.decreases-read_term
decreases-read_term g l = 2 * item_size (item_of l.item.now)

abbrev pub decreases-read_list : goal.decreases-read_list
decreases-read_list g l = 2 * items_size (items_in l.items) + 1

abbrev pub decreases-read_terms : goal.decreases-read_terms
decreases-read_terms g l = 2 * items_size (items_in l.items) + 1

abbrev pub decreases-read_let : goal.decreases-read_let
decreases-read_let g l = 2 * items_size (items_in l.items) + 1

abbrev pub decreases-read_inner : goal.decreases-read_inner
decreases-read_inner g l = 2 * item_size (item_of l.inner.now) + 1

abbrev pub decreases-read_bindings : goal.decreases-read_bindings
decreases-read_bindings g l = 2 * items_size (items_in l.items) + 1

abbrev pub decreases-read_binding : goal.decreases-read_binding
decreases-read_binding g l = 2 * item_size (item_of l.item.now)

abbrev pub invariant-read_terms-loop-item : goal.invariant-read_terms-loop-item
invariant-read_terms-loop-item g l =
    record {
      reads : spec.read_terms (environment_of l.env) l.fn.locals (several_of g.T.Theory.denotes l.done) (items_in l.left) ≡ spec.read_terms (environment_of l.env) l.fn.locals no_terms (items_in l.fn.items);
      kept : l.locals ≡ l.fn.locals;
      size : items_size (items_in l.left) ≤ items_size (items_in l.fn.items);
    }

abbrev pub decreases-read_terms-loop-item : goal.decreases-read_terms-loop-item
decreases-read_terms-loop-item g l = length (listed (items_in l.left))

abbrev pub invariant-read_bindings-loop-item : goal.invariant-read_bindings-loop-item
invariant-read_bindings-loop-item g l =
    record {
      reads : spec.read_bindings (environment_of l.env) l.fn.locals (bounds_of g.T.Theory.denotes l.bound) (items_in l.left) ≡ spec.read_bindings (environment_of l.env) l.fn.locals spec.unbound (items_in l.fn.items);
      kept : l.locals ≡ l.fn.locals;
      size : items_size (items_in l.left) ≤ items_size (items_in l.fn.items);
    }

abbrev pub decreases-read_bindings-loop-item : goal.decreases-read_bindings-loop-item
decreases-read_bindings-loop-item g l = length (listed (items_in l.left))
