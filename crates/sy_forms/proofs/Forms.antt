-- Reading of terms, by the form of what is read.
use Rattle.std.proofs.Common.{◌≡◌, refl, ap, List, [], ◌∷◌, ◌++◌, true, false, take, length}
use Rattle.std.specs.Prelude.{Result, Ok, Err, OnOk, codes}
use Rattle.sy_text_items.specs.Items.{Item, leaf, group, Items, none, more}
use Rattle.sy_text_items.specs.declared.atom.Atom.{Atom}
use Rattle.sy_text_items.specs.declared.atom.Place.{Place}
use Rattle.sy_scope_causes.specs.declared.cause.Cause.TheVariants as cause
use Rattle.sy_forms_items.specs.declared.names.Named.{Named}
use Rattle.sy_forms_items.specs.Environments.{Environment}
use Rattle.sy_forms_items.specs.Parts.{is_symbol, indexed_name}
use Rattle.sy_forms_items.specs.Phrases.{Several, no_terms, behind}
use Rattle.sy_forms_items.specs.Readings.{Reading, refuse, ◌>>=◌}
use Rattle.sy_forms.specs.Parts.{let_parts, binding_parts}
use Rattle.sy_forms.specs.Terms.{Bounds, unbound, bound_behind, bound_to, new_binding_name, let_may_stand, indexed_term, atom_term, read_head, head_applied, read_term, read_list, read_terms, read_let, read_let_in, read_inner, read_binding_list, read_bindings, read_binding, read_pair, read_bound}

pub list_none : (env : Environment) (locals : List Named) (place : Place) (items : Items) → items ≡ none → read_list env locals place items ≡ refuse place cause.Shape
unfolding read_term read_list read_terms read_let read_let_in read_binding_list read_bindings read_binding read_pair read_bound
list_none env locals place items e = rw e refl

pub list_let : (env : Environment) (locals : List Named) (place : Place) (items : Items) (head : Item) (rest : Items) → items ≡ more head rest → is_symbol (codes "let") head ≡ true → let_may_stand env.role ≡ true
    → read_list env locals place items ≡ read_let env locals place rest
unfolding read_term read_list read_terms read_let read_let_in read_binding_list read_bindings read_binding read_pair read_bound
list_let env locals place items head rest e is may = rw (e, is, may) refl

pub list_no_let : (env : Environment) (locals : List Named) (place : Place) (items : Items) (head : Item) (rest : Items) → items ≡ more head rest → is_symbol (codes "let") head ≡ true → let_may_stand env.role ≡ false
    → read_list env locals place items ≡ refuse place cause.Shape
unfolding read_term read_list read_terms read_let read_let_in read_binding_list read_bindings read_binding read_pair read_bound
list_no_let env locals place items head rest e is may = rw (e, is, may) refl

pub list_indexed : (env : Environment) (locals : List Named) (place : Place) (items : Items) (head : Item) (rest : Items) → items ≡ more head rest → is_symbol (codes "let") head ≡ false → is_symbol (codes "_") head ≡ true
    → read_list env locals place items ≡ indexed_term env.logic place (indexed_name rest)
unfolding read_term read_list read_terms read_let read_let_in read_binding_list read_bindings read_binding read_pair read_bound
list_indexed env locals place items head rest e other is = rw (e, other, is) refl

pub list_applied : (env : Environment) (locals : List Named) (place : Place) (items : Items) (head : Item) (rest : Items) → items ≡ more head rest → is_symbol (codes "let") head ≡ false → is_symbol (codes "_") head ≡ false
    → read_list env locals place items ≡ (read_head env locals head >>= λ found. read_terms env locals no_terms rest >>= λ arguments. head_applied env.constants env.divisors place found arguments)
unfolding read_term read_list read_terms read_let read_let_in read_binding_list read_bindings read_binding read_pair read_bound
list_applied env locals place items head rest e other last = rw (e, other, last) refl

pub terms_none : (env : Environment) (locals : List Named) (done : Several) (items : Items) → items ≡ none → read_terms env locals done items ≡ Ok done
unfolding read_term read_list read_terms read_let read_let_in read_binding_list read_bindings read_binding read_pair read_bound
terms_none env locals done items e = rw e refl

pub terms_more : (env : Environment) (locals : List Named) (done : Several) (items : Items) (first : Item) (rest : Items) → items ≡ more first rest
    → read_terms env locals done items ≡ (read_term env locals first >>= λ x. read_terms env locals (behind done x) rest)
unfolding read_term read_list read_terms read_let read_let_in read_binding_list read_bindings read_binding read_pair read_bound
terms_more env locals done items first rest e = rw e refl

-- a `let` by its parts
pub let_parted : (env : Environment) (locals : List Named) (place : Place) (items : Items)
    → read_let env locals place items ≡ (let_parts place items >>= λ x. read_bindings env locals unbound x.0 >>= λ bs. read_inner env locals bs x.1)
unfolding read_term read_list read_terms read_let read_let_in read_binding_list read_bindings read_binding read_pair read_bound
let_parted env locals place none = refl
let_parted env locals place (more bindings none) = refl
let_parted env locals place (more (leaf atom at) (more inner none)) = refl
let_parted env locals place (more (group none at) (more inner none)) = refl
let_parted env locals place (more (group (more first rest) at) (more inner none)) = refl
let_parted env locals place (more bindings (more inner (more next rest))) = refl

pub bindings_none : (env : Environment) (locals : List Named) (done : Bounds) (items : Items) → items ≡ none → read_bindings env locals done items ≡ Ok done
unfolding read_term read_list read_terms read_let read_let_in read_binding_list read_bindings read_binding read_pair read_bound
bindings_none env locals done items e = rw e refl

pub bindings_more : (env : Environment) (locals : List Named) (done : Bounds) (items : Items) (first : Item) (rest : Items) → items ≡ more first rest
    → read_bindings env locals done items ≡ (read_binding env locals done.names first >>= λ b. read_bindings env locals (bound_behind done b) rest)
unfolding read_term read_list read_terms read_let read_let_in read_binding_list read_bindings read_binding read_pair read_bound
bindings_more env locals done items first rest e = rw e refl

-- what is read behind a name that is read with something else
behind_name : {A B C : Type 0} (name : Reading A) (other : C) (next : A → C → Reading B) → (name >>= λ x. next x other) ≡ (◌>>=◌ {A = A × C} (◌>>=◌ {B = A × C} name (λ x. Ok (x, other))) (λ p. next p.0 p.1))
behind_name (Ok x) other next = refl
behind_name (Err e) other next = refl

-- a binding by its parts
pub binding_parted : (env : Environment) (locals taken : List Named) (item : Item)
    → read_binding env locals taken item ≡ (binding_parts env.logic taken item >>= λ x. read_term env locals x.1 >>= λ t. Ok (bound_to x.0 t))
unfolding read_term read_list read_terms read_let read_let_in read_binding_list read_bindings read_binding read_pair read_bound
binding_parted env locals taken (leaf atom place) = refl
binding_parted env locals taken (group none place) = refl
binding_parted env locals taken (group (more name none) place) = refl
binding_parted env locals taken (group (more name (more term none)) place) = behind_name (new_binding_name env.logic taken place name) term (λ x item. read_term env locals item >>= λ t. Ok (bound_to x t))
binding_parted env locals taken (group (more name (more term (more next rest))) place) = refl

-- what is so is so where something is returned
pub on_ok : {T E : Type 0} (r : Result T E) (P : Type 0) → P → OnOk r P
on_ok (Ok x) P p = p
on_ok (Err e) P p = tt

pub on_ok_then : {T E P Q : Type 0} (r : Result T E) → OnOk r P → (P → Q) → OnOk r Q
on_ok_then (Ok x) p next = next p
on_ok_then (Err e) p next = tt

pub term_leaf : (env : Environment) (locals : List Named) (item : Item) (atom : Atom) (place : Place) → item ≡ leaf atom place → read_term env locals item ≡ atom_term env locals place atom
unfolding read_term read_list read_terms read_let read_let_in read_binding_list read_bindings read_binding read_pair read_bound
term_leaf env locals item atom place e = rw e refl

pub term_group : (env : Environment) (locals : List Named) (item : Item) (parts : Items) (place : Place) (items : Items) → item ≡ group parts place → items ≡ parts → read_term env locals item ≡ read_list env locals place items
unfolding read_term read_list read_terms read_let read_let_in read_binding_list read_bindings read_binding read_pair read_bound
term_group env locals item parts place items e f = rw (e, f) refl

pub take_front : {A : Type 0} (xs ys : List A) → take (length xs) (xs ++ ys) ≡ xs
take_front [] ys = refl
take_front (x ∷ xs) ys = ap (λ zs. x ∷ zs) (take_front xs ys)
