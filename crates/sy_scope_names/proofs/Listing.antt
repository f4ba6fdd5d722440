-- Lists of names with sorts, at the end of the list and at one item more.
use Rattle.std.proofs.Common.{◌≡◌, refl, ℕ, List, [], ◌∷◌, ◌++◌, length, true, false}
use Rattle.std.specs.Prelude.{Ok, nat_lt}
use Rattle.sy_text_items.specs.Items.{Item, Items, none, more}
use Rattle.sy_text_items.specs.declared.atom.Place.{Place}
use Rattle.sy_terms.specs.declared.sort.Logic.{Logic}
use Rattle.sy_terms.specs.declared.sort.Sort.{Sort}
use Rattle.sy_scope_causes.specs.declared.cause.Cause.TheVariants as cause
use Rattle.sy_forms_items.specs.declared.names.Named.{Named}
use Rattle.sy_forms_items.specs.Parts.{place_of, has_no_items}
use Rattle.sy_forms_items.specs.Readings.{refuse, ◌>>=◌}
use Rattle.sy_scope_names.specs.Requests.{symbol_spelled}
use Rattle.sy_scope_names.specs.Lists.{read_named, named_item, named_pair, named_by, counted}

pub named_none : (sorts : List (List ℕ × Sort)) (logic : Logic) (taken done : List Named) (items : Items) → items ≡ none → read_named sorts logic taken done items ≡ Ok done
unfolding read_named
named_none sorts logic taken done items e = rw e refl

pub named_more : (sorts : List (List ℕ × Sort)) (logic : Logic) (taken done : List Named) (items : Items) (first : Item) (rest : Items) → items ≡ more first rest
    → read_named sorts logic taken done items ≡ (named_item sorts logic taken done first >>= λ x. counted done (place_of first) x >>= λ longer. read_named sorts logic taken longer rest)
unfolding read_named
named_more sorts logic taken done items first rest e = rw e refl

empty_none : (items : Items) → has_no_items items ≡ true → items ≡ none
empty_none none e = refl
empty_none (more first rest) e = absurd (cc)

pub pair_two : (sorts : List (List ℕ × Sort)) (logic : Logic) (taken done : List Named) (place : Place) (parts : Items) (name : Item) (rest : Items) (sort : Item) (last : Items) → parts ≡ more name rest → rest ≡ more sort last → has_no_items last ≡ true
    → named_pair sorts logic taken done place parts ≡ named_by sorts logic taken done place (symbol_spelled name) sort
pair_two sorts logic taken done place parts name rest sort last e f g = rw (e, f, empty_none last g) refl

pub named_full : (sorts : List (List ℕ × Sort)) (logic : Logic) (taken done : List Named) (items : Items) (first : Item) (rest : Items) (x : Named) → items ≡ more first rest → named_item sorts logic taken done first ≡ Ok x → nat_lt (length done) 64 ≡ false
    → read_named sorts logic taken done items ≡ refuse (place_of first) cause.TooMany
unfolding read_named
named_full sorts logic taken done items first rest x e is full = rw (e, is, full) refl

pub named_room : (sorts : List (List ℕ × Sort)) (logic : Logic) (taken done : List Named) (items : Items) (first : Item) (rest : Items) (x : Named) → items ≡ more first rest → named_item sorts logic taken done first ≡ Ok x → nat_lt (length done) 64 ≡ true
    → read_named sorts logic taken done items ≡ read_named sorts logic taken (done ++ x ∷ []) rest
unfolding read_named
named_room sorts logic taken done items first rest x e is room = rw (e, is, room) refl
