-- Names with sorts that were read: none is reserved, and each sort is one of the logic.
use Rattle.std.proofs.Common.{◌≡◌, ◌≤◌, ◌+◌, ◌∙◌, refl, sym, ap, arith, ℕ, List, [], ◌∷◌, ◌++◌, length, Bool, true, false, Some, None, All}
use Rattle.std.specs.Prelude.{Ok, Option, ◌||◌, nat_lt, is_some}
use Rattle.std.proofs.lemmas.Bool.{ltb-true}
use Rattle.std.proofs.lemmas.List.{length-append}
use Rattle.std.proofs.lemmas.List.Elements.{All-nil, All-cons, All-append}
use Rattle.sy_text_items.specs.Items.{Item, leaf, group, Items, none, more, listed}
use Rattle.sy_text_items.specs.declared.atom.Place.{Place}
use Rattle.sy_terms.specs.declared.sort.Logic.{Logic}
use Rattle.sy_terms.specs.declared.sort.Sort.{Sort}
use Rattle.sy_scope_causes.specs.declared.cause.Cause.TheVariants as cause
use Rattle.sy_forms_items.specs.declared.names.Named.{Named}
use Rattle.sy_forms_items.specs.Environments.{place_among}
use Rattle.sy_forms_items.specs.Operators.{is_reserved}
use Rattle.sy_forms_items.specs.Parts.{place_of}
use Rattle.sy_forms_items.specs.Readings.{◌>>=◌}
use Rattle.sy_forms_items.specs.Sorts.{read_sort}
use Rattle.sy_scope_names.specs.Requests.{Spelled, symbol_spelled}
use Rattle.sy_scope_names.specs.Lists.{free_name, named_by, named_pair, named_item, counted, read_named}
use Rattle.sy_scope_names.proofs.Earlier.{bind_ok, if_ok, unless_ok}

-- the name isn't reserved, and the sort was read
pub record IsNamed (sorts : List (List ℕ × Sort)) (logic : Logic) (x : Named) : Type 0 where
  pub free : is_reserved logic x.name ≡ false
  pub item : Item
  pub sort : read_sort logic sorts item ≡ Ok x.sort

either_false : (a b : Bool) → (a || b) ≡ false → (a ≡ false) × (b ≡ false)
either_false true b e = absurd (cc)
either_false false b e = (refl, e)

by_read : (sorts : List (List ℕ × Sort)) (logic : Logic) (taken done : List Named) (place : Place) (name : Option Spelled) (sort : Item) (x : Named) → named_by sorts logic taken done place name sort ≡ Ok x → IsNamed sorts logic x
by_read sorts logic taken done place None sort x e = absurd (cc)
by_read sorts logic taken done place (Some n) sort x e =
    let free = bind_ok (free_name logic taken done n.place n.name) (λ free. read_sort logic sorts sort >>= λ found. Ok (record { name = free; sort = found })) x e in
    let found = bind_ok (read_sort logic sorts sort) (λ found. Ok (record { name = free.0; sort = found })) x free.2 in
    let new = unless_ok (is_reserved logic n.name || is_some (place_among n.name taken) || is_some (place_among n.name done)) n.place cause.NameTaken (Ok n.name) free.0 free.1 in
    let untaken = either_false (is_reserved logic n.name || is_some (place_among n.name taken)) (is_some (place_among n.name done)) new.0 in
    let unreserved = either_false (is_reserved logic n.name) (is_some (place_among n.name taken)) untaken.0 in
    let same : n.name ≡ free.0 = cc in
    let whole : record { name = free.0; sort = found.0 } ≡ x = cc in
    record {
      free = ap (λ (y : Named). is_reserved logic y.name) (sym whole) ∙ ap (is_reserved logic) (sym same) ∙ unreserved.0;
      item = sort;
      sort = found.1 ∙ ap (λ (y : Named). Ok y.sort) whole;
    }

pair_read : (sorts : List (List ℕ × Sort)) (logic : Logic) (taken done : List Named) (place : Place) (parts : Items) (x : Named) → named_pair sorts logic taken done place parts ≡ Ok x → IsNamed sorts logic x
pair_read sorts logic taken done place none x e = absurd (cc)
pair_read sorts logic taken done place (more name none) x e = absurd (cc)
pair_read sorts logic taken done place (more name (more sort none)) x e = by_read sorts logic taken done place (symbol_spelled name) sort x e
pair_read sorts logic taken done place (more name (more sort (more next rest))) x e = absurd (cc)

item_read : (sorts : List (List ℕ × Sort)) (logic : Logic) (taken done : List Named) (item : Item) (x : Named) → named_item sorts logic taken done item ≡ Ok x → IsNamed sorts logic x
unfolding named_item
item_read sorts logic taken done (leaf atom place) x e = absurd (cc)
item_read sorts logic taken done (group parts place) x e = pair_read sorts logic taken done place parts x e

-- names with sorts, at most 64, as many as there are items behind those before them
pub record AreNamed (sorts : List (List ℕ × Sort)) (logic : Logic) (done : List Named) (items : Items) (named : List Named) : Type 0 where
  pub all : All (IsNamed sorts logic) named
  pub count : length named ≡ length done + length (listed items)
  pub few : length named ≤ 64

pub named_read : (sorts : List (List ℕ × Sort)) (logic : Logic) (taken done : List Named) (items : Items) (named : List Named) → All (IsNamed sorts logic) done → length done ≤ 64 → read_named sorts logic taken done items ≡ Ok named
    → AreNamed sorts logic done items named
unfolding read_named
named_read sorts logic taken done none named all few e =
    let same : done ≡ named = cc in
    record { all = rw (sym same) all; count = rw (sym same) (omega arith); few = rw (sym same) few }
named_read sorts logic taken done (more first rest) named all few e =
    let one = bind_ok (named_item sorts logic taken done first) (λ x. counted done (place_of first) x >>= λ longer. read_named sorts logic taken longer rest) named e in
    let longer = bind_ok (counted done (place_of first) one.0) (λ longer. read_named sorts logic taken longer rest) named one.2 in
    let room = if_ok (nat_lt (length done) 64) (place_of first) cause.TooMany (Ok (done ++ one.0 ∷ [])) longer.0 longer.1 in
    let same : done ++ one.0 ∷ [] ≡ longer.0 = cc in
    let less = ltb-true (length done) 64 room.0 in
    let longer_by : length longer.0 ≡ length done + 1 = rw (sym same, length-append) (omega arith) in
    let own = All-append (IsNamed sorts logic) done (one.0 ∷ []) all (All-cons (IsNamed sorts logic) one.0 [] (item_read sorts logic taken done first one.0 one.1) (All-nil (IsNamed sorts logic))) in
    let others = named_read sorts logic taken longer.0 rest named (rw (sym same) own) (omega (arith, longer_by, less)) longer.2 in
    record { all = others.all; count = omega (arith, others.count, longer_by); few = others.few }
