-- The names that `let` binds, and how they are found.
use Rattle.std.proofs.Common.{◌≡◌, ◌∙◌, ◌+◌, ◌-◌, ◌≤◌, ℕ, zero, suc, refl, sym, ap, arith, Bool, true, false, cond, List, [], ◌∷◌, ◌++◌, length, take, slice_get, Option, Some, None, if◌then◌else◌, true≢false, map}
use Rattle.std.specs.Prelude.{bytes_eq}
use Rattle.std.proofs.lemmas.List.{append-nil, append_assoc, length-map, map-append}
use Rattle.std.proofs.lemmas.Slice.Eq.{bytes_eq-Decides}
use Rattle.indexmap.specs.IndexMap.{insert_entry}
use Rattle.sy_terms.specs.declared.sort.Sort.{Sort}
use Rattle.sy_forms_items.specs.declared.names.Named.{Named}
use Rattle.sy_forms_items.specs.declared.locals.Local.{Local}
use Rattle.sy_forms_items.specs.Environments.{entry_under, or_else, place_from, place_among}
use Rattle.sy_forms_items.specs.Locals.{named_in, in_force, HideEarlier, AreFound}
use Rattle.sy_forms_items.specs.Table.{under}

or_else-assoc : {A : Type 0} (a b c : Option A) → or_else (or_else a b) c ≡ or_else a (or_else b c)
or_else-assoc (Some x) b c = refl
or_else-assoc None b c = refl

or_else-none : {A : Type 0} (a : Option A) → or_else a None ≡ a
or_else-none (Some x) = refl
or_else-none None = refl

-- the last of the names is looked at first
pub place_from-last : (i : ℕ) (name : List ℕ) (names : List Named) (x : Named)
    → place_from i name (names ++ x ∷ []) ≡ or_else (if bytes_eq name x.name then Some (i + length names, x.sort) else None) (place_from i name names)
place_from-last i name [] x = let same : i + 0 ≡ i = omega arith in rw same (sym (or_else-none (if bytes_eq name x.name then Some (i, x.sort) else None)))
place_from-last i name (n ∷ names) x =
    let next : (i + 1) + length names ≡ i + suc (length names) = omega arith in
    let here = if bytes_eq name n.name then Some (i, n.sort) else None in
    ap (λ r. or_else r here) (place_from-last (i + 1) name names x)
    ∙ or_else-assoc (if bytes_eq name x.name then Some ((i + 1) + length names, x.sort) else None) (place_from (i + 1) name names) here
    ∙ ap (λ j. or_else (if bytes_eq name x.name then Some (j, x.sort) else None) (or_else (place_from (i + 1) name names) here)) next

-- what stands under a name where one key has got another value
pub entry-insert : {K V : Type 0} (bytes : K → List ℕ) (entries : List (K × V)) (k : K) (v : V) (name : List ℕ)
    → entry_under name (under bytes (insert_entry (λ a b. bytes_eq (bytes a) (bytes b)) entries k v)) ≡ (if bytes_eq name (bytes k) then Some v else entry_under name (under bytes entries))
entry-insert bytes [] k v name = refl
entry-insert {K} {V} bytes (e ∷ entries) k v name = by (entry-insert bytes entries k v name) (bytes_eq (bytes k) (bytes e.0)) refl
  where
    rest : List (K × V)
    rest = insert_entry (λ a b. bytes_eq (bytes a) (bytes b)) entries k v

    same : bytes k ≡ bytes e.0 → (if bytes_eq name (bytes e.0) then Some v else entry_under name (under bytes entries)) ≡ (if bytes_eq name (bytes k) then Some v else (if bytes_eq name (bytes e.0) then Some e.1 else entry_under name (under bytes entries)))
    same is = rw is (elim (bytes_eq name (bytes e.0)) as (λ b. cond b (Some v) (entry_under name (under bytes entries)) ≡ cond b (Some v) (cond b (Some e.1) (entry_under name (under bytes entries)))) [
      | true ↦ refl
      | false ↦ refl
    ])

    not_both : name ≡ bytes e.0 → bytes_eq (bytes k) (bytes e.0) ≡ false → (b : Bool) → bytes_eq name (bytes k) ≡ b → bytes_eq name (bytes k) ≡ false
    not_both name_is other true k_is = absurd (true≢false (sym ((bytes_eq-Decides (bytes k) (bytes e.0)).1 (sym ((bytes_eq-Decides name (bytes k)).0 k_is) ∙ name_is)) ∙ other))
    not_both name_is other false k_is = k_is

    here : entry_under name (under bytes rest) ≡ (if bytes_eq name (bytes k) then Some v else entry_under name (under bytes entries)) → (b : Bool) → bytes_eq name (bytes e.0) ≡ b → bytes_eq (bytes k) (bytes e.0) ≡ false
        → (if bytes_eq name (bytes e.0) then Some e.1 else entry_under name (under bytes rest)) ≡ (if bytes_eq name (bytes k) then Some v else (if bytes_eq name (bytes e.0) then Some e.1 else entry_under name (under bytes entries)))
    here next true is other = rw (is, not_both ((bytes_eq-Decides name (bytes e.0)).0 is) other (bytes_eq name (bytes k)) refl) refl
    here next false is other = rw is next

    by : entry_under name (under bytes rest) ≡ (if bytes_eq name (bytes k) then Some v else entry_under name (under bytes entries)) → (b : Bool) → bytes_eq (bytes k) (bytes e.0) ≡ b
        → entry_under name (under bytes (insert_entry (λ a b. bytes_eq (bytes a) (bytes b)) (e ∷ entries) k v)) ≡ (if bytes_eq name (bytes k) then Some v else (if bytes_eq name (bytes e.0) then Some e.1 else entry_under name (under bytes entries)))
    by next true is = rw is (same ((bytes_eq-Decides (bytes k) (bytes e.0)).0 is))
    by next false is = rw is (here next (bytes_eq name (bytes e.0)) refl is)

hide-more : (before : List Named) (locals : List Local) (l : Local) → HideEarlier before locals → l.hidden ≡ place_among l.named.name (before ++ named_in locals) → HideEarlier before (locals ++ l ∷ [])
hide-more before [] l h is = (is ∙ ap (place_among l.named.name) (append-nil before), tt)
hide-more before (x ∷ locals) l h is = (h.0, hide-more (before ++ x.named ∷ []) locals l h.1 (is ∙ ap (place_among l.named.name) (sym (append_assoc before (x.named ∷ []) (named_in locals)))))

hide-last : (before : List Named) (locals : List Local) (l : Local) → HideEarlier before (locals ++ l ∷ []) → HideEarlier before locals × (l.hidden ≡ place_among l.named.name (before ++ named_in locals))
hide-last before [] l h = (tt, h.0 ∙ ap (place_among l.named.name) (sym (append-nil before)))
hide-last before (x ∷ locals) l h =
    let r = hide-last (before ++ x.named ∷ []) locals l h.1 in
    ((h.0, r.0), r.1 ∙ ap (place_among l.named.name) (append_assoc before (x.named ∷ []) (named_in locals)))

module _ {K : Type 0} (bytes : K → List ℕ) (locals : List Local) (l : Local) (entries : List (K × Option (ℕ × Sort))) (k : K) where
  -- the entries with this place under the key
  abbrev pub more : Option (ℕ × Sort) → List (List ℕ × Option (ℕ × Sort))
  more place = under bytes (insert_entry (λ a b. bytes_eq (bytes a) (bytes b)) entries k place)

  -- where a name stands among these and one more
  last_of : (name : List ℕ) → place_among name (named_in (locals ++ l ∷ [])) ≡ or_else (if bytes_eq name l.named.name then Some (length locals, l.named.sort) else None) (place_among name (named_in locals))
  last_of name =
      ap (place_among name) (map-append (λ (x : Local). x.named) locals (l ∷ []))
      ∙ place_from-last 0 name (named_in locals) l.named
      ∙ (let count : 0 + length (named_in locals) ≡ length locals = omega (arith, length-map locals (λ (x : Local). x.named)) in
      ap (λ n. or_else (if bytes_eq name l.named.name then Some (n, l.named.sort) else None) (place_among name (named_in locals))) count)

  -- with one name more
  pub AreFound-push : AreFound locals (under bytes entries) → bytes k ≡ l.named.name → l.hidden ≡ place_among l.named.name (named_in locals)
      → AreFound (locals ++ l ∷ []) (more (Some (length locals, l.named.sort)))
  AreFound-push found key is = record {
    last = λ name.
        ap in_force (entry-insert bytes entries k (Some (length locals, l.named.sort)) name ∙ ap (λ b. if bytes_eq name b then Some (Some (length locals, l.named.sort)) else entry_under name (under bytes entries)) key)
        ∙ (elim (bytes_eq name l.named.name) as (λ b. in_force (cond b (Some (Some (length locals, l.named.sort))) (entry_under name (under bytes entries))) ≡ or_else (cond b (Some (length locals, l.named.sort)) None) (place_among name (named_in locals))) [
          | true ↦ refl
          | false ↦ found.last name
        ])
        ∙ sym (last_of name);
    hidden = hide-more [] locals l found.hidden is;
  }

  -- without the last name
  pub AreFound-pop : AreFound (locals ++ l ∷ []) (under bytes entries) → bytes k ≡ l.named.name → AreFound locals (more l.hidden)
  AreFound-pop found key = record {
    last = λ name.
        ap in_force (entry-insert bytes entries k l.hidden name ∙ ap (λ b. if bytes_eq name b then Some l.hidden else entry_under name (under bytes entries)) key)
        ∙ by name (bytes_eq name l.named.name) refl;
    hidden = (hide-last [] locals l found.hidden).0;
  }
    where
      by : (name : List ℕ) (b : Bool) → bytes_eq name l.named.name ≡ b → in_force (if bytes_eq name l.named.name then Some l.hidden else entry_under name (under bytes entries)) ≡ place_among name (named_in locals)
      by name true is = rw is ((hide-last [] locals l found.hidden).1 ∙ ap (λ n. place_among n (named_in locals)) (sym ((bytes_eq-Decides name l.named.name).0 is)))
      by name false is = rw is (found.last name ∙ last_of name ∙ rw is refl)

-- a list and its last item
last-split : {X : Type 0} (i : ℕ) (xs : List X) (x : X) → slice_get xs i ≡ Some x → length xs ≡ i + 1 → xs ≡ take i xs ++ x ∷ []
last-split zero [] x e n = absurd (cc)
last-split zero (y ∷ []) x e n = ap (λ z. z ∷ []) (let same : y ≡ x = cc in same)
last-split zero (y ∷ z ∷ xs) x e n = absurd (omega (arith, n))
last-split (suc i) [] x e n = absurd (cc)
last-split (suc i) (y ∷ xs) x e n = ap (λ r. y ∷ r) (last-split i xs x e (omega (arith, n)))

pub split-last : {X : Type 0} (xs : List X) (x : X) → slice_get xs (length xs - 1) ≡ Some x → xs ≡ take (length xs - 1) xs ++ x ∷ []
split-last [] x e = absurd (cc)
split-last (y ∷ xs) x e = last-split (length (y ∷ xs) - 1) (y ∷ xs) x e (omega arith)

-- the front of a front
pub take-front : {X : Type 0} (n m : ℕ) (xs : List X) → n ≤ m → take n (take m xs) ≡ take n xs
take-front zero m xs le = refl
take-front (suc n) zero xs le = absurd (omega (arith, le))
take-front (suc n) (suc m) [] le = refl
take-front (suc n) (suc m) (x ∷ xs) le = ap (λ r. x ∷ r) (take-front n m xs (omega (arith, le)))
