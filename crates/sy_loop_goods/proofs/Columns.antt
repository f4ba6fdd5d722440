-- Which leaves are good, point by point.
use Rattle.std.proofs.Common.{◌≡◌, ◌<◌, ◌≤◌, ◌+◌, ◌++◌, ⊎_elim, inl, inr, refl, ap, sym, subst, ◌∙◌, ℕ, zero, suc, Bool, true, false, List, [], ◌∷◌, Some, length, map, take, arith, slice_get, slice_index_or}
use Rattle.std.specs.Prelude.{cond, filter, IfSome, Option, None}
use Rattle.std.specs.List.{All, Contains}
use Rattle.std.specs.Option.{option_map, option_or}
use Rattle.std.proofs.lemmas.Bool.{eqb-true, eq-eqb, true≢false}
use Rattle.std.proofs.lemmas.List.{length-map, map_push, take_all, take_more}
use Rattle.std.proofs.lemmas.Option.{get_or_from_slice_get, slice_get-get_or, slice_get-map, slice_get_within}
use Rattle.std.proofs.lemmas.List.Elements.{All-cons, All-contains, All-filter, All-nil, filter_passes}
use denote.Ref.{Bor}
use Rattle.sy_terms.specs.Values.{Val}
use Rattle.sy_terms.specs.Expr.{Expr}
use Rattle.sy_terms.specs.Meaning.{Function, functions, meaning}
use Rattle.sy_grammar_base.specs.Questions.{Question}
use Rattle.sy_grammar_base.specs.Solving.{AreValues}
use Rattle.sy_points.specs.Asked.{Asked, AreDistinct, of_function}
use Rattle.sy_unify.specs.Rows.{holds_at}
use Rattle.sy_bank_level.specs.Banks.{Entry}
use Rattle.sy_bank_level.specs.Rows.{IsRow}
use Rattle.sy_bank_level.specs.Stored.{chosen_of, entry_of}
use Rattle.sy_bank_level.specs.declared.kept.Kept.{Kept}
use Rattle.sy_loop_spec.specs.Pointwise.{IsPointwise}
use Rattle.sy_loop_spec.specs.Resting.{RestsOn}
use Rattle.sy_loop_spec.proofs.Goodness.{bad_alike, good_alike}
use Rattle.sy_loop_truth.proofs.Items.{has_place}
use Rattle.sy_loop_truth.proofs.Traced.{first_or_later, no_element}
use Rattle.sy_loop_spec.specs.Histories.{Counterexample}
use Rattle.sy_loop_spec.specs.Goods.{AreGoods, assignments_of}
use Rattle.sy_loop_spec.specs.Goods.{EntriesHaveRows}
use Rattle.sy_loop_truth.proofs.Places.{item_at}
use Rattle.sy_loop_goods.specs.Columns.{AreColumns, IsColumn, IsSaid, is_on, row_from}
use Rattle.sy_loop_goods.specs.Judged.{IsCopied, JudgesLeaf, good_of, judged_by, leaving_of}
use Rattle.sy_loop_truth.specs.Rests.{AreAssigned}
use Rattle.sy_loop_goods.specs.Leaves.{LeafLeaves}
use Rattle.sy_loop_goods.specs.Judging.{IsOneUntrue, IsTrueAt, JudgesRests}
use Rattle.sy_loop_truth.specs.Rests.{AreRests, IsRest}
use Rattle.sy_loop_goods.specs.declared.goods.Leaving.{Leaving}
use Rattle.sy_loop_goods.specs.declared.judging.Judged.{Judged}
use Rattle.sy_loop_goods.specs.declared.judging.Judged.TheVariants.{Good, Bad, Leaves}
use Rattle.sy_loop_truth.specs.declared.rest.Rest.{Rest}

pub same_item : {X : Type 0} (xs : List X) (k : ℕ) (x y : X) → slice_get xs k ≡ Some x → slice_get xs k ≡ Some y → x ≡ y
same_item xs k x y one other = let e = sym one ∙ other in cc

-- what is there stands at some place
placed : {X : Type 0} (xs : List X) (x : X) → Contains xs x → (k : ℕ) × (slice_get xs k ≡ Some x)
placed xs x of = (of.0, slice_get-get_or xs of.0 x of.1 ∙ ap Some of.2)

-- distinct tuples stand at one place
distinct_place : (tuples : List (List Val)) (i j : ℕ) (tuple : List Val) → AreDistinct tuples → slice_get tuples i ≡ Some tuple → slice_get tuples j ≡ Some tuple → i ≡ j
distinct_place [] i j tuple distinct one other = absurd (cc)
distinct_place (first ∷ rest) zero zero tuple distinct one other = refl
distinct_place (first ∷ rest) zero (suc j) tuple distinct one other = let same : first ≡ tuple = cc in absurd (distinct.0 (subst (Contains rest) (sym same) (has_place rest j tuple other)))
distinct_place (first ∷ rest) (suc i) zero tuple distinct one other = let same : first ≡ tuple = cc in absurd (distinct.0 (subst (Contains rest) (sym same) (has_place rest i tuple one)))
distinct_place (first ∷ rest) (suc i) (suc j) tuple distinct one other = ap suc (distinct_place rest i j tuple distinct.1 one other)

-- what passes is among those that pass
passes : {X : Type 0} (p : X → Bool) (xs : List X) (x : X) → Contains xs x → p x ≡ true → Contains (filter p xs) x
passes {X} p [] x of is = absurd (no_element x of)
passes {X} p (y ∷ xs) x of is = ⊎_elim
    (λ (same : y ≡ x). here (p y) y (filter p xs) x (ap p same ∙ is) same)
    (λ (later : Contains xs x). there (p y) y (filter p xs) x (passes p xs x later is))
    (first_or_later y xs x of)
  where
    here : (b : Bool) (y : X) (rest : List X) (x : X) → b ≡ true → y ≡ x → Contains (cond b (y ∷ rest) rest) x
    here true y rest x is same = (0, omega arith, same)
    here false y rest x is same = absurd (true≢false (sym is))

    there : (b : Bool) (y : X) (rest : List X) (x : X) → Contains rest x → Contains (cond b (y ∷ rest) rest) x
    there true y rest x of = let within = of.1 in (suc of.0, omega (arith, within), of.2)
    there false y rest x of = of

-- a constraint that rests on the tuple at an assignment
pub record IsRestOn (question : Question) (assignments : List (List Val)) (tuple : List Val) (rest : Rest) : Type 0 where
  pub constraint : Expr
  pub is : slice_get question.constraints rest.constraint ≡ Some constraint
  pub values : List Val
  pub stored : slice_get assignments rest.place ≡ Some values
  pub rests : RestsOn question values constraint tuple

pub record IsListed (rests : List Rest) (number place : ℕ) : Type 0 where
  pub rest : Rest
  pub of : Contains rests rest
  pub numbered : rest.constraint ≡ number
  pub stands : rest.place ≡ place

-- these are all of them
pub record AreRestsOn (question : Question) (assignments : List (List Val)) (tuple : List Val) (rests : List Rest) : Type 0 where
  pub each : (rest : Rest) → Contains rests rest → IsRestOn question assignments tuple rest
  pub all : (number place : ℕ) (constraint : Expr) (values : List Val) → slice_get question.constraints number ≡ Some constraint → slice_get assignments place ≡ Some values →
      RestsOn question values constraint tuple → IsListed rests number place

module _ (question : Question) (assignments : List (List Val)) where
  -- those on one point
  pub those_on : (points : List (List Val)) (rests : List Rest) (point : ℕ) (tuple : List Val) → AreDistinct points → AreRests question assignments points rests → slice_get points point ≡ Some tuple →
      AreRestsOn question assignments tuple (filter (is_on point) rests)
  those_on points rests point tuple distinct are at = record {
    each = λ rest of.
        let is = All-contains (IsRest question assignments points) (filter (is_on point) rests) rest (All-filter (is_on point) (IsRest question assignments points) rests are.each) of in
        let on = eqb-true rest.point point (All-contains (λ r. is_on point r ≡ true) (filter (is_on point) rests) rest (filter_passes (is_on point) rests) of) in
        let same = same_item points point is.tuple tuple (ap (slice_get points) (sym on) ∙ is.at) at in
        record { constraint = is.constraint; is = is.of; values = is.values; stored = is.stored; rests = subst (RestsOn question is.values is.constraint) same is.rests };
    all = λ number place constraint values is_number is_place on.
        let among = are.all number place constraint values tuple is_number is_place on in
        let same = distinct_place points among.point point tuple distinct among.at at in
        record {
          rest = record { constraint = number; place = place; point = among.point };
          of = passes (is_on point) rests (record { constraint = number; place = place; point = among.point }) among.among (eq-eqb among.point point same);
          numbered = refl;
          stands = refl;
        };
  }

  -- a body under which all of them are true is good
  pub says_good : (tuple : List Val) (rests : List Rest) (body : Expr) → AreRestsOn question assignments tuple rests → All (IsTrueAt question assignments (body ∷ [])) rests → IsSaid question assignments tuple body true
  says_good tuple rests body are true_at = record {
    each = λ values constraint stored of on.
        let number = placed question.constraints constraint of in
        let place = placed assignments values stored in
        let listed = are.all number.0 place.0 constraint values number.1 place.1 on in
        All-contains (IsTrueAt question assignments (body ∷ [])) rests listed.rest true_at listed.of constraint values
        (ap (slice_get question.constraints) listed.numbered ∙ number.1) (ap (slice_get assignments) listed.stands ∙ place.1);
  }

  -- and one under which one isn't is bad
  pub says_bad : (tuple : List Val) (rests : List Rest) (body : Expr) → AreRestsOn question assignments tuple rests → IsOneUntrue question assignments (body ∷ []) rests → IsSaid question assignments tuple body false
  says_bad tuple rests body are one =
      let is = are.each one.rest one.of in
      let same = same_item question.constraints one.rest.constraint is.constraint one.constraint is.is one.is in
      let same_values = same_item assignments one.rest.place is.values one.values is.stored one.stored in
      record {
        values = one.values;
        stored = has_place assignments one.rest.place one.values one.stored;
        constraint = one.constraint;
        of = has_place question.constraints one.rest.constraint one.constraint one.is;
        rests = subst (λ vs. RestsOn question vs one.constraint tuple) same_values (subst (λ c. RestsOn question is.values c tuple) same is.rests);
        untrue = one.untrue;
      }

  -- one leaf more
  pub column_more : (tuple : List Val) (leaves : List Entry) (entry : Entry) (column : List Bool) (good : Bool) → IsColumn question assignments tuple leaves column → IsSaid question assignments tuple entry.term good →
      IsColumn question assignments tuple (leaves ++ entry ∷ []) (column ++ good ∷ [])
  column_more tuple [] entry [] good is said = (said, tt)
  column_more tuple [] entry (first ∷ column) good is said = absurd is
  column_more tuple (leaf ∷ leaves) entry [] good is said = absurd is
  column_more tuple (leaf ∷ leaves) entry (first ∷ column) good is said = (is.0, column_more tuple leaves entry column good is.1 said)

  -- one point more
  pub columns_more : (leaves : List Entry) (tuples : List (List Val)) (tuple : List Val) (columns : List (List Bool)) (column : List Bool) → AreColumns question assignments leaves tuples columns → IsColumn question assignments tuple leaves column →
      AreColumns question assignments leaves (tuples ++ tuple ∷ []) (columns ++ column ∷ [])
  columns_more leaves [] tuple [] column are is = (is, tt)
  columns_more leaves [] tuple (first ∷ columns) column are is = absurd are
  columns_more leaves (other ∷ tuples) tuple [] column are is = absurd are
  columns_more leaves (other ∷ tuples) tuple (first ∷ columns) column are is = (are.0, columns_more leaves tuples tuple columns column are.1 is)

  -- what a column says of a leaf
  said_in : (tuple : List Val) (leaves : List Entry) (column : List Bool) (leaf : ℕ) (entry : Entry) → IsColumn question assignments tuple leaves column → slice_get leaves leaf ≡ Some entry →
      IsSaid question assignments tuple entry.term (slice_index_or column leaf false)
  said_in tuple [] column leaf entry is at = absurd (cc)
  said_in tuple (first ∷ leaves) [] leaf entry is at = absurd is
  said_in tuple (first ∷ leaves) (good ∷ column) zero entry is at = let same : first ≡ entry = cc in subst (λ (e : Entry). IsSaid question assignments tuple e.term good) same is.0
  said_in tuple (first ∷ leaves) (good ∷ column) (suc leaf) entry is at = said_in tuple leaves column leaf entry is.1 at

  said_at : (leaves : List Entry) (tuples : List (List Val)) (columns : List (List Bool)) (leaf point : ℕ) (entry : Entry) (tuple : List Val) → AreColumns question assignments leaves tuples columns →
      slice_get leaves leaf ≡ Some entry → slice_get tuples point ≡ Some tuple → IsSaid question assignments tuple entry.term (slice_index_or (row_from columns leaf) point false)
  said_at leaves [] columns leaf point entry tuple are at at_point = absurd (cc)
  said_at leaves (first ∷ tuples) [] leaf point entry tuple are at at_point = absurd are
  said_at leaves (first ∷ tuples) (column ∷ columns) leaf zero entry tuple are at at_point =
      let same : first ≡ tuple = cc in subst (λ t. IsSaid question assignments t entry.term (slice_index_or column leaf false)) same (said_in first leaves column leaf entry are.0 at)
  said_at leaves (first ∷ tuples) (column ∷ columns) leaf (suc point) entry tuple are at at_point = said_at leaves tuples columns leaf point entry tuple are.1 at at_point

  -- rows of such columns
  pub goods_are : (leaves : List Entry) (tuples : List (List Val)) (columns rows : List (List Bool)) → AreColumns question assignments leaves tuples columns → length rows ≡ length leaves →
      ((place : ℕ) → place < length leaves → slice_index_or rows place [] ≡ row_from columns place) → AreGoods question assignments tuples leaves rows
  goods_are leaves tuples columns rows are many is = record {
    many = many;
    good = λ leaf point entry tuple at at_point good. subst (IsSaid question assignments tuple entry.term) (sym (holds leaf point entry at) ∙ good) (said_at leaves tuples columns leaf point entry tuple are at at_point);
    bad = λ leaf point entry tuple at at_point bad. subst (IsSaid question assignments tuple entry.term) (sym (holds leaf point entry at) ∙ bad) (said_at leaves tuples columns leaf point entry tuple are at at_point);
  }
    where
      holds : (leaf point : ℕ) (entry : Entry) → slice_get leaves leaf ≡ Some entry → holds_at rows leaf point ≡ slice_index_or (row_from columns leaf) point false
      holds leaf point entry at = ap (λ row. slice_index_or row point false) (is leaf (slice_get_within leaves leaf entry at))

-- kept terms in a row
module _ {T N : Type 0} (number : N → Val) (leaves : List (Bor (Kept T N))) (k : ℕ) (kept : Bor (Kept T N)) (at : slice_get leaves k ≡ Some kept) where
  pub chosen_at : slice_get (chosen_of number leaves) k ≡ Some (entry_of number kept.now)
  chosen_at = slice_get-map (λ (leaf : Bor (Kept T N)). entry_of number leaf.now) leaves k ∙ ap (option_map (λ (leaf : Bor (Kept T N)). entry_of number leaf.now)) at

  pub chosen_next : chosen_of number (take (k + 1) leaves) ≡ chosen_of number (take k leaves) ++ entry_of number kept.now ∷ []
  chosen_next =
      ap (chosen_of number) (take_more leaves k kept (slice_get_within leaves k kept at) ∙ ap (λ (leaf : Bor (Kept T N)). take k leaves ++ leaf ∷ []) (get_or_from_slice_get leaves k kept kept at))
      ∙ map_push (λ (leaf : Bor (Kept T N)). entry_of number leaf.now) (take k leaves) kept

-- the tuples of function 0
pub tuples_are : (asked : Asked) (tuples : List (List Val)) → slice_get asked.tuples 0 ≡ Some tuples → of_function asked 0 ≡ tuples
tuples_are asked tuples at = get_or_from_slice_get asked.tuples 0 tuples [] at

or_none : {X : Type 0} (one other : Option X) → option_or one other ≡ None → (one ≡ None) × (other ≡ None)
or_none None other is = (refl, is)
or_none (Some x) other is = absurd (cc)

good_by : (good : Bool) → good_of (judged_by good) ≡ good
good_by true = refl
good_by false = refl

-- the assignments are values of the variables
all_assigned : (question : Question) (history : List Counterexample) → AreAssigned question history → All (AreValues question.variables) (assignments_of history)
all_assigned question [] assigned = All-nil (AreValues question.variables)
all_assigned question (c ∷ history) assigned = All-cons (AreValues question.variables) c.assignment (assignments_of history) (assigned 0 c refl) (all_assigned question history (λ place k at. assigned (suc place) k at))

-- a row says what its term means
pub row_means : (defined : List Function) (points : List (List Val)) (entry : Entry) (point : ℕ) (tuple : List Val) (value : Val) → IsRow defined points entry.term entry.row → slice_get points point ≡ Some tuple → slice_get entry.row point ≡ Some value →
    value ≡ meaning defined [] tuple entry.term
row_means defined points entry point tuple value row at has =
    let f = λ (p : List Val). meaning defined [] p entry.term in
    let e = sym has ∙ ap (λ (values : List Val). slice_get values point) row.is ∙ slice_get-map f points point ∙ ap (option_map f) at in cc

-- leaves of the same value are good alike
said_alike : (question : Question) (assignments : List (List Val)) → IsPointwise question → All (AreValues question.variables) assignments → (tuple : List Val) (body other : Expr) (good : Bool) →
    meaning (functions question.definitions) [] tuple other ≡ meaning (functions question.definitions) [] tuple body → IsSaid question assignments tuple other good → IsSaid question assignments tuple body good
said_alike question assignments pointwise are tuple body other true same said = good_alike question assignments pointwise are tuple other body same said
said_alike question assignments pointwise are tuple body other false same said = bad_alike question assignments pointwise are tuple other body same said

-- what stands among the first of them
taken_at : {X Y : Type 0} (f : X → Y) (xs : List X) (k j : ℕ) (y : Y) → slice_get (map f (take k xs)) j ≡ Some y → slice_get (map f xs) j ≡ Some y
taken_at f [] zero j y at = absurd (cc)
taken_at f [] (suc k) j y at = absurd (cc)
taken_at f (x ∷ xs) zero j y at = absurd (cc)
taken_at f (x ∷ xs) (suc k) zero y at = at
taken_at f (x ∷ xs) (suc k) (suc j) y at = taken_at f xs k j y at

-- what a column says stands beside a leaf
record IsBeside (question : Question) (assignments : List (List Val)) (tuple : List Val) (leaves : List Entry) (place : ℕ) (good : Bool) : Type 0 where
  pub entry : Entry
  pub at : slice_get leaves place ≡ Some entry
  pub said : IsSaid question assignments tuple entry.term good

beside : (question : Question) (assignments : List (List Val)) (tuple : List Val) (leaves : List Entry) (column : List Bool) (place : ℕ) (good : Bool) → IsColumn question assignments tuple leaves column → slice_get column place ≡ Some good →
    IsBeside question assignments tuple leaves place good
beside question assignments tuple [] [] place good is at = absurd (cc)
beside question assignments tuple [] (first ∷ column) place good is at = absurd is
beside question assignments tuple (leaf ∷ leaves) [] place good is at = absurd is
beside question assignments tuple (leaf ∷ leaves) (first ∷ column) zero good is at =
    let same : first ≡ good = cc in record { entry = leaf; at = refl; said = subst (IsSaid question assignments tuple leaf.term) same is.0 }
beside question assignments tuple (leaf ∷ leaves) (first ∷ column) (suc place) good is at =
    let below = beside question assignments tuple leaves column place good is.1 at in record { entry = below.entry; at = below.at; said = below.said }

-- one leaf more, by what is known of it
module _ {T N : Type 0} (number : N → Val) (question : Question) (history : List Counterexample) (points : List (List Val)) (rests here : List Rest) (point : ℕ) (distinct : AreDistinct points)
    (are : AreRests question (assignments_of history) points rests) (is_here : here ≡ filter (is_on point) rests) (pointwise : IsPointwise question) (assigned : AreAssigned question history) (leaves : List (Bor (Kept T N)))
    (rows : EntriesHaveRows (functions question.definitions) points (chosen_of number leaves)) (k : ℕ) (goods : List Bool) (judged : Judged) (judges : JudgesLeaf question history (chosen_of number leaves) k point here goods judged) (leaving : Option Leaving) where
  kept_next : (entry : Entry) → slice_get (chosen_of number leaves) k ≡ Some entry → chosen_of number (take (k + 1) leaves) ≡ chosen_of number (take k leaves) ++ entry ∷ []
  kept_next entry at =
      let many = length-map leaves (λ (leaf : Bor (Kept T N)). entry_of number leaf.now) in
      let inside = slice_get_within (chosen_of number leaves) k entry at in
      let item = item_at leaves k (omega (arith, inside, many)) in
      let same = same_item (chosen_of number leaves) k (entry_of number item.0.now) entry (chosen_at number leaves k item.0 item.1) at in
      chosen_next number leaves k item.0 item.1 ∙ ap (λ (e : Entry). chosen_of number (take k leaves) ++ e ∷ []) same

  with_said : (entry : Entry) → slice_get (chosen_of number leaves) k ≡ Some entry → (good : Bool) (tuple : List Val) → IsColumn question (assignments_of history) tuple (chosen_of number (take k leaves)) goods →
      IsSaid question (assignments_of history) tuple entry.term good → IsColumn question (assignments_of history) tuple (chosen_of number (take (k + 1) leaves)) (goods ++ good ∷ [])
  with_said entry at good tuple so_far said =
      subst (λ es. IsColumn question (assignments_of history) tuple es (goods ++ good ∷ [])) (sym (kept_next entry at))
      (column_more question (assignments_of history) tuple (chosen_of number (take k leaves)) entry goods good so_far said)

  copied_said : (good : Bool) → (is : IsCopied (chosen_of number leaves) k point goods good) → (tuple : List Val) → slice_get points point ≡ Some tuple → IsColumn question (assignments_of history) tuple (chosen_of number (take k leaves)) goods →
      IsSaid question (assignments_of history) tuple is.entry.term good
  copied_said good is tuple at_point so_far =
      let defined = functions question.definitions in
      let found = beside question (assignments_of history) tuple (chosen_of number (take k leaves)) goods is.other good so_far is.stands in
      let same = same_item (chosen_of number leaves) is.other found.entry is.other_entry (taken_at (λ (leaf : Bor (Kept T N)). entry_of number leaf.now) leaves k is.other found.entry found.at) is.other_at in
      let one = row_means defined points is.other_entry point tuple is.value (rows is.other is.other_entry is.other_at) at_point is.other_has in
      let this = row_means defined points is.entry point tuple is.value (rows k is.entry is.at) at_point is.has in
      said_alike question (assignments_of history) pointwise (all_assigned question history assigned) tuple is.entry.term is.other_entry.term good (sym one ∙ this)
      (subst (λ (e : Entry). IsSaid question (assignments_of history) tuple e.term good) same found.said)

  all_on : (tuple : List Val) → slice_get points point ≡ Some tuple → AreRestsOn question (assignments_of history) tuple here
  all_on tuple at_point = subst (AreRestsOn question (assignments_of history) tuple) (sym is_here) (those_on question (assignments_of history) points rests point tuple distinct are at_point)

  evaluated_said : (judged : Judged) (entry : Entry) → JudgesRests question history (entry.term ∷ []) here judged → leaving_of judged k ≡ None → (tuple : List Val) → slice_get points point ≡ Some tuple → IsSaid question (assignments_of history) tuple entry.term (good_of judged)
  evaluated_said Good entry judges none tuple at_point = says_good question (assignments_of history) tuple here entry.term (all_on tuple at_point) judges
  evaluated_said Bad entry judges none tuple at_point = says_bad question (assignments_of history) tuple here entry.term (all_on tuple at_point) judges
  evaluated_said (Leaves place) entry judges none tuple at_point = absurd (cc)

  pub goods_next : (leaving ≡ None → (tuple : List Val) → slice_get points point ≡ Some tuple → IsColumn question (assignments_of history) tuple (chosen_of number (take k leaves)) goods) → option_or (leaving_of judged k) leaving ≡ None →
      (tuple : List Val) → slice_get points point ≡ Some tuple → IsColumn question (assignments_of history) tuple (chosen_of number (take (k + 1) leaves)) (goods ++ good_of judged ∷ [])
  goods_next so_far none tuple at_point =
      let both = or_none (leaving_of judged k) leaving none in
      let column = so_far both.1 tuple at_point in
      elim judges [
        | inl copy ↦
            subst (λ good. IsColumn question (assignments_of history) tuple (chosen_of number (take (k + 1) leaves)) (goods ++ good ∷ [])) (sym (ap good_of copy.2 ∙ good_by copy.0))
            (with_said copy.1.entry copy.1.at copy.0 tuple column (copied_said copy.0 copy.1 tuple at_point column))
        | inr evaluated ↦ with_said evaluated.entry evaluated.at (good_of judged) tuple column (evaluated_said judged evaluated.entry evaluated.judges both.0 tuple at_point)
      ]

  never_left : (good : Bool) → leaving_of (judged_by good) k ≡ None
  never_left true = refl
  never_left false = refl

  left_next : (judged : Judged) (entry : Entry) → slice_get (chosen_of number leaves) k ≡ Some entry → JudgesRests question history (entry.term ∷ []) here judged → IfSome leaving (LeafLeaves question history (chosen_of number leaves)) →
      IfSome (option_or (leaving_of judged k) leaving) (LeafLeaves question history (chosen_of number leaves))
  left_next Good entry at judges so_far = so_far
  left_next Bad entry at judges so_far = so_far
  left_next (Leaves place) entry at judges so_far = record { entry = entry; at = at; leaves_at = judges }

  pub leaving_next : IfSome leaving (LeafLeaves question history (chosen_of number leaves)) → IfSome (option_or (leaving_of judged k) leaving) (LeafLeaves question history (chosen_of number leaves))
  leaving_next so_far = elim judges [
    | inl copy ↦ subst (λ found. IfSome (option_or found leaving) (LeafLeaves question history (chosen_of number leaves))) (sym (ap (λ (j : Judged). leaving_of j k) copy.2 ∙ never_left copy.0)) so_far
    | inr evaluated ↦ left_next judged evaluated.entry evaluated.at evaluated.judges so_far
  ]

-- one point more
pub columns_next : (question : Question) (assignments tuples : List (List Val)) (leaves : List Entry) (point : ℕ) (columns : List (List Bool)) (column : List Bool) (found leaving : Option Leaving) → point < length tuples →
    (leaving ≡ None → AreColumns question assignments leaves (take point tuples) columns) → (found ≡ None → (tuple : List Val) → slice_get tuples point ≡ Some tuple → IsColumn question assignments tuple leaves column) →
    option_or found leaving ≡ None → AreColumns question assignments leaves (take (point + 1) tuples) (columns ++ column ∷ [])
columns_next question assignments tuples leaves point columns column found leaving within so_far this none =
    let both = or_none found leaving none in
    let item = item_at tuples point within in
    subst (λ ts. AreColumns question assignments leaves ts (columns ++ column ∷ []))
    (sym (take_more tuples point item.0 within ∙ ap (λ (t : List Val). take point tuples ++ t ∷ []) (get_or_from_slice_get tuples point item.0 item.0 item.1)))
    (columns_more question assignments leaves (take point tuples) item.0 columns column (so_far both.1) (this both.0 item.0 item.1))

pub left_by : (P : Leaving → Type 0) (found leaving : Option Leaving) → IfSome found P → IfSome leaving P → IfSome (option_or found leaving) P
left_by P None leaving one other = other
left_by P (Some x) leaving one other = one

-- all points
pub goods_all : (question : Question) (assignments tuples : List (List Val)) (leaves : List Entry) (point : ℕ) (columns rows : List (List Bool)) → length tuples ≤ point → AreColumns question assignments leaves (take point tuples) columns → length rows ≡ length leaves →
    ((place : ℕ) → place < length leaves → slice_index_or rows place [] ≡ row_from columns place) → AreGoods question assignments tuples leaves rows
goods_all question assignments tuples leaves point columns rows done are many is =
    goods_are question assignments leaves tuples columns rows (subst (λ ts. AreColumns question assignments leaves ts columns) (take_all point tuples done) are) many is
