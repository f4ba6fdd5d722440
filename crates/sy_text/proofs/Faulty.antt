-- A fault with which reading ends is one of the text.
use Rattle.std.proofs.Common.{◌≡◌, ℕ, zero, suc, ◌+◌, ◌-◌, ◌<◌, ◌≤◌, Bool, true, false, cond, not, nat_eq, List, [], ◌∷◌, ◌++◌, length, Option, Some, None, Result, Ok, Err, refl, sym, ap, subst, ◌∙◌, ◌⊎◌, inl, inr, arith, append_assoc}
use Rattle.std.proofs.lemmas.Bool.{eqb-true, eqb-false}
use Rattle.sy_text_items.specs.declared.fault.TextFault.{TextFault}
use Rattle.sy_text_items.specs.declared.fault.TextFault.TheVariants.{BadByte, Unclosed, Stray, TooDeep}
use Rattle.sy_text_items.specs.Items.{Item, Items, none, more}
use Rattle.sy_text_items.specs.Lexicon.{space, line_end}
use Rattle.sy_text.specs.Reading.{◌>>=◌, after_layout, atom_at, item_by, item_joined, items_at, command_at}
use Rattle.sy_text.specs.Grammar.{is_layout, is_blank, IsItem}
use Rattle.sy_text.specs.Faults.{AreFront, IsBadItem, too_deep, unclosed, within, atom, IsFault, stray, bad}
use Rattle.sy_text.proofs.Shorter.{ok, err, chosen}
use Rattle.sy_text.proofs.Nested.{Inside, turn, turn_is, front_item, command_turn, command_is, layout_within, item_shorter, items_shorter}
use Rattle.sy_text.proofs.FoundItems.{ItemSpelled, ItemsSpelled, item_found, items_found, Gap, gap_found, empty_blank}
use Rattle.sy_text.proofs.BadAtoms.{is_err, no_ok, Starts, atom_bad}

abbrev Taken : Type 0
Taken = Items × List ℕ

bind_err : {A B : Type 0} (r : Result A TextFault) (f : A → Result B TextFault) (g : TextFault) → (r >>= f) ≡ Err g → (r ≡ Err g) ⊎ ((x : A) × (r ≡ Ok x) × (f x ≡ Err g))
bind_err (Ok x) f g e = inr (x, refl, e)
bind_err (Err d) f g e = inl (ap (λ c. Err c) (is_err d g e))

joined_err : (x : Item) (r : Result Taken TextFault) (f : TextFault) → item_joined x r ≡ Err f → r ≡ Err f
joined_err x (Ok z) f e = no_ok (more x z.0, z.1) f e
joined_err x (Err g) f e = ap (λ c. Err c) (is_err g f e)

-- what is wrong with the items of a list that began at start: the input ends, or one of them is bad
data AreBad (total depth start : ℕ) (f : TextFault) (bytes : List ℕ) : Type 0 where
  ends_open : (text gap : List ℕ) (items : Items) → bytes ≡ text ++ gap → AreFront depth items text gap → is_blank false gap ≡ true → f ≡ Unclosed start → AreBad total depth start f bytes
  one_bad : (text gap tail : List ℕ) (items : Items) → bytes ≡ text ++ (gap ++ tail) → AreFront depth items text (gap ++ tail) → is_layout false gap ≡ true → IsBadItem total f depth tail → AreBad total depth start f bytes

-- ---- an item

list_bad : (total depth : ℕ) (rest : List ℕ) (f : TextFault) → depth < 1200 → AreBad total (depth + 1) (total - length (40 ∷ rest)) f rest → IsBadItem total f depth (40 ∷ rest)
list_bad total depth rest f low (ends_open text gap items parts front blank is) = unclosed depth (40 ∷ rest) text gap items low (ap (λ l. 40 ∷ l) parts) front blank is
list_bad total depth rest f low (one_bad text gap tail items parts front layout is) = within depth (40 ∷ rest) text gap tail items low (ap (λ l. 40 ∷ l) parts) front layout is

below_limit : (depth : ℕ) → depth ≤ 1200 → nat_eq depth 1200 ≡ false → depth < 1200
below_limit depth le h = let differs : depth ≡ 1200 → ⊥ = eqb-false depth 1200 h in omega (arith, le, differs)

item_bad : (inside : Inside) (total depth b : ℕ) (rest : List ℕ) (f : TextFault) → depth ≤ 1200 → space b ≡ false → nat_eq b 41 ≡ false → nat_eq b 59 ≡ false → length (b ∷ rest) ≤ total →
    (depth < 1200 → inside rest ≡ Err f → AreBad total (depth + 1) (total - length (b ∷ rest)) f rest) →
    item_by inside total depth (total - length (b ∷ rest)) (b ∷ rest) ≡ Err f → IsBadItem total f depth (b ∷ rest)
unfolding item_by
item_bad inside total depth b rest f le solid closed spoken fits h e =
    elim (chosen (nat_eq b 40) _ _ (Err f) e) [
      | inl k ↦
          (let P : ℕ → Type 0 = λ c. IsBadItem total f depth (c ∷ rest) in
          let Q : ℕ → Type 0 = λ c. AreBad total (depth + 1) (total - length (c ∷ rest)) f rest in
          let same = eqb-true b 40 k.0 in
          elim (chosen (nat_eq depth 1200) (err (TooDeep (total - length (b ∷ rest)))) _ (Err f) k.1) [
            | inl d ↦ too_deep depth (b ∷ rest) rest (eqb-true depth 1200 d.0) (ap (λ c. c ∷ rest) same) (sym (is_err (TooDeep (total - length (b ∷ rest))) f d.1))
            | inr d ↦
                (let low = below_limit depth le d.0 in
                elim (bind_err (inside rest) _ f d.1) [
                  | inl i ↦ subst P (sym same) (list_bad total depth rest f low (subst Q same (h low i)))
                  | inr i ↦ no_ok _ f i.2
                ])
          ])
      | inr k ↦
          elim (bind_err (atom_at total (total - length (b ∷ rest)) (b ∷ rest)) _ f k.1) [
            | inl i ↦ atom depth (b ∷ rest) (atom_bad total (total - length (b ∷ rest)) b rest f (record { solid = solid; no_list = k.0; no_end = closed; no_comment = spoken }) fits refl i)
            | inr i ↦ no_ok _ f i.2
          ]
    ]

-- ---- what stands behind white space and comments

record Front (b : ℕ) : Type 0 where
  pub solid : space b ≡ false
  pub spoken : nat_eq b 59 ≡ false

front_is : (inside : Bool) (bytes : List ℕ) (b : ℕ) (rest : List ℕ) → after_layout inside bytes ≡ b ∷ rest → Front b
unfolding after_layout
front_is inside [] b rest e = absurd cc
front_is true (c ∷ bytes) b rest e = front_is (not (line_end c)) bytes b rest e
front_is false (c ∷ bytes) b rest e =
    elim (chosen (nat_eq c 59) (after_layout true bytes) _ (b ∷ rest) e) [
      | inl h ↦ front_is true bytes b rest h.1
      | inr h ↦ elim (chosen (space c) (after_layout false bytes) _ (b ∷ rest) h.1) [
        | inl k ↦ front_is false bytes b rest k.1
        | inr k ↦ (let same : c ≡ b = cc in record { solid = ap space (sym same) ∙ k.0; spoken = ap (λ n. nat_eq n 59) (sym same) ∙ h.0 })
      ]
    ]

-- ---- items

-- behind an item that is whole
behind : (total depth start : ℕ) (f : TextFault) (gap text rest : List ℕ) (x : Item) → is_layout false gap ≡ true → IsItem depth x text rest → AreBad total depth start f rest → AreBad total depth start f (gap ++ (text ++ rest))
behind total depth start f gap text rest x layout spells (ends_open others last items parts front blank is) =
    let P : List ℕ → Type 0 = λ l. IsItem depth x text l in
    ends_open (gap ++ (text ++ others)) last (more x items)
    (ap (λ l. gap ++ (text ++ l)) parts ∙ ap (λ l. gap ++ l) (sym (append_assoc text others last)) ∙ sym (append_assoc gap (text ++ others) last))
    (gap, text, others, layout, subst P parts spells, front, refl) blank is
behind total depth start f gap text rest x layout spells (one_bad others last tail items parts front blank is) =
    let P : List ℕ → Type 0 = λ l. IsItem depth x text l in
    one_bad (gap ++ (text ++ others)) last tail (more x items)
    (ap (λ l. gap ++ (text ++ l)) parts ∙ ap (λ l. gap ++ l) (sym (append_assoc text others (last ++ tail))) ∙ sym (append_assoc gap (text ++ others) (last ++ tail)))
    (gap, text, others, layout, subst P parts spells, front, refl) blank is

-- where reading of fewer bytes than n is right
record ReadsRight (total n : ℕ) (read : ℕ → ℕ → Inside) : Type 0 where
  pub found : (d s : ℕ) (ys : List ℕ) (y : Taken) → d ≤ 1200 → read d s ys ≡ Ok y → ItemsSpelled d ys y
  pub shorter : (d s : ℕ) (ys : List ℕ) (y : Taken) → read d s ys ≡ Ok y → length y.1 ≤ length ys
  pub fails : (d s : ℕ) (ys : List ℕ) (f : TextFault) → d ≤ 1200 → length ys < n → length ys ≤ total → read d s ys ≡ Err f → AreBad total d s f ys

turn_bad : (read : ℕ → ℕ → Inside) (total n depth start : ℕ) (bytes front : List ℕ) (f : TextFault) → depth ≤ 1200 → length bytes ≤ n → length bytes ≤ total → ReadsRight total n read →
    after_layout false bytes ≡ front → turn read total depth start front ≡ Err f → AreBad total depth start f bytes
turn_bad read total n depth start bytes [] f le few fits right at e = ends_open [] bytes none refl refl (empty_blank false bytes at) (sym (is_err (Unclosed start) f e))
turn_bad read total n depth start bytes (b ∷ rest) f le few fits right at e =
    let g = gap_found false bytes b rest at in
    let k = front_is false bytes b rest at in
    let short : length (b ∷ rest) ≤ length bytes = subst (λ (l : List ℕ). length l ≤ length bytes) at (layout_within false bytes) in
    let start_of = total - length (b ∷ rest) in
    elim (chosen (nat_eq b 41) (ok (none, rest)) _ (Err f) e) [
      | inl c ↦ no_ok (none, rest) f c.1
      | inr c ↦ elim (bind_err (item_by (read (depth + 1) start_of) total depth start_of (b ∷ rest)) _ f c.1) [
        | inl i ↦ one_bad [] g.gap (b ∷ rest) none g.parts refl g.layout
            (item_bad (read (depth + 1) start_of) total depth b rest f le k.solid c.0 k.spoken (omega (arith, short, fits))
            (λ low failed. right.fails (depth + 1) start_of rest f (omega (arith, low)) (omega (arith, short, few)) (omega (arith, short, fits)) failed) i)
        | inr i ↦
            (let x = i.0 in
            let spelled = item_found (read (depth + 1) start_of) total depth start_of (b ∷ rest) x le (λ ys y low. right.found (depth + 1) start_of ys y (omega (arith, low))) i.1 in
            let less : length x.1 < length (b ∷ rest) = item_shorter (read (depth + 1) start_of) total depth start_of (b ∷ rest) x (λ ys y. right.shorter (depth + 1) start_of ys y) i.1 in
            let failed = right.fails depth start x.1 f le (omega (arith, less, short, few)) (omega (arith, less, short, fits)) (joined_err x.0 (read depth start x.1) f i.2) in
            let whole : bytes ≡ g.gap ++ (spelled.text ++ x.1) = g.parts ∙ ap (λ (l : List ℕ). g.gap ++ l) spelled.parts in
            subst (AreBad total depth start f) (sym whole) (behind total depth start f g.gap spelled.text x.1 x.0 g.layout spelled.spells failed))
      ]
    ]

items_bad : (n total depth start : ℕ) (bytes : List ℕ) (f : TextFault) → depth ≤ 1200 → length bytes < n → length bytes ≤ total → items_at n total depth start bytes ≡ Err f → AreBad total depth start f bytes
items_bad zero total depth start bytes f le few fits e = absurd (omega (arith, few))
items_bad (suc n) total depth start bytes f le few fits e =
    turn_bad (λ d s. items_at n total d s) total n depth start bytes (after_layout false bytes) f le (omega (arith, few)) fits
    (record {
      found = λ d s ys y low. items_found n total d s ys y low;
      shorter = λ d s ys y is. items_shorter n total d s ys y is;
      fails = λ d s ys g low less short is. items_bad n total d s ys g low less short is;
    }) refl (sym (turn_is n total depth start bytes) ∙ e)

-- ---- a command

command_bad : (total : ℕ) (bytes front : List ℕ) (f : TextFault) → length bytes ≤ total → after_layout false bytes ≡ front → command_turn total front ≡ Err f → IsFault total f bytes
command_bad total bytes [] f fits at e = no_ok None f e
command_bad total bytes (b ∷ rest) f fits at e =
    let g = gap_found false bytes b rest at in
    let k = front_is false bytes b rest at in
    let short : length (b ∷ rest) ≤ length bytes = subst (λ (l : List ℕ). length l ≤ length bytes) at (layout_within false bytes) in
    let start_of = total - length (b ∷ rest) in
    elim (chosen (nat_eq b 41) (err (Stray start_of)) _ (Err f) e) [
      | inl c ↦
          (let same = eqb-true b 41 c.0 in
          stray g.gap rest (g.parts ∙ ap (λ n. g.gap ++ (n ∷ rest)) same) g.layout (sym (is_err (Stray start_of) f c.1)))
      | inr c ↦ elim (bind_err (front_item total 0 (b ∷ rest)) _ f c.1) [
        | inl i ↦ bad g.gap (b ∷ rest) g.parts g.layout
            (item_bad (items_at (length (b ∷ rest)) total 1 start_of) total 0 b rest f (omega arith) k.solid c.0 k.spoken (omega (arith, short, fits))
            (λ low failed. items_bad (length (b ∷ rest)) total 1 start_of rest f (omega arith) (omega arith) (omega (arith, short, fits)) failed) i)
        | inr i ↦ no_ok _ f i.2
      ]
    ]

pub faults_are_right : (total : ℕ) (bytes : List ℕ) (f : TextFault) → length bytes ≤ total → command_at total bytes ≡ Err f → IsFault total f bytes
faults_are_right total bytes f fits e = command_bad total bytes (after_layout false bytes) f fits refl (sym (command_is total bytes) ∙ e)
