-- Items that are read are spelled by the grammar.
use Rattle.std.proofs.Common.{◌≡◌, ℕ, zero, suc, ◌+◌, ◌-◌, ◌<◌, ◌≤◌, Bool, true, false, cond, not, ◌&&◌, nat_eq, List, [], ◌∷◌, ◌++◌, length, Option, Some, None, Result, Ok, Err, refl, sym, ap, subst, ◌∙◌, inl, inr, arith, append_assoc}
use Rattle.std.specs.Prelude.{IfOk, IfSome, IfNone}
use Rattle.std.proofs.lemmas.Bool.{eqb-true, eqb-false}
use Rattle.sy_text_items.specs.declared.sexp.Sexp.{Sexp}
use Rattle.sy_text_items.specs.declared.fault.TextFault.{TextFault}
use Rattle.sy_text_items.specs.declared.fault.TextFault.TheVariants.{Unclosed, Stray, TooDeep}
use Rattle.sy_text.specs.declared.fault.TextEnd.{TextEnd}
use Rattle.sy_text.specs.declared.fault.TextEnd.TheVariants as ends
use Rattle.sy_text_items.specs.Items.{Item, Items, none, more}
use Rattle.sy_text_items.specs.Views.{item_of, command_of}
use Rattle.sy_text_items.specs.Lexicon.{space, line_end}
use Rattle.sy_text.specs.Reading.{TextGives, after_layout, atom_at, item_by, item_joined, items_at, command_at}
use Rattle.sy_text.specs.Grammar.{is_layout, is_blank, IsItem, AreItems, StandsInFront, EndsBlank}
use Rattle.sy_text.proofs.Shorter.{ok, err, no_err, from_ok, chosen, past_err, bind_ok}
use Rattle.sy_text.proofs.Nested.{Inside, turn, turn_is, front_item, command_turn, command_is, command_none}
use Rattle.sy_text.proofs.Found.{atom_found}

abbrev Taken : Type 0
Taken = Items × List ℕ

pub record ItemSpelled (depth : ℕ) (bytes : List ℕ) (x : Item × List ℕ) : Type 0 where
  pub text : List ℕ
  pub parts : bytes ≡ text ++ x.1
  pub spells : IsItem depth x.0 text x.1

pub record ItemsSpelled (depth : ℕ) (bytes : List ℕ) (x : Taken) : Type 0 where
  pub text : List ℕ
  pub parts : bytes ≡ text ++ x.1
  pub spells : AreItems depth x.0 text x.1

below_limit : (depth : ℕ) → depth ≤ 1200 → nat_eq depth 1200 ≡ false → depth < 1200
below_limit depth le h = let differs : depth ≡ 1200 → ⊥ = eqb-false depth 1200 h in omega (arith, le, differs)

pub item_found : (inside : Inside) (total depth start : ℕ) (bytes : List ℕ) (x : Item × List ℕ) → depth ≤ 1200
    → ((ys : List ℕ) (y : Taken) → depth < 1200 → inside ys ≡ Ok y → ItemsSpelled (depth + 1) ys y) → item_by inside total depth start bytes ≡ Ok x → ItemSpelled depth bytes x
unfolding item_by
item_found inside total depth start [] x le h e = no_err (Unclosed start) x e
item_found inside total depth start (b ∷ rest) x le h e =
    elim (chosen (nat_eq b 40) _ _ (Ok x) e) [
      | inl k ↦
          (let p = past_err (nat_eq depth 1200) (TooDeep start) _ x k.1 in
          let q = bind_ok (inside rest) _ x p.1 in
          let lt : depth < 1200 = below_limit depth le p.0 in
          let i = h rest q.0 lt q.1 in
          from_ok (ItemSpelled depth (b ∷ rest)) _ x q.2 (record {
            text = 40 ∷ i.text;
            parts = ap (λ (c : ℕ). c ∷ rest) (eqb-true b 40 k.0) ∙ ap (λ (l : List ℕ). 40 ∷ l) i.parts;
            spells = (i.text, refl, lt, i.spells);
          }))
      | inr k ↦
          (let q = bind_ok (atom_at total start (b ∷ rest)) _ x k.1 in
          let a = atom_found total start (b ∷ rest) q.0 q.1 in
          from_ok (ItemSpelled depth (b ∷ rest)) _ x q.2 (record { text = a.text; parts = a.parts; spells = a.spells }))
    ]

-- ---- white space and comments

pub record Gap (inside : Bool) (bytes rest : List ℕ) : Type 0 where
  pub gap : List ℕ
  pub layout : is_layout inside gap ≡ true
  pub parts : bytes ≡ gap ++ rest

pub gap_found : (inside : Bool) (bytes : List ℕ) (b : ℕ) (rest : List ℕ) → after_layout inside bytes ≡ b ∷ rest → Gap inside bytes (b ∷ rest)
unfolding after_layout is_layout
gap_found inside [] b rest e = absurd cc
gap_found true (c ∷ bytes) b rest e =
    let g = gap_found (not (line_end c)) bytes b rest e in
    record { gap = c ∷ g.gap; layout = g.layout; parts = ap (λ (l : List ℕ). c ∷ l) g.parts }
gap_found false (c ∷ bytes) b rest e =
    elim (chosen (nat_eq c 59) (after_layout true bytes) _ (b ∷ rest) e) [
      | inl h ↦
          (let g = gap_found true bytes b rest h.1 in
          record { gap = c ∷ g.gap; layout = rw h.0 g.layout; parts = ap (λ (l : List ℕ). c ∷ l) g.parts })
      | inr h ↦ elim (chosen (space c) (after_layout false bytes) _ (b ∷ rest) h.1) [
        | inl k ↦
            (let g = gap_found false bytes b rest k.1 in
            record { gap = c ∷ g.gap; layout = rw (h.0, k.0) g.layout; parts = ap (λ (l : List ℕ). c ∷ l) g.parts })
        | inr k ↦ record { gap = []; layout = refl; parts = k.1 }
      ]
    ]

-- ---- items

joined_is : (x : Item) (r : Result Taken TextFault) (y : Taken) → item_joined x r ≡ Ok y → (z : Taken) × (r ≡ Ok z) × (ok (more x z.0, z.1) ≡ Ok y)
joined_is x (Ok z) y e = (z, refl, e)
joined_is x (Err f) y e = no_err f y e

turn_found : (read : ℕ → ℕ → Inside) (total depth start : ℕ) (gap front : List ℕ) (x : Taken) → depth ≤ 1200 → is_layout false gap ≡ true
    → ((d s : ℕ) (ys : List ℕ) (y : Taken) → d ≤ 1200 → read d s ys ≡ Ok y → ItemsSpelled d ys y) → turn read total depth start front ≡ Ok x → ItemsSpelled depth (gap ++ front) x
turn_found read total depth start gap [] x le g h e = no_err (Unclosed start) x e
turn_found read total depth start gap (b ∷ rest) x le g h e =
    elim (chosen (nat_eq b 41) _ _ (Ok x) e) [
      | inl k ↦ from_ok (ItemsSpelled depth (gap ++ (b ∷ rest))) (none, rest) x k.1 (record {
        text = gap ++ 41 ∷ [];
        parts = ap (λ (c : ℕ). gap ++ (c ∷ rest)) (eqb-true b 41 k.0) ∙ sym (append_assoc gap (41 ∷ []) rest);
        spells = (gap, g, refl);
      })
      | inr k ↦
          (let at = total - length (b ∷ rest) in
          let q = bind_ok (item_by (read (depth + 1) (total - length (b ∷ rest))) total depth (total - length (b ∷ rest)) (b ∷ rest)) _ x k.1 in
          let one = item_found (read (depth + 1) (total - length (b ∷ rest))) total depth (total - length (b ∷ rest)) (b ∷ rest) q.0 le
          (λ ys y lt. h (depth + 1) (total - length (b ∷ rest)) ys y (omega (arith, lt))) q.1 in
          let j = joined_is q.0.0 (read depth start q.0.1) x q.2 in
          let others = h depth start q.0.1 j.0 le j.1 in
          let P : List ℕ → Type 0 = λ l. IsItem depth q.0.0 one.text l in
          from_ok (ItemsSpelled depth (gap ++ (b ∷ rest))) _ x j.2 (record {
            text = gap ++ (one.text ++ others.text);
            parts = ap (λ (l : List ℕ). gap ++ l) (one.parts ∙ ap (λ (l : List ℕ). one.text ++ l) others.parts ∙ sym (append_assoc one.text others.text j.0.1))
                ∙ sym (append_assoc gap (one.text ++ others.text) j.0.1);
            spells = (gap, one.text, others.text, g, subst P others.parts one.spells, others.spells, refl);
          }))
    ]

front_found : (read : ℕ → ℕ → Inside) (total depth start : ℕ) (bytes front : List ℕ) (x : Taken) → depth ≤ 1200 → after_layout false bytes ≡ front
    → ((d s : ℕ) (ys : List ℕ) (y : Taken) → d ≤ 1200 → read d s ys ≡ Ok y → ItemsSpelled d ys y) → turn read total depth start front ≡ Ok x → ItemsSpelled depth bytes x
front_found read total depth start bytes [] x le a h e = no_err (Unclosed start) x e
front_found read total depth start bytes (b ∷ rest) x le a h e =
    let g = gap_found false bytes b rest a in
    let P : List ℕ → Type 0 = λ l. ItemsSpelled depth l x in
    subst P (sym g.parts) (turn_found read total depth start g.gap (b ∷ rest) x le g.layout h e)

pub items_found : (n total depth start : ℕ) (bytes : List ℕ) (x : Taken) → depth ≤ 1200 → items_at n total depth start bytes ≡ Ok x → ItemsSpelled depth bytes x
unfolding items_at
items_found zero total depth start bytes x le e = no_err (Unclosed start) x e
items_found (suc n) total depth start bytes x le e =
    front_found (λ d s. items_at n total d s) total depth start bytes (after_layout false bytes) x le refl (λ d s ys y low. items_found n total d s ys y low) (sym (turn_is n total depth start bytes) ∙ e)

-- ---- a command

command_front : (total : ℕ) (bytes front : List ℕ) (y : Item × ℕ) → after_layout false bytes ≡ front → command_turn total front ≡ Ok (Some y) → StandsInFront y.0 y.1 total bytes
command_front total bytes [] y a e = let clash : ok None ≡ ok (Some y) = e in absurd cc
command_front total bytes (b ∷ rest) y a e =
    let p = past_err (nat_eq b 41) (Stray (total - length (b ∷ rest))) _ (Some y) e in
    let q = bind_ok (front_item total 0 (b ∷ rest)) _ (Some y) p.1 in
    let some : (q.0.0, total - length q.0.1) ≡ y = cc in
    let one = item_found (items_at (length (b ∷ rest)) total 1 (total - length (b ∷ rest))) total 0 (total - length (b ∷ rest)) (b ∷ rest) q.0 (omega arith)
    (λ ys z lt. items_found (length (b ∷ rest)) total 1 (total - length (b ∷ rest)) ys z (omega arith)) q.1 in
    let g = gap_found false bytes b rest a in
    let P : Item × ℕ → Type 0 = λ z. StandsInFront z.0 z.1 total bytes in
    subst P some (record {
      gap = g.gap;
      text = one.text;
      rest = q.0.1;
      layout = g.layout;
      spells = one.spells;
      parts = g.parts ∙ ap (λ (l : List ℕ). g.gap ++ l) one.parts;
      place = refl;
    })

pub command_found : (total : ℕ) (bytes : List ℕ) (y : Item × ℕ) → command_at total bytes ≡ Ok (Some y) → StandsInFront y.0 y.1 total bytes
command_found total bytes y e = command_front total bytes (after_layout false bytes) y refl (sym (command_is total bytes) ∙ e)

none_front : (total : ℕ) (front : List ℕ) → command_turn total front ≡ Ok None → front ≡ []
none_front total [] e = refl
none_front total (b ∷ rest) e =
    let p = past_err (nat_eq b 41) (Stray (total - length (b ∷ rest))) _ None e in
    let q = bind_ok (front_item total 0 (b ∷ rest)) _ None p.1 in
    absurd cc

pub command_empty : (total : ℕ) (bytes : List ℕ) → command_at total bytes ≡ Ok None → after_layout false bytes ≡ []
command_empty total bytes e = none_front total (after_layout false bytes) (sym (command_is total bytes) ∙ e)

blank_byte : (comment blank : Bool) (b : ℕ) (inside outside rest : List ℕ) (p q : Bool) → (inside ≡ [] → p ≡ true) → (outside ≡ [] → q ≡ true)
    → cond comment inside (cond blank outside (b ∷ rest)) ≡ [] → cond comment p (blank && q) ≡ true
blank_byte true blank b inside outside rest p q h k e = h e
blank_byte false true b inside outside rest p q h k e = k e
blank_byte false false b inside outside rest p q h k e = absurd cc

-- where nothing is left behind white space and comments, there is nothing else
pub empty_blank : (inside : Bool) (bytes : List ℕ) → after_layout inside bytes ≡ [] → is_blank inside bytes ≡ true
unfolding after_layout is_blank
empty_blank inside [] e = refl
empty_blank true (b ∷ rest) e = empty_blank (not (line_end b)) rest e
empty_blank false (b ∷ rest) e = blank_byte (nat_eq b 59) (space b) b (after_layout true rest) (after_layout false rest) rest (is_blank true rest) (is_blank false rest) (empty_blank true rest) (empty_blank false rest) e

skip_byte : (comment blank : Bool) (b : ℕ) (inside outside rest : List ℕ) (p q : Bool) → (p ≡ true → inside ≡ []) → (q ≡ true → outside ≡ [])
    → cond comment p (blank && q) ≡ true → cond comment inside (cond blank outside (b ∷ rest)) ≡ []
skip_byte true blank b inside outside rest p q h k e = h e
skip_byte false true b inside outside rest p q h k e = k e
skip_byte false false b inside outside rest p q h k e = absurd cc

pub blank_empty : (inside : Bool) (bytes : List ℕ) → is_blank inside bytes ≡ true → after_layout inside bytes ≡ []
unfolding after_layout is_blank
blank_empty inside [] e = refl
blank_empty true (b ∷ rest) e = blank_empty (not (line_end b)) rest e
blank_empty false (b ∷ rest) e = skip_byte (nat_eq b 59) (space b) b (after_layout true rest) (after_layout false rest) rest (is_blank true rest) (is_blank false rest) (blank_empty true rest) (blank_empty false rest) e

-- what next_command answers
pub answer_found : (r : Result (Option (Sexp × ℕ)) TextEnd) (total : ℕ) (bytes : List ℕ) → TextGives command_of r (command_at total bytes) → IfOk r (λ a. IfSome a (λ x. StandsInFront (item_of x.0) x.1 total bytes))
answer_found (Ok (Some x)) total bytes h = command_found total bytes (item_of x.0, x.1) h
answer_found (Ok None) total bytes h = tt
answer_found (Err e) total bytes h = tt

pub answer_none : (r : Result (Option (Sexp × ℕ)) TextEnd) (total : ℕ) (bytes : List ℕ) → TextGives command_of r (command_at total bytes) → IfOk r (λ a. IfNone a (is_blank false bytes ≡ true))
answer_none (Ok (Some x)) total bytes h = tt
answer_none (Ok None) total bytes h = empty_blank false bytes (command_empty total bytes h)
answer_none (Err e) total bytes h = tt

some_none : (x : Item × ℕ) → ok (Some x) ≡ ok None → ⊥
some_none x e = absurd cc

fault_none : (f : TextFault) → err {A = Option (Item × ℕ)} f ≡ ok None → ⊥
fault_none f e = absurd cc

-- blank bytes are answered by None, unless memory ran out
pub answer_blank : (r : Result (Option (Sexp × ℕ)) TextEnd) (total : ℕ) (bytes : List ℕ) → TextGives command_of r (command_at total bytes) → is_blank false bytes ≡ true → EndsBlank r
answer_blank (Ok (Some x)) total bytes h b = some_none (item_of x.0, x.1) (sym h ∙ command_none total bytes (blank_empty false bytes b))
answer_blank (Ok None) total bytes h b = tt
answer_blank (Err ends.Want) total bytes h b = tt
answer_blank (Err (ends.Fault f)) total bytes h b = fault_none f (sym h ∙ command_none total bytes (blank_empty false bytes b))
