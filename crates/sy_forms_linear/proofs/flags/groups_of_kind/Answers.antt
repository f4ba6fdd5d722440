use Rattle.std.proofs.Common.{◌≡◌, ◌≤◌, ◌+◌, ◌∙◌, ℕ, zero, suc, List, [], ◌∷◌, ◌++◌, length, drop, refl, sym, ap, arith}
use Rattle.sy_text_items.specs.Items.{listed}
use Rattle.sy_forms_linear.specs.Flags.{groups_of_kind}
use Rattle.sy_forms_items.specs.Seen.{environment_of}
use Rattle.sy_forms_items.specs.Views.{items_in}
use Rattle.sy_forms_items.proofs.Lookups.{found_at, drop-at}
use Rattle.sy_forms_linear.proofs.flags.groups_of_kind.Goals as goal

push_assoc : {A : Type 0} (xs : List A) (x : A) (ys : List A) → (xs ++ x ∷ []) ++ ys ≡ xs ++ x ∷ ys
push_assoc [] x ys = refl
push_assoc (y ∷ xs) x ys = ap (λ zs. y ∷ zs) (push_assoc xs x ys)

nil_right : {A : Type 0} (xs : List A) → xs ++ [] ≡ xs
nil_right [] = refl
nil_right (x ∷ xs) = ap (λ zs. x ∷ zs) (nil_right xs)

past : {A : Type 0} (i : ℕ) (xs : List A) → length xs ≤ i → drop i xs ≡ []
past zero [] le = refl
past zero (x ∷ xs) le = absurd (omega arith)
past (suc i) [] le = refl
past (suc i) (x ∷ xs) le = past i xs (omega arith)

pub loop-named-preserved : goal.loop-named-preserved
loop-named-preserved c =
    let i = c.loop-named.named-index in
    let x = c.named-item.result in
    let there = found_at i c.args.nonterminals.now x (omega arith) c.named-item.is in
    let others = drop (i + 1) c.args.nonterminals.now in
    let next = ap (λ ns. groups_of_kind c.args.kind (environment_of c.args.env.now) ns (listed (items_in c.loop-named.left))) (drop-at i c.args.nonterminals.now x there) ∙ c.next_flag-flag.ensures others in
    rw (c.in_ok-push.ensures.ok) (push_assoc c.loop-named.flags _ _ ∙ ap (λ gs. c.loop-named.flags ++ gs) (sym next) ∙ c.loop-named.invariant)

pub returns : goal.returns
returns c =
    let over = past c.loop-named.named-index c.args.nonterminals.now (omega arith) in
    sym (nil_right c.loop-named.flags)
    ∙ ap (λ ns. c.loop-named.flags ++ groups_of_kind c.args.kind (environment_of c.args.env.now) ns (listed (items_in c.loop-named.left))) (sym over)
    ∙ c.loop-named.invariant
