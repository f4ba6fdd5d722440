-- Lists read and written item by item.
use Rattle.std.proofs.Common.{◌≡◌, ℕ, suc, List, [], ◌∷◌, ◌++◌, ◌+◌, ◌<◌, ◌≤◌, length, drop, get_or, refl, ap, sym, subst, ◌∙◌, append_assoc, append-nil, add-one, drop-cons, Some, None}
use Rattle.std.specs.Prelude.{Option, All}
use Rattle.std.specs.Option.{option_map}
use Rattle.std.proofs.lemmas.List.{drop_all}
use Rattle.std.proofs.lemmas.List.Elements.{All-head, All-tail}
use Rattle.sy_text_items.specs.Items.{Item, Items, none, more}
use Rattle.sy_text.specs.Spelling.{item_text, others_text}
use Rattle.sy_proof.specs.Lists.{each_in, spaced, with_first, Finds}

-- ---- reading: what was read, and what is left
-- of the list that is read, these were read, and of these items the others are read
abbrev pub Onward : {A : Type 0} → (done : List A) → Option (List A) → Option (List A) → Type 0
Onward {A} done left whole = option_map (λ (rest : List A). done ++ rest) left ≡ whole

pub onward_start : {A : Type 0} (whole : Option (List A)) → Onward [] whole whole
onward_start None = refl
onward_start (Some xs) = refl

onward_first : {A : Type 0} (done : List A) (x : A) (rest : Option (List A)) → option_map (λ (xs : List A). (done ++ x ∷ []) ++ xs) rest ≡ option_map (λ (xs : List A). done ++ xs) (with_first (Some x) rest)
onward_first done x None = refl
onward_first done x (Some xs) = ap Some (append_assoc done (x ∷ []) xs)

pub onward_step : {A : Type 0} (read : Item → Option A) (done new : List A) (left rest : Items) (whole : Option (List A)) (item : Item) (x : A) → left ≡ more item rest → Some x ≡ read item → new ≡ done ++ x ∷ [] →
    Onward done (each_in read left) whole → Onward new (each_in read rest) whole
onward_step {A} read done new left rest whole item x is reads grown on =
    let split : each_in read left ≡ with_first (read item) (each_in read rest) = ap (each_in read) is in
    ap (λ (all : List A). option_map (λ (xs : List A). all ++ xs) (each_in read rest)) grown ∙ onward_first done x (each_in read rest)
    ∙ ap (λ (first : Option A). option_map (λ (xs : List A). done ++ xs) (with_first first (each_in read rest))) reads
    ∙ ap (λ (all : Option (List A)). option_map (λ (xs : List A). done ++ xs) all) (sym split) ∙ on

pub onward_missing : {A : Type 0} (read : Item → Option A) (done : List A) (left rest : Items) (whole : Option (List A)) (item : Item) → left ≡ more item rest → None ≡ read item → Onward done (each_in read left) whole → None ≡ whole
onward_missing {A} read done left rest whole item is reads on =
    ap (λ (first : Option A). option_map (λ (xs : List A). done ++ xs) (with_first first (each_in read rest))) reads
    ∙ ap (λ (items : Items). option_map (λ (xs : List A). done ++ xs) (each_in read items)) (sym is) ∙ on

pub onward_end : {A : Type 0} (read : Item → Option A) (done : List A) (left : Items) (whole : Option (List A)) → left ≡ none → Onward done (each_in read left) whole → Some done ≡ whole
onward_end {A} read done left whole is on = ap Some (sym (append-nil done)) ∙ ap (λ (items : Items). option_map (λ (xs : List A). done ++ xs) (each_in read items)) (sym is) ∙ on

-- all of it was read, and it is good
pub finds_all : {A : Type 0} (Good : A → Type 0) (read : Item → Option A) (done : List A) (left : Items) (whole : Option (List A)) → left ≡ none → Onward done (each_in read left) whole → All Good done → Finds (All Good) whole (Some done)
finds_all Good read done left whole is on good = (sym (onward_end read done left whole is on), good)

good_middle : {A : Type 0} (Good : A → Type 0) (done : List A) (x : A) (rest : List A) → All Good (done ++ x ∷ rest) → Good x
good_middle Good [] x rest all = All-head Good x rest all
good_middle Good (d ∷ done) x rest all = good_middle Good done x rest (All-tail Good d (done ++ x ∷ rest) all)

-- an item isn't read, or what is read of it isn't good
pub finds_missing : {A : Type 0} (Good : A → Type 0) (read : Item → Option A) (done : List A) (left rest : Items) (whole : Option (List A)) (item : Item) → left ≡ more item rest → Finds Good (read item) None →
    Onward done (each_in read left) whole → Finds (All Good) whole None
finds_missing {A} Good read done left rest whole item is missing on xs all good =
    let here : option_map (λ (others : List A). done ++ others) (with_first (read item) (each_in read rest)) ≡ Some xs =
    ap (λ (items : Items). option_map (λ (others : List A). done ++ others) (each_in read items)) (sym is) ∙ on ∙ all in
    by_first (read item) (each_in read rest) missing here
  where
    by_first : (first : Option A) (others : Option (List A)) → ((x : A) → first ≡ Some x → Good x → ⊥) → option_map (λ (ys : List A). done ++ ys) (with_first first others) ≡ Some xs → ⊥
    by_first None others missing here = cc
    by_first (Some x) None missing here = cc
    by_first (Some x) (Some ys) missing here =
        let same : xs ≡ done ++ x ∷ ys = cc in
        missing x refl (good_middle Good done x ys (subst (All Good) same good))

-- ---- writing
-- the text of a list's others, by the items behind spaces
pub others_spaced : (xs : Items) → others_text xs ≡ spaced xs ++ 41 ∷ []
others_spaced none = refl
others_spaced (more x xs) = ap (λ (text : List ℕ). (32 ∷ item_text x) ++ text) (others_spaced xs) ∙ sym (append_assoc (32 ∷ item_text x) (spaced xs) (41 ∷ []))

-- what was written, and the text of what is left
pub written_step : {A : Type 0} (text : List A → List ℕ) (one : A → List ℕ) → ((x : A) (xs : List A) → text (x ∷ xs) ≡ one x ++ text xs) → (xs : List A) (i : ℕ) (x d : A) (out new whole : List ℕ) → i < length xs → x ≡ get_or xs i d → new ≡ out ++ one x →
    out ++ text (drop i xs) ≡ whole → new ++ text (drop (i + 1) xs) ≡ whole
written_step text one first xs i x d out new whole within is grown on =
    let left : drop i xs ≡ get_or xs i d ∷ drop (suc i) xs = drop-cons xs i d within in
    let here : text (drop i xs) ≡ one x ++ text (drop (suc i) xs) = ap text left ∙ first (get_or xs i d) (drop (suc i) xs) ∙ ap (λ y. one y ++ text (drop (suc i) xs)) (sym is) in
    rw add-one (ap (λ (all : List ℕ). all ++ text (drop (suc i) xs)) grown ∙ append_assoc out (one x) (text (drop (suc i) xs)) ∙ ap (λ (all : List ℕ). out ++ all) (sym here) ∙ on)

pub written_all : {A : Type 0} (text : List A → List ℕ) → text [] ≡ [] → (xs : List A) (i : ℕ) (out whole : List ℕ) → length xs ≤ i → out ++ text (drop i xs) ≡ whole → out ≡ whole
written_all text nothing xs i out whole all on = sym (append-nil out) ∙ ap (λ (more : List ℕ). out ++ more) (sym (ap text (drop_all i xs all) ∙ nothing)) ∙ on
