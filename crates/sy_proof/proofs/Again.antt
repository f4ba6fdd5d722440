-- What is written is read again.
use Rattle.std.proofs.Common.{◌≡◌, ◌<◌, ◌^◌, ◌-◌, ℕ, List, [], ◌∷◌, ◌++◌, refl, ap, subst, ◌∙◌, append_assoc, Bool, true, false, Some, None, Ok, length}
use Rattle.std.specs.Prelude.{Option, All, option_and_then, if◌then◌else◌}
use Rattle.std.proofs.lemmas.Bool.{lt-ltb}
use Rattle.std.proofs.lemmas.List.Elements.{All-head, All-tail}
use Rattle.sy_text_items.specs.Lexicon.{space}
use Rattle.sy_text_items.specs.Items.{Item, leaf, group, Items, none, more}
use Rattle.sy_text.specs.Grammar.{Alike, AllAlike}
use Rattle.sy_text.specs.Reading.{command_at}
use Rattle.sy_text.specs.Spelling.{item_text, ItemFits, ItemsFit, parted}
use Rattle.sy_text.proofs.Nests.{command_again}
use Rattle.sy_text.proofs.Digits.{item_spelled, empty_gap}
use Rattle.sy_forms_items.specs.Parts.{numeral, numeral_in, symbol, symbol_in, is_symbol, is_name}
use Rattle.sy_proof.specs.Lists.{below, behind_word, each_in, each_item, number_item, with_first}
use Rattle.sy_proof.specs.Numbers.{small_in}

-- ---- items apart from places
pub numeral_alike : (x y : Item) → Alike x y → numeral x ≡ numeral y
numeral_alike (leaf a p) (leaf b q) alike = ap numeral_in alike
numeral_alike (leaf a p) (group ys q) alike = absurd alike
numeral_alike (group xs p) (leaf b q) alike = absurd alike
numeral_alike (group xs p) (group ys q) alike = refl

pub symbol_alike : (x y : Item) → Alike x y → symbol x ≡ symbol y
symbol_alike (leaf a p) (leaf b q) alike = ap symbol_in alike
symbol_alike (leaf a p) (group ys q) alike = absurd alike
symbol_alike (group xs p) (leaf b q) alike = absurd alike
symbol_alike (group xs p) (group ys q) alike = refl

pub word_alike : (word : List ℕ) (x y : Item) → Alike x y → is_symbol word x ≡ is_symbol word y
word_alike word x y alike = ap (is_name word) (symbol_alike x y alike)

pub small_alike : (x y : Item) → Alike x y → small_in x ≡ small_in y
small_alike x y alike = ap (below (2 ^ 32)) (numeral_alike x y alike)

pub each_alike : {A : Type 0} (read : Item → Option A) → ((x y : Item) → Alike x y → read x ≡ read y) → (xs ys : Items) → AllAlike xs ys → each_in read xs ≡ each_in read ys
each_alike read same none none alike = refl
each_alike read same none (more y ys) alike = absurd alike
each_alike read same (more x xs) none alike = absurd alike
each_alike {A} read same (more x xs) (more y ys) alike =
    ap (λ (first : Option A). with_first first (each_in read xs)) (same x y alike.0) ∙ ap (with_first (read y)) (each_alike read same xs ys alike.1)

-- what is read of the items behind a word
pub behind_alike : {A : Type 0} (word : List ℕ) (read : Items → Option A) → ((xs ys : Items) → AllAlike xs ys → read xs ≡ read ys) → (x y : Item) → Alike x y → option_and_then read (behind_word word x) ≡ option_and_then read (behind_word word y)
behind_alike word read same (leaf a p) (leaf b q) alike = refl
behind_alike word read same (leaf a p) (group ys q) alike = absurd alike
behind_alike word read same (group xs p) (leaf b q) alike = absurd alike
behind_alike word read same (group none p) (group none q) alike = refl
behind_alike word read same (group none p) (group (more y ys) q) alike = absurd alike
behind_alike word read same (group (more x xs) p) (group none q) alike = absurd alike
behind_alike {A} word read same (group (more x xs) p) (group (more y ys) q) alike =
    chosen (is_symbol word x) (is_symbol word y) (word_alike word x y alike.0) (same xs ys alike.1)
  where
    either : (b : Bool) (us vs : Items) → read us ≡ read vs → option_and_then read (if b then Some us else None) ≡ option_and_then read (if b then Some vs else None)
    either true us vs e = e
    either false us vs e = refl

    chosen : (b c : Bool) → b ≡ c → read xs ≡ read ys → option_and_then read (if b then Some xs else None) ≡ option_and_then read (if c then Some ys else None)
    chosen b c e f = subst (λ d. option_and_then read (if b then Some xs else None) ≡ option_and_then read (if d then Some ys else None)) e (either b xs ys f)

-- ---- items that are written
pub below_limit : (limit n : ℕ) → n < limit → below limit (Some n) ≡ Some n
below_limit limit n small = ap (λ b. if b then Some n else None) (lt-ltb n limit small)

pub small_again : (n : ℕ) → n < 2 ^ 32 → small_in (number_item n) ≡ Some n
small_again n small = below_limit (2 ^ 32) n small

pub each_again : {A : Type 0} (item : A → Item) (read : Item → Option A) (Good : A → Type 0) → ((x : A) → Good x → read (item x) ≡ Some x) → (xs : List A) → All Good xs → each_in read (each_item item xs) ≡ Some xs
each_again item read Good again [] all = refl
each_again {A} item read Good again (x ∷ xs) all =
    ap (λ (first : Option A). with_first first (each_in read (each_item item xs))) (again x (All-head Good x xs all))
    ∙ ap (with_first (Some x)) (each_again item read Good again xs (All-tail Good x xs all))

pub each_fits : {A : Type 0} (item : A → Item) (Good : A → Type 0) (room : ℕ) → ((x : A) → Good x → ItemFits room (item x)) → (xs : List A) → All Good xs → ItemsFit room (each_item item xs)
each_fits item Good room fits [] all = tt
each_fits item Good room fits (x ∷ xs) all = (fits x (All-head Good x xs all), each_fits item Good room fits xs (All-tail Good x xs all))

line_end_parts : (rest : List ℕ) → parted (10 ∷ rest) ≡ true
unfolding space
line_end_parts rest = refl

-- an item and byte 10 are read as the item
pub read_again : (x : Item) (total : ℕ) (text rest : List ℕ) → ItemFits 1200 x → text ≡ item_text x ++ 10 ∷ [] →
    (y : Item) × Alike x y × (command_at total (text ++ rest) ≡ Ok (Some (y, total - length (10 ∷ rest))))
read_again x total text rest fits is =
    let parts : text ++ rest ≡ item_text x ++ (10 ∷ rest) = ap (λ (t : List ℕ). t ++ rest) is ∙ append_assoc (item_text x) (10 ∷ []) rest in
    command_again x total (text ++ rest) [] (item_text x) (10 ∷ rest) empty_gap (item_spelled x 1200 0 (10 ∷ rest) fits refl (line_end_parts rest)) parts
