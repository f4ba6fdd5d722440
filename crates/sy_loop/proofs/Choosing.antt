-- Bodies that are chosen one after the other.
use Rattle.std.proofs.Common.{◌≡◌, ◌<◌, ◌≤◌, ◌+◌, ◌-◌, ◌++◌, refl, ap, sym, subst, ◌∙◌, ⊎_elim, ℕ, suc, List, [], ◌∷◌, length, map, take, get_or, arith, slice_get, Some}
use Rattle.std.specs.List.{All}
use Rattle.std.specs.Option.{option_map}
use Rattle.std.proofs.lemmas.List.{length-map, length-append, map-append, map_push, take_more, take_all}
use Rattle.std.proofs.lemmas.Option.{slice_get-map, slice_get_read}
use Rattle.std.proofs.Math.Seq.{take-append_seam}
use denote.Ref.{Bor}
use Rattle.std.proofs.lemmas.List.Elements.{All-nil, All-cons}
use Rattle.sy_terms.specs.Values.{Val}
use Rattle.sy_terms.specs.Expr.{Expr}
use Rattle.sy_terms.specs.Denoted.{expr_of}
use Rattle.sy_terms.specs.Fitting.{Scope}
use Rattle.sy_terms.specs.Meaning.{functions}
use Rattle.sy_terms.specs.declared.term.Term.{Term}
use Rattle.sy_grammar_base.specs.Trees.{Tree, Derives, tree_size}
use Rattle.sy_grammar_base.specs.Questions.{Goal, Question}
use Rattle.sy_grammar_base.specs.Solving.{AreWithin}
use Rattle.sy_points.specs.Asked.{Asked, of_function}
use Rattle.sy_bank_level.specs.Banks.{Entry, Merged, kept_at}
use Rattle.sy_bank_level.specs.Columns.{HasRow}
use Rattle.sy_bank_level.specs.Covering.{terms}
use Rattle.sy_bank_level.specs.Stored.{entry_of, entries_of, chosen_of}
use Rattle.sy_bank_level.specs.declared.kept.Kept.{Kept}
use Rattle.sy_bank_level.specs.Bank.{merged_of}
use Rattle.sy_bank_level.specs.declared.bank.Bank.{Bank}
use Rattle.sy_loop_truth.proofs.Items.{all_at}
use Rattle.sy_bank_level.proofs.KeptLaws.{at-end}
use Rattle.sy_loop.specs.Levels.{AreHonest, BodiesSumTo, BodiesHaveRows, BodiesAreBegun, AreChoices}

begin_more : (pool : List Val) (goals : List Goal) (bodies : List Expr) (goal : Goal) (term : Expr) (tree : Tree) (total size : ℕ) → BodiesSumTo pool goals bodies total → slice_get goals (length bodies) ≡ Some goal → Derives goal.grammar 0 tree term →
    tree_size goal.grammar pool 0 tree ≡ size → BodiesSumTo pool goals (bodies ++ term ∷ []) (total + size)
begin_more pool [] [] goal term tree total size sum at derives sized = absurd (cc)
begin_more pool (g ∷ goals) [] goal term tree total size sum at derives sized =
    let same : g ≡ goal = cc in
    let derives' = subst (λ (h : Goal). Derives h.grammar 0 tree term) (sym same) derives in
    let sized' : tree_size g.grammar pool 0 tree ≡ size = subst (λ (h : Goal). tree_size h.grammar pool 0 tree ≡ size) (sym same) sized in
    (tree, 0, derives', refl, omega (arith, sized', sum))
begin_more pool [] (body ∷ bodies) goal term tree total size sum at derives sized = absurd sum
begin_more pool (g ∷ goals) (body ∷ bodies) goal term tree total size sum at derives sized =
    (sum.0, sum.1 + size, sum.2, begin_more pool goals bodies goal term tree sum.1 size sum.3 at derives sized, omega (arith, sum.4))

-- bodies of all functions
pub all_begun : (pool : List Val) (n : ℕ) (goals : List Goal) (bodies : List Expr) (total : ℕ) → BodiesSumTo pool goals bodies total → length bodies ≡ length goals → total ≤ n → AreWithin pool n goals bodies
all_begun pool n [] [] total sum same small = tt
all_begun pool n [] (body ∷ bodies) total sum same small = absurd sum
all_begun pool n (goal ∷ goals) [] total sum same small = absurd (omega (arith, same))
all_begun pool n (goal ∷ goals) (body ∷ bodies) total sum same small =
    (sum.0, sum.2, omega (arith, sum.4, small), all_begun pool (n - tree_size goal.grammar pool 0 sum.0) goals bodies sum.1 sum.3 (omega (arith, same)) (omega (arith, sum.4, small)))

all_from_at : {X : Type 0} (P : X → Type 0) (xs : List X) → ((k : ℕ) (x : X) → slice_get xs k ≡ Some x → P x) → All P xs
all_from_at P [] each = All-nil P
all_from_at P (x ∷ xs) each = All-cons P x xs (each 0 x refl) (all_from_at P xs (λ k y at. each (suc k) y at))

pub terms_push : (entries : List Entry) (entry : Entry) → terms (entries ++ entry ∷ []) ≡ terms entries ++ entry.term ∷ []
terms_push [] entry = refl
terms_push (e ∷ entries) entry = ap (λ rest. e.term ∷ rest) (terms_push entries entry)

pub terms_length : (entries : List Entry) → length (terms entries) ≡ length entries
terms_length [] = refl
terms_length (e ∷ entries) = ap suc (terms_length entries)

rows_more : (scope : Scope) (question : Question) (asked : Asked) (chosen : List Entry) (entry : Entry) → BodiesHaveRows scope question asked chosen → HasRow scope (functions question.definitions) (of_function asked (length chosen)) entry.term entry.row →
    BodiesHaveRows scope question asked (chosen ++ entry ∷ [])
rows_more scope question asked chosen entry rows last function e at = ⊎_elim
    (λ (old : slice_get chosen function ≡ Some e). rows function e old)
    (λ (new : (function ≡ length chosen) × (e ≡ entry)).
    subst (λ n. HasRow scope (functions question.definitions) (of_function asked n) e.term e.row) (sym new.0) (subst (λ (x : Entry). HasRow scope (functions question.definitions) (of_function asked (length chosen)) x.term x.row) (sym new.1) last))
    (at-end chosen function entry e at)

-- a kept term of the next function's start symbol may be the next body
choices : (scope : Scope) (question : Question) (asked : Asked) (size : ℕ) (banks : List Merged) (chosen : List Entry) (bank : Merged) (kept : List Entry) (own rest left : ℕ) → AreHonest scope question asked banks → slice_get banks (length chosen) ≡ Some bank → kept ≡ kept_at bank.levels 0 own →
    BodiesAreBegun scope question asked size chosen left → own + rest ≡ left → AreChoices scope question asked size chosen kept rest
choices scope question asked size banks chosen bank kept own rest left honest at is begun split =
    let of = honest.each (length chosen) bank at in
    all_from_at (λ (entry : Entry). BodiesAreBegun scope question asked size (chosen ++ entry ∷ []) rest) kept (λ k entry place.
    let place' : slice_get (kept_at bank.levels 0 own) k ≡ Some entry = subst (λ all. slice_get all k ≡ Some entry) is place in
    let sound = of.honest.each 0 own k entry place' in
    let goal : slice_get question.goals (length (terms chosen)) ≡ Some of.goal = subst (λ n. slice_get question.goals n ≡ Some of.goal) (sym (terms_length chosen)) of.at in
    record {
      total = begun.total + own;
      sum = subst (λ bodies. BodiesSumTo question.pool question.goals bodies (begun.total + own)) (sym (terms_push chosen entry))
          (begin_more question.pool question.goals (terms chosen) of.goal entry.term entry.tree begun.total own begun.sum goal sound.1.derives (sound.1.sized ∙ sound.0));
      within = omega (arith, begun.within, split);
      rows = rows_more scope question asked chosen entry begun.rows
          (subst (λ points. HasRow scope (functions question.definitions) points entry.term entry.row) of.over (of.rows entry (record { size = own; place = k; at = place' })));
    })

-- nothing is chosen yet
pub nothing_chosen : (scope : Scope) (question : Question) (asked : Asked) (size level : ℕ) → level ≤ size → BodiesAreBegun scope question asked size [] level
nothing_chosen scope question asked size level small = record { total = 0; sum = refl; within = omega (arith, small); rows = λ function entry at. absurd (cc) }

-- one kept term is chosen after the others
pub chosen_pushed : {T N : Type 0} (number : N → Val) (initial before after : List (Bor (Kept T N))) (kept : Bor (Kept T N)) → before ≡ initial → after ≡ before ++ kept ∷ [] →
    chosen_of number after ≡ chosen_of number initial ++ entry_of number kept.now ∷ []
chosen_pushed number initial before after kept same pushed =
    ap (chosen_of number) (pushed ∙ ap (λ chosen. chosen ++ kept ∷ []) same) ∙ map-append (λ (k : Bor (Kept _ _)). entry_of number k.now) initial (kept ∷ [])

-- and taken back
pub chosen_popped : {X : Type 0} (initial before after popped : List X) (x : X) (n : ℕ) → before ≡ initial → after ≡ before ++ x ∷ [] → n ≡ length after → popped ≡ take (n - 1) after → popped ≡ initial
chosen_popped initial before after popped x n same pushed sized is =
    let count : n - 1 ≡ length before = omega (arith, sized, ap length pushed, length-append before (x ∷ [])) in
    is ∙ ap (λ k. take k after) count ∙ ap (take (length before)) pushed ∙ take-append_seam before (x ∷ []) ∙ same

pub next_length : {X : Type 0} (initial before after : List X) (x : X) → before ≡ initial → after ≡ before ++ x ∷ [] → length after ≡ length initial + 1
next_length initial before after x same pushed = omega (arith, ap length pushed, ap length same, length-append before (x ∷ []))

-- one body more
pub next_begun : {T N : Type 0} (number : N → Val) (scope : Scope) (question : Question) (asked : Asked) (size left : ℕ) (initial before after : List (Bor (Kept T N))) (kept : List (Kept T N)) (index : ℕ) (choice : Bor (Kept T N)) →
    AreChoices scope question asked size (chosen_of number initial) (entries_of number kept) left → before ≡ initial → after ≡ before ++ choice ∷ [] → index < length kept → choice.now ≡ get_or kept index choice.now → BodiesAreBegun scope question asked size (chosen_of number after) left
next_begun number scope question asked size left initial before after kept index choice choices same pushed within at =
    let begun = all_at (λ (entry : Entry). BodiesAreBegun scope question asked size (chosen_of number initial ++ entry ∷ []) left) (entry_of number) kept index choice.now within at choices in
    subst (λ chosen. BodiesAreBegun scope question asked size chosen left) (sym (chosen_pushed number initial before after choice same pushed)) begun

-- the bank at a place
pub bank_at : {A B : Type 0} (f : A → B) (xs : List A) (k : ℕ) (x : A) → k < length xs → x ≡ get_or xs k x → slice_get (map f xs) k ≡ Some (f x)
bank_at f xs k x within at = slice_get-map f xs k ∙ ap (option_map f) (slice_get_read xs (length xs) k x refl within at)

-- the kept terms of one size, as next bodies
pub kept_choices : {T N : Type 0} (number : N → Val) (scope : Scope) (question : Question) (asked : Asked) (size left own rest function : ℕ) (banks : List (Bank T N)) (initial chosen : List (Bor (Kept T N))) (bank : Bank T N) (kept : List (Kept T N)) →
    AreHonest scope question asked (map (merged_of number) banks) → BodiesAreBegun scope question asked size (chosen_of number initial) left → chosen ≡ initial → function < length banks → bank ≡ get_or banks function bank → function ≡ length initial →
    entries_of number kept ≡ kept_at (merged_of number (get_or banks function bank)).levels 0 own → own + rest ≡ left → AreChoices scope question asked size (chosen_of number chosen) (entries_of number kept) rest
kept_choices number scope question asked size left own rest function banks initial chosen bank kept honest begun same within at is kept_is split =
    let place : length (chosen_of number initial) ≡ function = omega (arith, is, length-map initial (λ (k : Bor (Kept _ _)). entry_of number k.now)) in
    subst (λ c. AreChoices scope question asked size (chosen_of number c) (entries_of number kept) rest) (sym same)
    (choices scope question asked size (map (merged_of number) banks) (chosen_of number initial) (merged_of number bank) (entries_of number kept) own rest left honest
    (subst (λ k. slice_get (map (merged_of number) banks) k ≡ Some (merged_of number bank)) (sym place) (bank_at (merged_of number) banks function bank within at))
    (subst (λ (b : Bank _ _). entries_of number kept ≡ kept_at (merged_of number b).levels 0 own) (sym at) kept_is) begun split)

-- bodies of all functions are a candidate
pub chosen_all : {T N : Type 0} (number : N → Val) (scope : Scope) (question : Question) (asked : Asked) (size left : ℕ) (banks : List (Bank T N)) (chosen : List (Bor (Kept T N))) → AreHonest scope question asked (map (merged_of number) banks) → BodiesAreBegun scope question asked size (chosen_of number chosen) left →
    length chosen ≡ length banks → AreWithin question.pool size question.goals (terms (chosen_of number chosen))
chosen_all number scope question asked size left banks chosen honest begun all =
    all_begun question.pool size question.goals (terms (chosen_of number chosen)) begun.total begun.sum
    (omega (arith, all, honest.all, length-map banks (merged_of number), terms_length (chosen_of number chosen), length-map chosen (λ (k : Bor (Kept _ _)). entry_of number k.now))) (omega (arith, begun.within))

-- copies of the chosen terms
pub copied_more : {T N : Type 0} (number : N → Val) (copies : List (Term T N)) (chosen : List (Bor (Kept T N))) (index : ℕ) (copy : Term T N) (kept : Bor (Kept T N)) → map (expr_of number) copies ≡ terms (chosen_of number (take index chosen)) → index < length chosen →
    kept ≡ get_or chosen index kept → expr_of number copy ≡ (entry_of number kept.now).term → map (expr_of number) (copies ++ copy ∷ []) ≡ terms (chosen_of number (take (index + 1) chosen))
copied_more number copies chosen index copy kept same within at is =
    let last : terms (chosen_of number (take (index + 1) chosen)) ≡ terms (chosen_of number (take index chosen)) ++ (entry_of number kept.now).term ∷ [] =
    ap (λ all. terms (chosen_of number all)) (take_more chosen index kept within ∙ ap (λ k. take index chosen ++ k ∷ []) (sym at))
    ∙ ap terms (map-append (λ (k : Bor (Kept _ _)). entry_of number k.now) (take index chosen) (kept ∷ [])) ∙ terms_push (chosen_of number (take index chosen)) (entry_of number kept.now) in
    map_push (expr_of number) copies copy ∙ ap (λ all. all ++ expr_of number copy ∷ []) same ∙ ap (λ y. terms (chosen_of number (take index chosen)) ++ y ∷ []) is ∙ sym last

pub copied_all : {T N : Type 0} (number : N → Val) (copies : List (Term T N)) (chosen : List (Bor (Kept T N))) (index : ℕ) → map (expr_of number) copies ≡ terms (chosen_of number (take index chosen)) → length chosen ≤ index → map (expr_of number) copies ≡ terms (chosen_of number chosen)
copied_all number copies chosen index same done = same ∙ ap (λ all. terms (chosen_of number all)) (take_all index chosen done)
