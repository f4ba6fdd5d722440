-- Logs that are written are read as the same logs.
use Rattle.std.proofs.Common.{◌≡◌, ℕ, List, [], ◌∷◌, ◌++◌, refl, ap, sym, subst, ◌∙◌, arith, append_assoc, Some, true}
use Rattle.std.specs.Prelude.{Option, All, codes, Result}
use Rattle.std.proofs.lemmas.List.Elements.{All-head, All-tail}
use Rattle.sy_text_items.specs.Items.{Item, leaf, group, Items, none, more}
use Rattle.sy_text_items.specs.Lexicon.{bar_content, digit, letter, mark, quotable, space, symbol_byte}
use Rattle.sy_text_items.specs.declared.fault.TextFault.{TextFault}
use Rattle.sy_text.specs.Grammar.{Alike, AllAlike}
use Rattle.sy_text.specs.Reading.{command_at}
use Rattle.sy_text.specs.Spelling.{all_bytes, atom_text, bare, item_text, others_text, symbol_text, ItemFits, ItemsFit}
use Rattle.sy_clauses.specs.declared.Line.{Line}
use Rattle.sy_clauses.specs.declared.Step.{Step}
use Rattle.sy_proof.specs.Lists.{each_in, each_item, number_item, spaced}
use Rattle.sy_proof.specs.Logs.{line_by, line_in, line_item, log_in, log_item, step_text, steps_in, steps_items, with_step, LineIsSmall, StepIsSmall, ReadsLog}
use Rattle.sy_proof.specs.Numbers.{small_in}
use Rattle.sy_proof.proofs.Again.{behind_alike, each_again, each_alike, each_fits, read_again, small_again, small_alike}
use Rattle.sy_proof.proofs.Lists.{others_spaced}
use Rattle.sy_proof.proofs.NumbersAgain.{small_fits}

-- ---- items apart from places
steps_alike : (xs ys : Items) → AllAlike xs ys → steps_in xs ≡ steps_in ys
steps_alike none none alike = refl
steps_alike none (more y ys) alike = absurd alike
steps_alike (more x xs) none alike = absurd alike
steps_alike (more x none) (more y none) alike = refl
steps_alike (more x none) (more y (more v ys)) alike = absurd alike.1
steps_alike (more x (more u xs)) (more y none) alike = absurd alike.1
steps_alike (more x (more u xs)) (more y (more v ys)) alike =
    ap (λ (var : Option ℕ). with_step var (small_in u) (steps_in xs)) (small_alike x y alike.0)
    ∙ ap (λ (clause : Option ℕ). with_step (small_in y) clause (steps_in xs)) (small_alike u v alike.1.0)
    ∙ ap (with_step (small_in y) (small_in v)) (steps_alike xs ys alike.1.1)

line_alike : (x y : Item) → Alike x y → line_in x ≡ line_in y
line_alike (leaf a p) (leaf b q) alike = refl
line_alike (leaf a p) (group ys q) alike = absurd alike
line_alike (group xs p) (leaf b q) alike = absurd alike
line_alike (group none p) (group none q) alike = refl
line_alike (group none p) (group (more y ys) q) alike = absurd alike
line_alike (group (more x xs) p) (group none q) alike = absurd alike
line_alike (group (more x xs) p) (group (more y ys) q) alike =
    ap (λ (first : Option ℕ). line_by first (steps_in xs)) (small_alike x y alike.0) ∙ ap (line_by (small_in y)) (steps_alike xs ys alike.1)

pub log_alike : (x y : Item) → Alike x y → log_in x ≡ log_in y
log_alike x y alike = behind_alike (codes "log") (each_in line_in) (each_alike line_in line_alike) x y alike

-- ---- what is written
steps_again : (steps : List Step) → All StepIsSmall steps → steps_in (steps_items steps) ≡ Some steps
steps_again [] small = refl
steps_again (step ∷ steps) small =
    let first = All-head StepIsSmall step steps small in
    ap (λ (var : Option ℕ). with_step var (small_in (number_item step.with)) (steps_in (steps_items steps))) (small_again step.var first.var)
    ∙ ap (λ (clause : Option ℕ). with_step (Some step.var) clause (steps_in (steps_items steps))) (small_again step.with first.clause)
    ∙ ap (with_step (Some step.var) (Some step.with)) (steps_again steps (All-tail StepIsSmall step steps small))

line_again : (line : Line) → LineIsSmall line → line_in (line_item line) ≡ Some line
line_again line small =
    ap (λ (first : Option ℕ). line_by first (steps_in (steps_items line.steps))) (small_again line.first small.first)
    ∙ ap (line_by (Some line.first)) (steps_again line.steps small.steps)

log_again : (lines : List Line) → All LineIsSmall lines → log_in (log_item lines) ≡ Some lines
log_again lines small = each_again line_item line_in LineIsSmall line_again lines small

-- ---- what can be spelled
steps_fit : (room : ℕ) (steps : List Step) → All StepIsSmall steps → ItemsFit room (steps_items steps)
steps_fit room [] small = tt
steps_fit room (step ∷ steps) small =
    let first = All-head StepIsSmall step steps small in
    (small_fits step.var first.var, (small_fits step.with first.clause, steps_fit room steps (All-tail StepIsSmall step steps small)))

line_fits : (line : Line) → LineIsSmall line → ItemFits 1199 (line_item line)
line_fits line small = (omega arith, (small_fits line.first small.first, steps_fit 1198 line.steps small.steps))

log_word_fits : all_bytes bar_content (codes "log") ≡ true
unfolding bar_content quotable space
log_word_fits = refl

log_fits : (lines : List Line) → All LineIsSmall lines → ItemFits 1200 (log_item lines)
log_fits lines small = (omega arith, (log_word_fits, each_fits line_item LineIsSmall 1199 line_fits lines small))

-- ---- texts
log_word_text : symbol_text (codes "log") ≡ codes "log"
unfolding symbol_text bare digit symbol_byte letter mark
log_word_text = refl

pub first_step_text : (step : Step) (steps : List Step) → spaced (steps_items (step ∷ steps)) ≡ step_text step ++ spaced (steps_items steps)
first_step_text step steps = sym (append_assoc (32 ∷ item_text (number_item step.var)) (32 ∷ item_text (number_item step.with)) (spaced (steps_items steps)))

pub line_text : (line : Line) (out first : List ℕ) → first ≡ out ++ 32 ∷ 40 ∷ [] →
    ((first ++ item_text (number_item line.first)) ++ spaced (steps_items line.steps)) ++ 41 ∷ [] ≡ out ++ 32 ∷ item_text (line_item line)
line_text line out first is =
    let number = item_text (number_item line.first) in
    let steps = spaced (steps_items line.steps) in
    ap (λ (front : List ℕ). ((front ++ number) ++ steps) ++ 41 ∷ []) is ∙ regroup out number steps
    ∙ ap (λ (rest : List ℕ). out ++ 32 ∷ 40 ∷ (number ++ rest)) (sym (others_spaced (steps_items line.steps)))
  where
    regroup : (out number steps : List ℕ) → (((out ++ 32 ∷ 40 ∷ []) ++ number) ++ steps) ++ 41 ∷ [] ≡ out ++ 32 ∷ 40 ∷ (number ++ (steps ++ 41 ∷ []))
    regroup out number steps = simp append_assoc

pub log_text : (lines : List Line) → ((codes "(log" ++ spaced (each_item line_item lines)) ++ 41 ∷ 10 ∷ []) ≡ item_text (log_item lines) ++ 10 ∷ []
unfolding atom_text
log_text lines =
    let all = spaced (each_item line_item lines) in
    regroup all ∙ ap (λ (rest : List ℕ). 40 ∷ ((codes "log" ++ rest) ++ 10 ∷ [])) (sym (others_spaced (each_item line_item lines)))
    ∙ ap (λ (word : List ℕ). 40 ∷ ((word ++ others_text (each_item line_item lines)) ++ 10 ∷ [])) (sym log_word_text)
  where
    regroup : (all : List ℕ) → (codes "(log" ++ all) ++ 41 ∷ 10 ∷ [] ≡ 40 ∷ ((codes "log" ++ (all ++ 41 ∷ [])) ++ 10 ∷ [])
    regroup all = simp append_assoc

pub reads_again : (lines : List Line) (text : List ℕ) → All LineIsSmall lines → text ≡ item_text (log_item lines) ++ 10 ∷ [] → (total : ℕ) (rest : List ℕ) → ReadsLog lines (command_at total (text ++ rest))
reads_again lines text small is total rest =
    let again = read_again (log_item lines) total text rest (log_fits lines small) is in
    let P : Result (Option (Item × ℕ)) TextFault → Type 0 = ReadsLog lines in
    subst P (sym again.2) (sym (log_alike (log_item lines) again.0 again.1) ∙ log_again lines small)
