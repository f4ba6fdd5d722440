-- A file is read command by command.
use Rattle.std.proofs.Common.{◌≡◌, ℕ, suc, ◌+◌, ◌-◌, ◌≤◌, true, false, List, ◌++◌, length, drop, Option, Some, Result, Ok, ap, ◌∙◌, arith, length-append}
use Rattle.std.proofs.Math.Seq.{drop-append_seam}
use Rattle.sy_text_items.specs.Items.{Item}
use Rattle.sy_text.specs.Grammar.{is_layout}
use Rattle.sy_text.specs.Reading.{command_at}
use Rattle.sy_text.specs.Spelling.{parted}
use Rattle.sy_scope_causes.specs.declared.cause.Refused.{Refused}
use Rattle.sy_forms_items.specs.Readings.{Reading}
use Rattle.sy_scope_names.specs.Contexts.{Context}
use Rattle.sy_scope_steps.specs.Files.{FileOutcome, file_from, read_as, command_read, then_next, after_command}
use Rattle.sy_scope_steps.specs.Steps.{step}
use Rattle.sygus_drills.proofs.Laid.{Laid, item_in, text_in, lists, Stands, placed, command_laid}

-- what is left of a file
pub drop_front : {A : Type 0} (file front rest : List A) → file ≡ front ++ rest → drop (length file - length rest) file ≡ rest
drop_front file front rest e =
    let n : length file - length rest ≡ length front = omega (arith, ap length e, length-append front rest) in
    rw (n, e) (drop-append_seam front rest)

-- a command that is read and steps
pub one_read : (x : Laid) (most command : ℕ) (file front rest gap after : List ℕ) (context later : Context) → file ≡ front ++ rest → rest ≡ gap ++ (text_in x ++ after)
    → is_layout false gap ≡ true → Stands x → lists x ≤ 1200 → parted after ≡ true → ((y : Item) → step context (placed (item_in x) y) ≡ Ok later)
    → file_from (suc most) command file (length file - length rest) context ≡ file_from most (command + 1) file (length file - length after) later
unfolding file_from
one_read x most command file front rest gap after context later e parts g h few p steps =
    let here : drop (length file - length rest) file ≡ rest = drop_front file front rest e in
    let found = command_laid x (length file) gap after rest g h few p parts in
    let read : command_read file command (length file - length rest) ≡ Ok (Some (found.item, length file - length after))
    = ap (λ (bytes : List ℕ). read_as command (command_at (length file) bytes)) here ∙ ap (read_as command) found.reads in
    let stepped : step context found.item ≡ Ok later = ap (step context) found.same ∙ steps found.item in
    let others : ℕ → Context → FileOutcome = λ at c. file_from most (command + 1) file at c in
    ap (λ (r : Result (Option (Item × ℕ)) Refused). after_command command context r others) read
    ∙ ap (λ (r : Reading Context). then_next command r (others (length file - length after))) stepped
