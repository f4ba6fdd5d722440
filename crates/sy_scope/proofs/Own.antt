-- A file that is read is its own front: no item that steps begins a reply part.
use Rattle.std.proofs.Common.{ℕ, zero, suc, ◌+◌, ◌≡◌, ◌∙◌, refl, ap, arith, Bool, false, List, length, take, drop, Option, Some, None, Result, Ok, Err}
use Rattle.std.specs.Prelude.{IfOk, if◌then◌else◌}
use Rattle.std.proofs.lemmas.List.{take_all}
use Rattle.sy_text_items.specs.Items.{Item, leaf, group, none, more, Items}
use Rattle.sy_text_items.specs.declared.fault.TextFault.{TextFault}
use Rattle.sy_text_items.specs.declared.atom.Place.{Place}
use Rattle.sy_text.specs.Reading.{command_at}
use Rattle.sy_forms_items.specs.Parts.{place_of, symbol}
use Rattle.sy_forms_items.specs.Readings.{Reading}
use Rattle.sy_scope.specs.Fronts.{begins_replies, read_well, front_by, front_from, front}
use Rattle.sy_scope_names.specs.Contexts.{Context, beginning}
use Rattle.sy_scope_names.specs.Changes.{PlacedRequest, asked_named}
use Rattle.sy_scope_names.proofs.Earlier.{bind_ok}
use Rattle.sy_scope_steps.specs.Files.{FileOutcome, read_as, then_next, after_command, file_from, file_read}
use Rattle.sy_scope_steps.specs.Steps.{step, perform}
use Rattle.sy_scope.specs.Own.{FilesAreFronts}

-- what is asked by a name has one
named_ok : (place at : Place) (name : Option (List ℕ)) (parts : Items) (x : PlacedRequest) → asked_named place at name parts ≡ Ok x → (n : List ℕ) × (name ≡ Some n)
named_ok place at None parts x e = absurd cc
named_ok place at (Some n) parts x e = (n, refl)

named_first : (first : Item) (parts : Items) (place : Place) → ((n : List ℕ) × (symbol first ≡ Some n)) → begins_replies (group (more first parts) place) ≡ false
named_first first parts place named = rw named.1 refl

-- a command that steps begins with a symbol
no_replies : (context later : Context) (item : Item) → step context item ≡ Ok later → begins_replies item ≡ false
unfolding step
no_replies context later (leaf atom place) e = absurd cc
no_replies context later (group none place) e = absurd cc
no_replies context later (group (more first parts) place) e =
    let asked = bind_ok (asked_named place (place_of first) (symbol first) parts) (λ x. perform context context.logic x) later e in
    named_first first parts place (named_ok place (place_of first) (symbol first) parts asked.0 asked.1)

-- after an item that steps
stepped_by : (command : ℕ) (file : List ℕ) (read : Reading Context) (context : Context) (item : Item) (at : ℕ) (next : Context → FileOutcome) (onward : ℕ) (last : Context) → step context item ≡ read → then_next command read next ≡ Ok last →
    ((later : Context) → next later ≡ Ok last → onward ≡ length file) → (if begins_replies item then at else onward) ≡ length file
stepped_by command file (Ok later) context item at next onward last is e behind = ap (λ (b : Bool). if b then at else onward) (no_replies context later item is) ∙ behind later e
stepped_by command file (Err fault) context item at next onward last is e behind = absurd cc

own_by : (most command : ℕ) (file : List ℕ) (context last : Context) (read : Result (Option (Item × ℕ)) TextFault) → after_command command context (read_as command read) (λ after later. file_from most (command + 1) file after later) ≡ Ok last →
    ((after : ℕ) (later : Context) → file_from most (command + 1) file after later ≡ Ok last → front_from most file after ≡ length file) → front_by file (read_well read) (front_from most file) ≡ length file
own_by most command file context last (Ok None) e behind = refl
own_by most command file context last (Ok (Some x)) e behind =
    stepped_by command file (step context x.0) context x.0 (place_of x.0).at (λ later. file_from most (command + 1) file x.1 later) (front_from most file x.1) last refl e (behind x.1)
own_by most command file context last (Err fault) e behind = refl

-- the items that are left
own_from : (most command : ℕ) (file : List ℕ) (at : ℕ) (context last : Context) → file_from most command file at context ≡ Ok last → front_from most file at ≡ length file
unfolding file_from front_from
own_from zero command file at context last e = refl
own_from (suc most) command file at context last e =
    own_by most command file context last (command_at (length file) (drop at file)) e (λ after later f. own_from most (command + 1) file after later last f)

own_read : (file : List ℕ) (read : FileOutcome) → file_read file ≡ read → IfOk read (λ (context : Context). front file ≡ file)
own_read file (Ok context) e = ap (λ n. take n file) (own_from (length file + 1) 1 file 0 beginning context e) ∙ take_all (length file) file (omega arith)
own_read file (Err refused) e = tt

pub files_are_fronts : FilesAreFronts
files_are_fronts file = own_read file (file_read file) refl
