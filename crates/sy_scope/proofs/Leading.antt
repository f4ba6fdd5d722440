-- How the commands of a file lead to its outcome.
use Rattle.std.proofs.Common.{ℕ, zero, suc, ◌+◌, ◌<◌, ◌≤◌, ◌≡◌, refl, sym, ap, subst, ◌∙◌, List, length, Option, Some, None, Result, Ok, Err, arith}
use Rattle.std.specs.Prelude.{OnOk}
use Rattle.sy_text_items.specs.Items.{Item}
use Rattle.sy_scope_causes.specs.declared.cause.Refused.{Refused}
use Rattle.sy_forms_items.specs.declared.fault.Fault.{Fault}
use Rattle.sy_scope_names.specs.Contexts.{Context, beginning}
use Rattle.sy_scope_steps.specs.Steps.{step}
use Rattle.sy_scope_steps.specs.Files.{FileOutcome, command_read, after_command, then_next, refused_at, file_from, file_read}
use Rattle.sy_forms_items.specs.Readings.{Reading, ReadingFails, ReadingGives}
use Rattle.sy_forms_items.specs.declared.fault.ReadEnd.{ReadEnd}
use Rattle.sy_forms_items.specs.declared.fault.ReadEnd.TheVariants as read_ends
use Rattle.sy_scope_ends.specs.declared.ScopeEnd.{ScopeEnd}
use Rattle.sy_scope_ends.specs.declared.ScopeEnd.TheVariants as ends
use Rattle.sy_scope_ends.specs.Ends.{ended_as, numbered_as}
use Rattle.sy_scope.specs.Read.{LeadsToOutcome, EndsAs}

-- what follows after an offset
abbrev onward : ℕ → ℕ → List ℕ → ℕ → Context → FileOutcome
onward turns command file after later = file_from turns (command + 1) file after later

unfolded : (turns command : ℕ) (file : List ℕ) (at : ℕ) (context : Context) →
    file_from (suc turns) command file at context ≡ after_command command context (command_read file command at) (onward turns command file)
unfolding file_from
unfolded turns command file at context = refl

module _ (file : List ℕ) (at command : ℕ) (context : Context) (outcome : FileOutcome) where
  -- in the next turn
  in_turn : (turns : ℕ) → file_from (suc turns) command file at context ≡ outcome → (found : Result (Option (Item × ℕ)) Refused) → command_read file command at ≡ found →
      after_command command context found (onward turns command file) ≡ outcome
  in_turn turns same found read =
      sym (unfolded turns command file at context ∙ ap (λ r. after_command command context r (onward turns command file)) read) ∙ same

  on_by : (turns : ℕ) → length file < at + turns → command ≤ at + 1 → file_from turns command file at context ≡ outcome →
      (later : Context) (x : Item × ℕ) → command_read file command at ≡ Ok (Some x) → at < x.1 → x.1 ≤ length file → step context x.0 ≡ Ok later →
      LeadsToOutcome file x.1 (command + 1) later outcome
  on_by zero enough counted same later x read forward inside stepped = absurd (omega arith)
  on_by (suc turns) enough counted same later x read forward inside stepped = record {
    turns = turns;
    enough = omega arith;
    within = inside;
    counted = omega arith;
    same = sym (ap (λ s. then_next command s (onward turns command file x.1)) stepped) ∙ in_turn turns same (Ok (Some x)) read;
  }

  -- a command that steps
  pub leads_on : LeadsToOutcome file at command context outcome → (later : Context) (x : Item × ℕ) → command_read file command at ≡ Ok (Some x) →
      at < x.1 → x.1 ≤ length file → step context x.0 ≡ Ok later → LeadsToOutcome file x.1 (command + 1) later outcome
  leads_on l later x read forward inside stepped = on_by l.turns l.enough l.counted l.same later x read forward inside stepped

  end_by : (turns : ℕ) → length file < at + turns → at ≤ length file → file_from turns command file at context ≡ outcome → command_read file command at ≡ Ok None → outcome ≡ Ok context
  end_by zero enough within same read = absurd (omega arith)
  end_by (suc turns) enough within same read = sym (in_turn turns same (Ok None) read)

  -- no more commands
  pub leads_to_end : LeadsToOutcome file at command context outcome → command_read file command at ≡ Ok None → outcome ≡ Ok context
  leads_to_end l read = end_by l.turns l.enough l.within l.same read

  unread_by : (turns : ℕ) → length file < at + turns → at ≤ length file → file_from turns command file at context ≡ outcome →
      (refused : Refused) → command_read file command at ≡ Err refused → outcome ≡ Err refused
  unread_by zero enough within same refused read = absurd (omega arith)
  unread_by (suc turns) enough within same refused read = sym (in_turn turns same (Err refused) read)

  -- a command that isn't read
  pub leads_to_unread : LeadsToOutcome file at command context outcome → (refused : Refused) → command_read file command at ≡ Err refused → outcome ≡ Err refused
  leads_to_unread l refused read = unread_by l.turns l.enough l.within l.same refused read

  fault_by : (turns : ℕ) → length file < at + turns → at ≤ length file → file_from turns command file at context ≡ outcome →
      (fault : Fault) (x : Item × ℕ) → command_read file command at ≡ Ok (Some x) → step context x.0 ≡ Err fault → outcome ≡ Err (refused_at command fault)
  fault_by zero enough within same fault x read stepped = absurd (omega arith)
  fault_by (suc turns) enough within same fault x read stepped =
      sym (sym (ap (λ s. then_next command s (onward turns command file x.1)) stepped) ∙ in_turn turns same (Ok (Some x)) read)

  -- a command that is refused
  pub leads_to_fault : LeadsToOutcome file at command context outcome → (fault : Fault) (x : Item × ℕ) → command_read file command at ≡ Ok (Some x) →
      step context x.0 ≡ Err fault → outcome ≡ Err (refused_at command fault)
  leads_to_fault l fault x read stepped = fault_by l.turns l.enough l.within l.same fault x read stepped

-- the file from its beginning
pub leads_from_beginning : (file : List ℕ) → LeadsToOutcome file 0 1 beginning (file_read file)
leads_from_beginning file = record {
  turns = length file + 1;
  enough = omega arith;
  within = omega arith;
  counted = omega arith;
  same = refl;
}

module _ (file : List ℕ) (at command : ℕ) (context : Context) (outcome : FileOutcome) where
  -- the reader ends where a command isn't read
  pub ends_unread : LeadsToOutcome file at command context outcome → (end : ScopeEnd) → EndsAs end (command_read file command at) → EndsAs end outcome
  ends_unread l ends.Want f = tt
  ends_unread l (ends.Refused refused) f = leads_to_unread file at command context outcome l refused f

  -- the reader ends where a command is refused
  pub ends_fault : LeadsToOutcome file at command context outcome → (x : Item × ℕ) → command_read file command at ≡ Ok (Some x) → (end : ReadEnd) →
      ReadingFails end (step context x.0) → EndsAs (ended_as command end) outcome
  ends_fault l x read read_ends.Want f = tt
  ends_fault l x read (read_ends.Refused place cause) f = leads_to_fault file at command context outcome l (record { place = place; cause = cause }) x read f

  -- so where its step was given its number
  pub ends_numbered : {X : Type 0} → LeadsToOutcome file at command context outcome → (x : Item × ℕ) → command_read file command at ≡ Ok (Some x) →
      (later : Context) (stepped : Result X ReadEnd) (end : ScopeEnd) → Err end ≡ numbered_as command stepped → ReadingGives (λ _. later) stepped (step context x.0) → EndsAs end outcome
  ends_numbered l x read later (Ok y) end is gives = absurd cc
  ends_numbered l x read later (Err e) end is gives =
      let same : ended_as command e ≡ end = cc in
      subst (λ (reason : ScopeEnd). EndsAs reason outcome) same (ends_fault l x read e gives)

module _ {X : Type 0} (command : ℕ) where
  -- a command that goes on has stepped
  pub stepped_on : (stepped : Result X ReadEnd) (x : X) (later : Context) (read : Reading Context) →
      Ok x ≡ numbered_as command stepped → ReadingGives (λ _. later) stepped read → read ≡ Ok later
  stepped_on (Ok y) x later read is gives = gives
  stepped_on (Err end) x later read is gives = absurd cc

  -- and what its step promised holds
  pub stepped_holds : (P : Type 0) (stepped : Result X ReadEnd) (x : X) → Ok x ≡ numbered_as command stepped → OnOk stepped P → P
  stepped_holds P (Ok y) x is holds = holds
  stepped_holds P (Err end) x is holds = absurd cc
