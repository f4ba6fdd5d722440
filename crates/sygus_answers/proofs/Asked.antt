-- What a file asks: there are few questions, and their functions have names.
use Rattle.std.proofs.Common.{◌≡◌, ◌≤◌, subst, List, length}
use Rattle.std.specs.Prelude.{ℕ, All, Result, Ok, Err, IfOk}
use Rattle.sy_scope_causes.specs.declared.cause.Refused.{Refused}
use Rattle.sy_scope_names.specs.Contexts.{Context}
use Rattle.sy_scope_steps.specs.Files.{file_read}
use Rattle.sy_scope_names.specs.Jobs.{Wish, wish_of, wished}
use Rattle.sy_reply.specs.Writable.{IsTitled}
use Rattle.sy_scope.specs.Titled.{AreNamed}
use Rattle.sy_scope.proofs.FilesNamed.{files_named}

-- the context that a file leads to, where it asks for this
record LeadsTo (read : Result Context Refused) (wish : Wish) : Type 0 where
  context : Context
  named : AreNamed context
  same : wish_of context ≡ wish

leads_to : (read : Result Context Refused) (wish : Wish) → IfOk read AreNamed → wished read ≡ Ok wish → LeadsTo read wish
leads_to (Ok context) wish named e = record { context = context; named = named; same = cc }
leads_to (Err refused) wish named e = absurd cc

file_leads_to : (file : List ℕ) (wish : Wish) → wished (file_read file) ≡ Ok wish → LeadsTo (file_read file) wish
file_leads_to file wish e = leads_to (file_read file) wish (files_named file) e

pub questions_titled : (file : List ℕ) (wish : Wish) → wished (file_read file) ≡ Ok wish → All (IsTitled wish.titles) wish.questions
questions_titled file wish e =
    let to = file_leads_to file wish e in
    subst (λ (w : Wish). All (IsTitled w.titles) w.questions) to.same to.named.each

-- there are few questions
pub few_questions : (file : List ℕ) (wish : Wish) → wished (file_read file) ≡ Ok wish → length wish.questions ≤ 16
few_questions file wish e =
    let to = file_leads_to file wish e in
    subst (λ (w : Wish). length w.questions ≤ 16) to.same to.named.few
