-- What is handed on where no bank of all sizes is built.
use Rattle.std.proofs.Common.{◌≡◌, ℕ, ◌∙◌, List, sym, subst, Option, Some, None, Result, Ok, Err, true}
use Rattle.std.specs.Prelude.{IfSome, is_some, IsErrAnd}
use Rattle.std.specs.Option.{option_map}
use Rattle.sy_terms.specs.Values.{Val}
use Rattle.sy_terms.specs.Meaning.{Function}
use Rattle.sy_grammar_base.specs.Trees.{Syntax}
use Rattle.sy_bank_level.specs.Banks.{Entry, Lost, Merged, IsDropped}
use Rattle.sy_bank.specs.Answers.{OnBank, IfFull}
use Rattle.sy_bank_level.specs.Bank.{merged_of}
use Rattle.sy_bank.specs.Promised.{IsBank, BankIsFull, IsNextBank, Stays}
use Rattle.sy_bank_level.specs.declared.bank.Bank.{Bank}
use Rattle.sy_bank.specs.declared.bank.BankEnd.{BankEnd}
use Rattle.sy_bank.specs.declared.bank.BankEnd.TheVariants.{Full, Want}

pub end-bank : {T N : Type 0} (number : N → Val) (syntax : Syntax) (defined : List Function) (pool : List Val) (points : List (List Val)) (upto cap : ℕ) (before : Merged) (end : BankEnd T N) →
    before.points ≡ points → before.upto ≡ upto → OnBank number (Err end) (IsNextBank syntax defined pool cap before) → IfFull number (Err end) (BankIsFull syntax defined pool cap) →
    OnBank number (Err end) (IsBank syntax defined pool points upto cap)
end-bank number syntax defined pool points upto cap before (Full bank nonterminal kept) over up next full = record {
  over = next.over ∙ over;
  up = next.up ∙ up;
  honest = next.honest;
  within = next.within;
  lost = subst (λ (d : Option Lost). IfSome d (IsDropped syntax defined pool (merged_of number bank).points (merged_of number bank).upto)) (sym full.none_lost) tt;
}
end-bank number syntax defined pool points upto cap before Want over up next full = tt

pub end-stays : {T N : Type 0} (number : N → Val) (syntax : Syntax) (defined : List Function) (pool : List Val) (cap : ℕ) (first before : Merged) (end : BankEnd T N) →
    Stays first before → OnBank number (Err end) (IsNextBank syntax defined pool cap before) → OnBank number (Err end) (Stays first)
end-stays number syntax defined pool cap first before (Full bank nonterminal kept) stays next = λ n size place e at. next.stays n size place e (stays n size place e at)
end-stays number syntax defined pool cap first before Want stays next = tt

-- what holds of the error that is handed on
pub handed-on : {T N : Type 0} (number : N → Val) (fact : Merged → Type 0) (answer : Result (Bank T N) (BankEnd T N)) (end : BankEnd T N) → IsErrAnd answer (λ e. e ≡ end) → OnBank number (Err end) fact → OnBank number answer fact
handed-on number fact (Ok bank) end told holds = absurd told
handed-on {T} {N} number fact (Err e) end told holds = subst (λ (x : BankEnd T N). OnBank number (Err x) fact) (sym told) holds

pub handed-on-full : {T N : Type 0} (number : N → Val) (fact : Merged → ℕ → Entry → Type 0) (answer : Result (Bank T N) (BankEnd T N)) (end : BankEnd T N) → IsErrAnd answer (λ e. e ≡ end) → IfFull number (Err end) fact → IfFull number answer fact
handed-on-full number fact (Ok bank) end told holds = absurd told
handed-on-full {T} {N} number fact (Err e) end told holds = subst (λ (x : BankEnd T N). IfFull number (Err x) fact) (sym told) holds

-- a term that is there was dropped
pub some-dropped : {X Y : Type 0} (f : X → Y) (dropped : Option X) → is_some dropped ≡ true → option_map f dropped ≡ None → ⊥
some-dropped f None is none = cc
some-dropped f (Some x) is none = cc
