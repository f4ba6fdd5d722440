-- Banks that are carried from one round to the next.
use Rattle.std.proofs.Common.{◌≡◌, ◌+◌, ◌++◌, ⊎_elim, refl, ap, sym, subst, ◌∙◌, ℕ, zero, suc, Bool, List, [], ◌∷◌, length, drop, arith, slice_get, Some, None}
use Rattle.std.specs.Prelude.{Option, IfSome, MatchOption}
use Rattle.std.specs.Option.{option_to_list}
use Rattle.sy_terms.specs.Values.{Val}
use Rattle.sy_terms.specs.Denoted.{vals_of}
use Rattle.sy_terms.specs.Definitions.{bodies, scope_of}
use Rattle.sy_terms.specs.Meaning.{functions}
use Rattle.sy_terms.specs.declared.op.Op.{Op}
use Rattle.sy_grammar_base.specs.Grown.{syntax_from}
use Rattle.sy_grammar_base.specs.declared.problem.Problem.{Problem}
use Rattle.sy_grammar_base.specs.declared.problem.Wanted.{Wanted}
use Rattle.sy_query_limits.specs.declared.Limits.{Limits}
use Rattle.sy_bank.specs.Answers.{BankIsBuilt}
use Rattle.sy_bank_level.specs.Bank.{merged_of}
use Rattle.sy_bank.specs.Promised.{IsBank}
use Rattle.sy_bank_level.specs.declared.bank.Bank.{Bank}
use Rattle.sy_bank.specs.declared.bank.BankEnd.{BankEnd}
use Rattle.sy_bank.specs.declared.bank.BankEnd.TheVariants as ends
use Rattle.sy_loop_banks.specs.declared.banks.Banks.{Banks}
use Rattle.sy_loop_banks.specs.Banks.{IsFullBank, IsCarried, AreCarried, OnBanks}
use Rattle.sy_bank_level.proofs.KeptLaws.{at-end}

-- the first of what is left
drop_first : {X : Type 0} (xs : List X) (k : ℕ) (x : X) (rest : List X) → drop k xs ≡ x ∷ rest → (slice_get xs k ≡ Some x) × (drop (suc k) xs ≡ rest)
drop_first [] zero x rest e = absurd (cc)
drop_first [] (suc k) x rest e = absurd (cc)
drop_first (y ∷ ys) zero x rest e = (cc, cc)
drop_first (y ∷ ys) (suc k) x rest e = drop_first ys k x rest e

drop_none : {X : Type 0} (xs : List X) (k : ℕ) → drop k xs ≡ [] → drop (suc k) xs ≡ []
drop_none [] zero e = refl
drop_none [] (suc k) e = refl
drop_none (y ∷ ys) zero e = absurd (cc)
drop_none (y ∷ ys) (suc k) e = drop_none ys k e

nothing : {X : Type 0} (xs : List X) → length xs ≡ 0 → xs ≡ []
nothing [] none = refl
nothing (x ∷ xs) none = absurd (omega (arith, none))

-- one item is taken from what is left of a list
-- the item at the place is taken, and so many are left
pub record IsTaken {X : Type 0} (all : List X) (place : ℕ) (found : Option X) (after : List X) (n : ℕ) : Type 0 where
  pub item : IfSome found (λ x. slice_get all place ≡ Some x)
  pub rest : after ≡ drop (place + 1) all
  pub count : n ≡ length after

pub take_next : {X : Type 0} (all before after : List X) (place m n : ℕ) (found : Option X) → before ≡ drop place all → m ≡ length before → before ≡ option_to_list found ++ after → MatchOption found ((m ≡ 0) × (n ≡ 0)) (λ x. (before ≡ x ∷ after) × (n + 1 ≡ m)) →
    IsTaken all place found after n
take_next {X} all before after place m n None left count split cases =
    let none : before ≡ [] = nothing before (omega (arith, count, cases.0)) in
    let after_none : after ≡ [] = sym split ∙ none in
    let next : drop (place + 1) all ≡ drop (suc place) all = let on : place + 1 ≡ suc place = omega arith in ap (λ k. drop k all) on in
    record { item = tt; rest = after_none ∙ sym (next ∙ drop_none all place (sym left ∙ none)); count = omega (arith, cases.1, ap length after_none) }
take_next {X} all before after place m n (Some x) left count split cases =
    let first = drop_first all place x after (sym left ∙ cases.0) in
    let next : drop (place + 1) all ≡ drop (suc place) all = let on : place + 1 ≡ suc place = omega arith in ap (λ k. drop k all) on in
    record { item = first.0; rest = sym (next ∙ first.1); count = omega (arith, cases.1, count, ap length cases.0) }

-- the bank that is taken may go on as that of its function
pub taken_carried : {T N : Type 0} (owned : Op → Bool) (number : N → Val) (problem : Problem T N) (limits : Limits) (level function : ℕ) (wanted : Wanted T N) (banks rest : List (Bank T N)) (found : Option (Bank T N)) (n : ℕ) → AreCarried owned number problem limits level banks →
    slice_get problem.wanted function ≡ Some wanted → IsTaken banks function found rest n → IfSome found (IsCarried owned number problem wanted limits level)
taken_carried owned number problem limits level function wanted banks rest None n carried at next = tt
taken_carried owned number problem limits level function wanted banks rest (Some bank) n carried at next = carried function wanted bank at next.item

pub none_carried : {T N : Type 0} (owned : Op → Bool) (number : N → Val) (problem : Problem T N) (limits : Limits) (level : ℕ) → AreCarried owned number problem limits level []
none_carried owned number problem limits level function wanted bank at here = absurd (cc)

-- a bank as it was built or grown may be carried
pub bank_carried : {T N : Type 0} (owned : Op → Bool) (number : N → Val) (problem : Problem T N) (limits : Limits) (level : ℕ) (wanted : Wanted T N) (points : List (List Val)) (bank : Bank T N) →
    BankIsBuilt number (scope_of owned problem.defs) (syntax_from number wanted.grammar) (functions (bodies number problem.defs)) (vals_of number problem.pool) bank →
    IsBank (syntax_from number wanted.grammar) (functions (bodies number problem.defs)) (vals_of number problem.pool) points level limits.bank (merged_of number bank) → IsCarried owned number problem wanted limits level bank
bank_carried owned number problem limits level wanted points bank built is = record { built = built; small = omega (arith, is.up); few = is.within }

pub one_carried_more : {T N : Type 0} (owned : Op → Bool) (number : N → Val) (problem : Problem T N) (limits : Limits) (level function : ℕ) (wanted : Wanted T N) (banks : List (Bank T N)) (bank : Bank T N) → AreCarried owned number problem limits level banks → length banks ≡ function →
    slice_get problem.wanted function ≡ Some wanted → IsCarried owned number problem wanted limits level bank → AreCarried owned number problem limits level (banks ++ bank ∷ [])
one_carried_more {T} {N} owned number problem limits level function wanted banks bank carried all at last place w b at' here = ⊎_elim
    (λ (old : slice_get banks place ≡ Some b). carried place w b at' old)
    (λ (new : (place ≡ length banks) × (b ≡ bank)).
    let found : Some wanted ≡ Some w = sym at ∙ ap (slice_get problem.wanted) (sym (new.0 ∙ all)) ∙ at' in
    let same : wanted ≡ w = cc in
    subst (λ (v : Wanted T N). IsCarried owned number problem v limits level b) same (subst (IsCarried owned number problem wanted limits level) (sym new.1) last))
    (at-end banks place bank b here)

-- with a larger size
pub carried_on : {T N : Type 0} (owned : Op → Bool) (number : N → Val) (problem : Problem T N) (limits : Limits) (level : ℕ) (banks : List (Bank T N)) → AreCarried owned number problem limits level banks → AreCarried owned number problem limits (level + 1) banks
carried_on owned number problem limits level banks carried function wanted bank at here =
    let is = carried function wanted bank at here in
    record { built = is.built; small = omega (arith, is.small); few = is.few }

-- a full bank ends the search, and none is carried
pub full_carries : {T N : Type 0} (fact : List (Bank T N) → Type 0) (function : ℕ) (end : BankEnd T N) (banks : Banks T N) → IsFullBank function end banks → OnBanks fact banks
full_carries fact function ends.Want banks made = absurd made
full_carries fact function (ends.Full found nonterminal next) banks made = subst (OnBanks fact) (sym made) tt
