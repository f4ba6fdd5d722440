-- How the replies read so far lead to all statements.
use Rattle.std.proofs.Common.{ℕ, suc, ◌+◌, ◌<◌, ◌≤◌, ◌≡◌, refl, sym, ap, ◌∙◌, List, [], ◌∷◌, ◌++◌, length, map, drop, get_or, Bool, arith, add-one, append_assoc}
use Rattle.std.specs.Prelude.{Option, Result, Ok, Err}
use Rattle.std.proofs.Math.Seq.{drop-cons}
use Rattle.std.proofs.lemmas.List.{drop_all, map_push, append-nil}
use Rattle.sy_text_items.specs.Items.{Item}
use Rattle.sy_terms.specs.Expr.{Expr}
use Rattle.sy_terms.specs.declared.sort.Logic.{Logic}
use Rattle.sy_grammar_base.specs.Questions.{Question}
use Rattle.sy_scope_causes.specs.declared.titles.Titles.{Titles}
use Rattle.sy_reply.specs.Ends.{ReplyReading, RepliesEndAs, ReadsReplies, ◌>>=◌}
use Rattle.sy_reply.specs.Statements.{Statement}
use Rattle.sy_reply.specs.declared.refused.ReplyCause.TheVariants as reply
use Rattle.sy_reply.specs.declared.end.ReplyEnd.{ReplyEnd}
use Rattle.sy_reply.specs.declared.end.ReplyEnd.TheVariants as ends
use Rattle.sy_reply_reader.specs.Replies.{item_read, stated_by, statement_read, statements_from, next_item, nothing_left, behind}
use Rattle.sy_reply_reader.proofs.Readings.{ends_bind, ends_same, ends_next, gives_next}
use Rattle.sy_reply_reader.specs.Definitions.{definitions_read}

module _ (proofs : Bool) (logic : Logic) (titles : Titles) (file : List ℕ) (check : ℕ) (question : Question) (at : ℕ) where
  -- the item of a statement isn't read
  pub statement_unread : (end : ReplyEnd) → RepliesEndAs end (item_read check reply.Count file at) → RepliesEndAs end (statement_read proofs logic titles file check question at)
  unfolding statement_read
  statement_unread end f = ends_bind end (item_read check reply.Count file at) _ f

  -- its definitions aren't
  pub statement_ends : (x : Item × ℕ) (end : ReplyEnd) → item_read check reply.Count file at ≡ Ok x → RepliesEndAs end (definitions_read check logic titles question x.0) → RepliesEndAs end (statement_read proofs logic titles file check question at)
  unfolding statement_read
  statement_ends x end is f =
      ends_next end (item_read check reply.Count file at) x _ is (ends_bind end (definitions_read check logic titles question x.0) (stated_by proofs check logic file x.1) f)

  -- what they state
  pub statement_gives : {X : Type 0} (view : X → Statement × ℕ) (result : Result X ReplyEnd) (x : Item × ℕ) (found : Option (List Expr)) → item_read check reply.Count file at ≡ Ok x → definitions_read check logic titles question x.0 ≡ Ok found
      → ReadsReplies view result (stated_by proofs check logic file x.1 found) → ReadsReplies view result (statement_read proofs logic titles file check question at)
  unfolding statement_read
  statement_gives view result x found is e f =
      gives_next view result (item_read check reply.Count file at) x _ is (gives_next view result (definitions_read check logic titles question x.0) found (stated_by proofs check logic file x.1) e f)

-- what is left from an element on
left_first : {A : Type 0} (xs : List A) (i : ℕ) (x : A) → i < length xs → x ≡ get_or xs i x → drop i xs ≡ x ∷ drop (i + 1) xs
left_first xs i x within is =
    drop-cons xs i x within ∙ ap (λ y. y ∷ drop (suc i) xs) (sym is) ∙ ap (λ n. x ∷ drop n xs) (sym (add-one i))

-- what is read behind statements
unfoldable pub after : List Statement → ReplyReading (List Statement) → ReplyReading (List Statement)
after done (Ok rest) = Ok (done ++ rest)
after done (Err refused) = Err refused

pub after_none : (read : ReplyReading (List Statement)) → after [] read ≡ read
unfolding after
after_none (Ok rest) = refl
after_none (Err refused) = refl

-- one statement more
pub after_more : (done : List Statement) (statement : Statement) (read : ReplyReading (List Statement)) → after done (read >>= behind statement) ≡ after (done ++ statement ∷ []) read
unfolding after
after_more done statement (Ok rest) = ap Ok (sym (append_assoc done (statement ∷ []) rest))
after_more done statement (Err refused) = refl

module _ (proofs : Bool) (logic : Logic) (titles : Titles) (file : List ℕ) where
  -- the replies from an offset on, behind the statements so far, give what all give
  pub record Leads (outcome : ReplyReading (List Statement)) (done : List Statement) (check : ℕ) (questions : List Question) (at : ℕ) : Type 0 where
    pub within : at ≤ length file
    pub same : after done (statements_from proofs logic titles file check questions at) ≡ outcome

  unfolded : (check : ℕ) (question : Question) (questions : List Question) (at : ℕ) →
      statements_from proofs logic titles file check (question ∷ questions) at
      ≡ (statement_read proofs logic titles file check question at >>= λ x. statements_from proofs logic titles file (check + 1) questions x.1 >>= behind x.0)
  unfolding statements_from
  unfolded check question questions at = refl

  ended : (check at : ℕ) → statements_from proofs logic titles file check [] at ≡ (next_item check file at >>= nothing_left check)
  unfolding statements_from
  ended check at = refl

  pub leads_from : (questions : List Question) (at : ℕ) → at ≤ length file → Leads (statements_from proofs logic titles file 1 questions at) [] 1 questions at
  leads_from questions at within = record { within = within; same = after_none (statements_from proofs logic titles file 1 questions at) }

  -- a statement that is read
  pub leads_on : (outcome : ReplyReading (List Statement)) (done : List Statement) (check : ℕ) (question : Question) (questions : List Question) (at : ℕ) (x : Statement × ℕ) →
      Leads outcome done check (question ∷ questions) at → statement_read proofs logic titles file check question at ≡ Ok x → x.1 ≤ length file →
      Leads outcome (done ++ x.0 ∷ []) (check + 1) questions x.1
  leads_on outcome done check question questions at x l is within = record {
    within = within;
    same = sym (after_more done x.0 (statements_from proofs logic titles file (check + 1) questions x.1))
        ∙ sym (ap (after done) (unfolded check question questions at ∙ ap (λ read. read >>= λ (y : Statement × ℕ). statements_from proofs logic titles file (check + 1) questions y.1 >>= behind y.0) is))
        ∙ l.same;
  }

  after_end : (end : ReplyEnd) (done : List Statement) (read : ReplyReading (List Statement)) → RepliesEndAs end read → RepliesEndAs end (after done read)
  unfolding after
  after_end ends.Want done read f = tt
  after_end (ends.Refused refused) done read f = ap (after done) f

  -- a statement that isn't
  pub ends_reading : (outcome : ReplyReading (List Statement)) (done : List Statement) (check : ℕ) (question : Question) (questions : List Question) (at : ℕ) (end : ReplyEnd) →
      Leads outcome done check (question ∷ questions) at → RepliesEndAs end (statement_read proofs logic titles file check question at) → RepliesEndAs end outcome
  ends_reading outcome done check question questions at end l f =
      ends_same end outcome _ (sym l.same)
      (after_end end done _ (ends_same end _ _ (unfolded check question questions at) (ends_bind end _ _ f)))

  -- what follows the last reply
  pub ends_last : (outcome : ReplyReading (List Statement)) (done : List Statement) (check at : ℕ) (end : ReplyEnd) →
      Leads outcome done check [] at → RepliesEndAs end (next_item check file at >>= nothing_left check) → RepliesEndAs end outcome
  ends_last outcome done check at end l f =
      ends_same end outcome _ (sym l.same) (after_end end done _ (ends_same end _ _ (ended check at) f))

  -- nothing follows
  pub leads_to_end : (outcome : ReplyReading (List Statement)) (done : List Statement) (check at : ℕ) → Leads outcome done check [] at → (next_item check file at >>= nothing_left check) ≡ Ok [] → outcome ≡ Ok done
  unfolding after
  leads_to_end outcome done check at l e =
      sym l.same ∙ ap (after done) (ended check at ∙ e) ∙ ap Ok (append-nil done)

-- so of terms: problems from a number on are left, of which one is taken
module _ {P S : Type 0} (ask : P → Question) (say : S → Statement) (proofs : Bool) (logic : Logic) (titles : Titles) (file : List ℕ) where
  -- before the first problem
  pub leads_all : (problems items : List P) (done : List S) (at : ℕ) → done ≡ [] → items ≡ problems → at ≤ length file →
      Leads proofs logic titles file (statements_from proofs logic titles file 1 (map ask problems) at) (map say done) 1 (map ask (drop 0 items)) at
  leads_all problems items done at none same within = rw (none, same) (leads_from proofs logic titles file (map ask problems) at within)

  pub leads_step : (outcome : ReplyReading (List Statement)) (done now : List S) (check : ℕ) (items : List P) (i : ℕ) (problem : P) (at : ℕ) (x : S × ℕ) → i < length items → problem ≡ get_or items i problem →
      Leads proofs logic titles file outcome (map say done) check (map ask (drop i items)) at → statement_read proofs logic titles file check (ask problem) at ≡ Ok (say x.0, x.1) → x.1 ≤ length file → now ≡ done ++ x.0 ∷ [] →
      Leads proofs logic titles file outcome (map say now) (check + 1) (map ask (drop (i + 1) items)) x.1
  leads_step outcome done now check items i problem at x below is l read within more =
      rw (more, map_push say done x.0)
      (leads_on proofs logic titles file outcome (map say done) check (ask problem) (map ask (drop (i + 1) items)) at (say x.0, x.1)
      (rw (left_first items i problem below is) at l) read within)

  pub ends_step : (outcome : ReplyReading (List Statement)) (done : List S) (check : ℕ) (items : List P) (i : ℕ) (problem : P) (at : ℕ) (end : ReplyEnd) → i < length items → problem ≡ get_or items i problem →
      Leads proofs logic titles file outcome (map say done) check (map ask (drop i items)) at → RepliesEndAs end (statement_read proofs logic titles file check (ask problem) at) → RepliesEndAs end outcome
  ends_step outcome done check items i problem at end below is l f =
      ends_reading proofs logic titles file outcome (map say done) check (ask problem) (map ask (drop (i + 1) items)) at end (rw (left_first items i problem below is) at l) f

  -- behind the last one
  pub ends_all : (outcome : ReplyReading (List Statement)) (done : List S) (check : ℕ) (items : List P) (i : ℕ) (at : ℕ) (end : ReplyEnd) → length items ≤ i →
      Leads proofs logic titles file outcome (map say done) check (map ask (drop i items)) at → RepliesEndAs end (next_item check file at >>= nothing_left check) → RepliesEndAs end outcome
  ends_all outcome done check items i at end past l f =
      ends_last proofs logic titles file outcome (map say done) check at end (rw (drop_all i items past) at l) f

  pub leads_to_all : (outcome : ReplyReading (List Statement)) (done : List S) (check : ℕ) (items : List P) (i : ℕ) (at : ℕ) → length items ≤ i →
      Leads proofs logic titles file outcome (map say done) check (map ask (drop i items)) at → (next_item check file at >>= nothing_left check) ≡ Ok [] → outcome ≡ Ok (map say done)
  leads_to_all outcome done check items i at past l e = leads_to_end proofs logic titles file outcome (map say done) check at (rw (drop_all i items past) at l) e
