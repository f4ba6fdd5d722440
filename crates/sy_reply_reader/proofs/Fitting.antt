-- Statements that are read fit their problems.
use Rattle.std.proofs.Common.{◌≡◌, refl, sym, ap, subst, ◌∙◌, ℕ, ◌+◌, Bool, true, false, List, [], ◌∷◌, map, Option, Some, None}
use Rattle.std.specs.Prelude.{⊤, Result, Ok, Err, slice_set, if◌then◌else◌}
use Rattle.std.specs.Option.{option_map}
use Rattle.sy_text_items.specs.Items.{Item, Items, none, more}
use Rattle.sy_text_items.specs.Views.{item_of}
use Rattle.sy_text_items.specs.declared.atom.Place.{Place}
use Rattle.sy_text_items.specs.declared.sexp.Sexp.{Sexp}
use Rattle.sy_terms.specs.Values.{Val}
use Rattle.sy_terms.specs.Expr.{Expr}
use Rattle.sy_terms.specs.Denoted.{expr_of}
use Rattle.sy_terms.specs.Definitions.{signature}
use Rattle.sy_terms.specs.Fitting.{Signature, same_sorts}
use Rattle.sy_terms.specs.Logics.{IsTheoryOf}
use Rattle.sy_terms.specs.Sorts.{same_sort}
use Rattle.sy_terms.specs.declared.op.Op.{Op}
use Rattle.sy_terms.specs.declared.sort.Logic.{Logic}
use Rattle.sy_terms.specs.declared.sort.Sort.{Sort}
use Rattle.sy_terms.specs.declared.term.Def.{Def}
use Rattle.sy_terms.specs.declared.term.Term.{Term}
use Rattle.sy_terms.specs.declared.theory.Theory.{Ghosts as TheoryOf}
use Rattle.sy_terms_operators.specs.Evaluation.{BodiesFit}
use Rattle.sy_terms_operators.proofs.Equations.{same_sorts_is}
use Rattle.sy_forms_items.specs.Parts.{place_of}
use Rattle.sy_forms_items.specs.Readings.{Reading}
use Rattle.sy_forms_items.specs.declared.names.Named.{Named}
use Rattle.sy_forms_items.specs.Sorts.{read_sort}
use Rattle.sy_grammar_base.specs.Questions.{Goal, Question, question_of, goal_of, wanted_signature, signatures}
use Rattle.sy_grammar_base.specs.declared.problem.Problem.{Problem}
use Rattle.sy_grammar_base.specs.declared.problem.Wanted.{Wanted}
use Rattle.sy_scope_steps.specs.Bodies.{body_read}
use Rattle.sy_scope_steps.proofs.Fitting.{body_fits}
use Rattle.sy_scope_causes.specs.declared.titles.Titles.{Titles}
use Rattle.sy_scope_names.specs.Lists.{sorts_of_names, read_named}
use Rattle.sy_scope_names.specs.Requests.{Listed, list_in}
use Rattle.sy_reply.specs.Ends.{ReplyReading, ◌>>=◌}
use Rattle.sy_reply.specs.Fitting.{IsStatedFor, AreStatedFor}
use Rattle.sy_reply.specs.Statements.{Statement, Nothing, Bodies, statement_of}
use Rattle.sy_reply.specs.declared.refused.ReplyCause.{ReplyCause}
use Rattle.sy_reply.specs.declared.refused.ReplyCause.TheVariants as reply
use Rattle.sy_reply.specs.declared.stated.Stated.{Stated}
use Rattle.sy_reply.specs.declared.stated.Stated.TheVariants as stated
use Rattle.sy_reply_reader.specs.Parts.{Part, part_of}
use Rattle.sy_reply_reader.specs.Signatures.{is_read_as, with_sorts, arguments_of}
use Rattle.sy_reply_reader.specs.Slots.{no_bodies, open_from, all_there}
use Rattle.sy_reply_reader.specs.Definitions.{there_or, as_term, part_body, part_read, parts_read, bodies_read, found_bodies, says_nothing, definitions_read}
use Rattle.sy_reply_reader.specs.Replies.{item_read, proof_read, with_proof, stated_by, statement_read, statements_from, next_item, nothing_left, behind}
use Rattle.sy_reply_reader.proofs.Readings.{bind_ok}
use Rattle.sy_reply_reader.proofs.Filled.{Fits, SlotsFit, AllFit, none_fit, all_fit, slot_filled}

there_ok : {A : Type 0} (check : ℕ) (place : Place) (cause : ReplyCause) (found : Option A) (x : A) → there_or check place cause found ≡ Ok x → found ≡ Some x
there_ok check place cause None x e = absurd (cc)
there_ok check place cause (Some y) x e = cc

term_ok : {A : Type 0} (check : ℕ) (read : Reading A) (x : A) → as_term check read ≡ Ok x → read ≡ Ok x
term_ok check (Ok y) x e = cc
term_ok check (Err fault) x e = absurd (cc)

-- the arguments of a part have the declared sorts
same_by : (b : Bool) (named found : List Named) → (if b then Some named else None) ≡ Some found → (b ≡ true) × (named ≡ found)
same_by true named found e = (refl, cc)
same_by false named found e = absurd (cc)

with_sorts_has : (sorts : List Sort) (read : Reading (List Named)) (found : List Named) → with_sorts sorts read ≡ Some found → sorts_of_names found ≡ sorts
with_sorts_has sorts (Err fault) found e = absurd (cc)
with_sorts_has sorts (Ok named) found e =
    let both = same_by (same_sorts (sorts_of_names named) sorts) named found e in
    ap sorts_of_names (sym both.1) ∙ same_sorts_is (sorts_of_names named) sorts both.0

unless_none : {A : Type 0} (b : Bool) (found : Option A) (x : A) → (if b then found else None) ≡ Some x → found ≡ Some x
unless_none true found x e = e
unless_none false found x e = absurd (cc)

arguments_have : (logic : Logic) (f : Signature) (part : Part) (found : List Named) → arguments_of logic f part ≡ Some found → sorts_of_names found ≡ f.takes
arguments_have logic f part found e =
    let read = read_named [] logic [] [] part.arguments in
    with_sorts_has f.takes read found (unless_none (is_read_as f.gives (read_sort logic [] part.sort)) (with_sorts f.takes read) found e)

-- bodies that are stated fit what is asked
abbrev pub StatementFits : (Op → Bool) → Question → Statement → Type 0
StatementFits owned question Nothing = ⊤
StatementFits owned question (Bodies bodies proof) = AllFit owned question.signatures question.goals bodies

abbrev pub StatementsFit : (Op → Bool) → List Question → List Statement → Type 0
StatementsFit owned [] [] = ⊤
StatementsFit owned (question ∷ questions) (statement ∷ statements) = StatementFits owned question statement × StatementsFit owned questions statements
StatementsFit owned _ _ = ⊥

module _ (logic : Logic) (owned : Op → Bool) (numeric : Sort → Bool) (of : IsTheoryOf logic owned numeric) (titles : Titles) where
  part_fits : (check : ℕ) (question : Question) (f : Signature) (part : Part) (body : Expr) → part_body check logic titles question f part ≡ Ok body → Fits owned question.signatures f body
  part_fits check question f part body e =
      let a = bind_ok (there_or check part.place _ (arguments_of logic f part)) _ body e in
      let arguments = arguments_have logic f part a.0 (there_ok check part.place _ (arguments_of logic f part) a.0 a.1) in
      let read = term_ok check (body_read logic titles question.signatures question.definitions a.0 f.gives part.body) body a.2 in
      rw (← arguments) (body_fits logic owned numeric of titles question.signatures question.definitions a.0 f.gives part.body body read)

  slots_fit : (check : ℕ) (question : Question) (slots : List (Option Expr)) (item : Item) (later : List (Option Expr)) → SlotsFit owned question.signatures question.goals slots
      → part_read check logic titles question slots item ≡ Ok later → SlotsFit owned question.signatures question.goals later
  slots_fit check question slots item later fit e =
      let part = bind_ok (there_or check _ _ (part_of item)) _ later e in
      let function = bind_ok (there_or check _ _ (open_from 0 part.0.name.name titles.wanted question.goals slots)) _ later part.2 in
      let there = there_ok check _ _ (open_from 0 part.0.name.name titles.wanted question.goals slots) function.0 function.1 in
      let body = bind_ok (part_body check logic titles question function.0.1 part.0) _ later function.2 in
      let same : slice_set slots function.0.0 (Some body.0) ≡ later = cc in
      subst (SlotsFit owned question.signatures question.goals) same
      (slot_filled owned question.signatures part.0.name.name titles.wanted question.goals slots function.0 body.0 there fit (part_fits check question function.0.1 part.0 body.0 body.1))

  parts_fit : (check : ℕ) (question : Question) (slots : List (Option Expr)) (items : Items) (later : List (Option Expr)) → SlotsFit owned question.signatures question.goals slots
      → parts_read check logic titles question slots items ≡ Ok later → SlotsFit owned question.signatures question.goals later
  unfolding parts_read
  parts_fit check question slots none later fit e =
      let same : slots ≡ later = cc in
      subst (SlotsFit owned question.signatures question.goals) same fit
  parts_fit check question slots (more first rest) later fit e =
      let one = bind_ok (part_read check logic titles question slots first) _ later e in
      parts_fit check question one.0 rest later (slots_fit check question slots first one.0 fit one.1) one.2

  bodies_fit : (check : ℕ) (question : Question) (list : Listed) (bodies : List Expr) → bodies_read check logic titles question list ≡ Ok bodies → AllFit owned question.signatures question.goals bodies
  bodies_fit check question list bodies e =
      let all = bind_ok (parts_read check logic titles question (no_bodies question.goals) list.items) _ bodies e in
      all_fit owned question.signatures question.goals all.0 bodies (parts_fit check question (no_bodies question.goals) list.items all.0 (none_fit owned question.signatures question.goals) all.1)
      (there_ok check list.place _ (all_there all.0) bodies all.2)

  -- so of definitions, if there are any
  abbrev FoundFit : Question → Option (List Expr) → Type 0
  FoundFit question None = ⊤
  FoundFit question (Some bodies) = AllFit owned question.signatures question.goals bodies

  bodies_found : (question : Question) (read : ReplyReading (List Expr)) (found : Option (List Expr)) → ((bodies : List Expr) → read ≡ Ok bodies → AllFit owned question.signatures question.goals bodies)
      → (read >>= found_bodies) ≡ Ok found → FoundFit question found
  bodies_found question (Err refused) found fit e = absurd (cc)
  bodies_found question (Ok bodies) found fit e = let same : Some bodies ≡ found = cc in subst (FoundFit question) same (fit bodies refl)

  found_in : (check : ℕ) (question : Question) (b : Bool) (place : Place) (list : Option Listed) (found : Option (List Expr)) →
      (if b then Ok None else (there_or check place reply.Shape list >>= λ l. bodies_read check logic titles question l >>= found_bodies)) ≡ Ok found → FoundFit question found
  found_in check question true place list found e = let same : None ≡ found = cc in subst (FoundFit question) same tt
  found_in check question false place None found e = absurd (cc)
  found_in check question false place (Some l) found e = bodies_found question (bodies_read check logic titles question l) found (bodies_fit check question l) e

  definitions_fit : (check : ℕ) (question : Question) (item : Item) (found : Option (List Expr)) → definitions_read check logic titles question item ≡ Ok found → FoundFit question found
  definitions_fit check question item found e = found_in check question (says_nothing item) (place_of item) (list_in item) found e

  stated_fits : (proofs : Bool) (check : ℕ) (file : List ℕ) (at : ℕ) (question : Question) (found : Option (List Expr)) (x : Statement × ℕ) → FoundFit question found
      → stated_by proofs check logic file at found ≡ Ok x → StatementFits owned question x.0
  stated_fits proofs check file at question None x fit e =
      let same : (Nothing, at) ≡ x = cc in subst (λ (y : Statement × ℕ). StatementFits owned question y.0) same tt
  stated_fits false check file at question (Some bodies) x fit e =
      let same : (Bodies bodies None, at) ≡ x = cc in subst (λ (y : Statement × ℕ). StatementFits owned question y.0) same fit
  stated_fits true check file at question (Some bodies) x fit e =
      let proof = bind_ok (proof_read check logic file at) (with_proof bodies) x e in
      let same : (Bodies bodies (Some proof.0.0), proof.0.1) ≡ x = cc in
      subst (λ (y : Statement × ℕ). StatementFits owned question y.0) same fit

  statement_fits : (proofs : Bool) (file : List ℕ) (check : ℕ) (question : Question) (at : ℕ) (x : Statement × ℕ) → statement_read proofs logic titles file check question at ≡ Ok x → StatementFits owned question x.0
  unfolding statement_read
  statement_fits proofs file check question at x e =
      let item = bind_ok (item_read check _ file at) _ x e in
      let found = bind_ok (definitions_read check logic titles question item.0.0) _ x item.2 in
      stated_fits proofs check file item.0.1 question found.0 x (definitions_fit check question item.0.0 found.0 found.1) found.2

  nothing_fits : (check : ℕ) (found : Option (Item × ℕ)) (statements : List Statement) → nothing_left check found ≡ Ok statements → [] ≡ statements
  nothing_fits check None statements e = cc
  nothing_fits check (Some x) statements e = absurd (cc)

  pub statements_fit : (proofs : Bool) (file : List ℕ) (check : ℕ) (questions : List Question) (at : ℕ) (statements : List Statement) → statements_from proofs logic titles file check questions at ≡ Ok statements
      → StatementsFit owned questions statements
  unfolding statements_from
  statements_fit proofs file check [] at statements e =
      let last = bind_ok (next_item check file at) (nothing_left check) statements e in
      subst (StatementsFit owned []) (nothing_fits check last.0 statements last.2) tt
  statements_fit proofs file check (question ∷ questions) at statements e =
      let one = bind_ok (statement_read proofs logic titles file check question at) _ statements e in
      let rest = bind_ok (statements_from proofs logic titles file (check + 1) questions one.0.1) (behind one.0.0) statements one.2 in
      let same : one.0.0 ∷ rest.0 ≡ statements = cc in
      subst (StatementsFit owned (question ∷ questions)) same
      (statement_fits proofs file check question at one.0 one.1, statements_fit proofs file (check + 1) questions one.0.1 rest.0 rest.1)

-- so of terms
all_terms_fit : {T N : Type 0} (owned : Op → Bool) (number : N → Val) (defs : List (Def T N)) (wanted : List (Wanted T N)) (terms : List (Term T N)) → AllFit owned (map signature defs) (map (goal_of number) wanted) (map (expr_of number) terms)
    → BodiesFit owned number defs terms (map wanted_signature wanted)
all_terms_fit owned number defs [] [] fit = tt
all_terms_fit owned number defs [] (term ∷ terms) fit = absurd fit
all_terms_fit owned number defs (f ∷ wanted) [] fit = absurd fit
all_terms_fit owned number defs (f ∷ wanted) (term ∷ terms) fit = (fit.0, all_terms_fit owned number defs wanted terms fit.1)

one_stated : {T N : Type 0} (theory : TheoryOf T N) (problem : Problem T N) (statement : Stated T N) → StatementFits theory.owned (question_of theory.denotes problem) (statement_of theory.denotes statement) → IsStatedFor theory problem statement
one_stated theory problem stated.Nothing fit = tt
one_stated theory problem (stated.Bodies bodies proof) fit = all_terms_fit theory.owned theory.denotes problem.defs problem.wanted bodies fit

pub all_stated : {T N : Type 0} (theory : TheoryOf T N) (problems : List (Problem T N)) (statements : List (Stated T N)) → StatementsFit theory.owned (map (question_of theory.denotes) problems) (map (statement_of theory.denotes) statements)
    → AreStatedFor theory problems statements
all_stated theory [] [] fit = tt
all_stated theory [] (statement ∷ statements) fit = absurd fit
all_stated theory (problem ∷ problems) [] fit = absurd fit
all_stated theory (problem ∷ problems) (statement ∷ statements) fit = (one_stated theory problem statement fit.0, all_stated theory problems statements fit.1)
