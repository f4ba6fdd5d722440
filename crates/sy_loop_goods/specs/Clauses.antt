-- What clauses say of a problem, for a theory.
use Rattle.std.specs.Prelude.{ℕ, ◌≡◌, Bool, List, slice_get, Some}
use Rattle.sy_terms.specs.Values.{Val}
use Rattle.sy_terms.specs.Expr.{Expr}
use Rattle.sy_terms.specs.Meaning.{functions}
use Rattle.sy_terms.specs.declared.theory.Theory.{Ghosts as TheoryOf}
use Rattle.sy_grammar_base.specs.Questions.{question_of}
use Rattle.sy_grammar_base.specs.declared.problem.Problem.{Problem}
use Rattle.sy_bank_level.specs.Banks.{Entry}
use Rattle.sy_bank_level.specs.Rows.{IsRow}
use Rattle.sy_points.specs.Asked.{Asked, of_function}
use Rattle.sy_points.specs.declared.stored.Stored.{Stored}
use Rattle.sy_loop_spec.specs.Stored.{history_of}
use Rattle.sy_loop_goods.specs.declared.memo.Memo.{Memo}
use Rattle.sy_loop_spec.specs.Goods.{assignments_of, AreGoods}
use Rattle.sy_loop_goods.specs.Columns.{IsColumn}
use Rattle.sy_loop_goods.specs.Judged.{JudgesLeaf}
use Rattle.sy_loop_goods.specs.Judging.{JudgesRests}
use Rattle.sy_loop_goods.specs.Leaves.{AreLeaves, LeafLeaves}
use Rattle.sy_loop_goods.specs.Memos.{IsMemo}
use Rattle.sy_loop_goods.specs.declared.goods.Leaving.{Leaving}
use Rattle.sy_loop_goods.specs.declared.judging.Judged.{Judged}
use Rattle.sy_loop_truth.specs.declared.rest.Rest.{Rest}

module _ {T N : Type 0} (theory : TheoryOf T N) (problem : Problem T N) where
  abbrev pub AreLeavesFor : Asked → List Entry → Type 0
  AreLeavesFor asked = AreLeaves (question_of theory.denotes problem) (of_function asked 0)

  abbrev pub AreGoodsFor : Stored T N → Asked → List Entry → List (List Bool) → Type 0
  AreGoodsFor stored asked = AreGoods (question_of theory.denotes problem) (assignments_of (history_of theory.denotes stored)) (of_function asked 0)

  abbrev pub IsLeavingFor : Stored T N → List Entry → Leaving → Type 0
  IsLeavingFor stored = LeafLeaves (question_of theory.denotes problem) (history_of theory.denotes stored)

  abbrev pub IsRowFor : Asked → Entry → Type 0
  IsRowFor asked entry = IsRow (functions (question_of theory.denotes problem).definitions) (of_function asked 0) entry.term entry.row

  abbrev pub IsMemoFor : Memo T N → Type 0
  IsMemoFor = IsMemo theory.denotes (question_of theory.denotes problem)

  abbrev pub JudgesFor : Stored T N → List Expr → List Rest → Judged → Type 0
  JudgesFor stored = JudgesRests (question_of theory.denotes problem) (history_of theory.denotes stored)

  abbrev pub JudgesLeafFor : Stored T N → List Entry → ℕ → ℕ → List Rest → List Bool → Judged → Type 0
  JudgesLeafFor stored = JudgesLeaf (question_of theory.denotes problem) (history_of theory.denotes stored)

  -- the column of the point of this number says which leaves are good there
  abbrev pub IsColumnFor : Stored T N → Asked → List Entry → ℕ → List Bool → Type 0
  IsColumnFor stored asked leaves point column = (tuple : List Val) → slice_get (of_function asked 0) point ≡ Some tuple →
      IsColumn (question_of theory.denotes problem) (assignments_of (history_of theory.denotes stored)) tuple leaves column
