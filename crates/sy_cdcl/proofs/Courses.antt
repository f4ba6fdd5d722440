-- How the learning ends.
use Rattle.std.proofs.Common.{◌≡◌, ℕ, refl, ◌∙◌, sym, ap, arith, length}
use Rattle.sy_clauses.specs.declared.Cnf.{Cnf}
use Rattle.sy_clauses.specs.Clauses.{known_clauses, VarsFit}
use Rattle.sy_clauses.specs.New.{LearnsNew}
use Rattle.sy_cdcl.specs.declared.solver.End.TheVariants as end
use Rattle.sy_cdcl.specs.declared.solver.State.{State}
use Rattle.sy_cdcl.specs.Answer.{IsRunEnd}
use Rattle.sy_cdcl.specs.States.{StateIsSound, IsFresh, clauses_known}
use Rattle.sy_cdcl.proofs.Ends.{fresh_first, numbered_first, attach_vars, attach_count}
use Rattle.sy_cdcl.proofs.Bound.{fewer_than_sets}

-- what the lines derive is new
pub learns_new : (cnf : Cnf) (s : State) → StateIsSound cnf s → LearnsNew cnf record { lines = s.lines }
learns_new cnf s i = record { clauses = clauses_known cnf s; numbered = i.numbered; new = i.fresh }

-- no clause may be learned
pub end_idle : (cnf : Cnf) (s : State) (fuel : ℕ) → IsFresh cnf s → VarsFit cnf → fuel ≡ 0 → IsRunEnd cnf fuel record { lines = s.lines } end.Spent
end_idle cnf s fuel f vars z =
    let known = known_clauses cnf.clauses s.derived.items in
    let count = attach_count cnf s.derived.items f.derived in
    let new = fresh_first known (length cnf.clauses) count in
    let few = fewer_than_sets (length cnf.clauses) cnf.vars fuel known new (attach_vars cnf s.derived.items cnf.vars vars f.derived refl) (omega arith) in
    (record { clauses = known; numbered = numbered_first cnf s.lines s.derived.items f.lines f.derived; new = new }, ap length f.lines ∙ sym z, few)

-- as many were learned as may be
pub end_spent : (cnf : Cnf) (s : State) (fuel : ℕ) → StateIsSound cnf s → length s.lines ≡ fuel → IsRunEnd cnf fuel record { lines = s.lines } end.Spent
end_spent cnf s fuel i n =
    let count = i.count in
    let few = fewer_than_sets (length cnf.clauses) cnf.vars fuel (clauses_known cnf s) i.fresh i.vars (omega arith) in
    (learns_new cnf s i, n, few)
