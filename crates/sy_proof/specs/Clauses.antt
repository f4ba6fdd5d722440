-- Clauses in the format of DIMACS: a line `p cnf V N`, then a line for each clause, as `1 -2 0`. Numbers are decimal.
use Rattle.std.specs.Prelude.{ℕ, ◌+◌, List, [], ◌++◌, length, map, codes, if◌then◌else◌}
use Rattle.std.specs.List.{concat}
use Rattle.sy_text.specs.Spelling.{numeral_text}
use Rattle.sy_clauses.specs.declared.Cnf.{Cnf}
use Rattle.sy_clauses.specs.declared.Lit.{Lit}

-- the number of the variable, from 1 on, behind a minus where it is negated, and a space
abbrev pub literal_text : Lit → List ℕ
literal_text literal = (if literal.positive then [] else codes "-") ++ (numeral_text (literal.var + 1) ++ codes " ")

-- byte 10, each literal, and 0
abbrev pub clause_text : List Lit → List ℕ
clause_text clause = codes "\n" ++ (concat (map literal_text clause) ++ codes "0")

abbrev pub clauses_text : Cnf → List ℕ
clauses_text cnf =
    codes "p cnf " ++ (numeral_text cnf.vars ++ (codes " " ++ (numeral_text (length cnf.clauses) ++ concat (map clause_text cnf.clauses))))
