use Rattle.std.proofs.Common.{◌≡◌, take, map}
use Rattle.sy_terms.specs.Denoted.{expr_of}
use Rattle.sy_bank_level.specs.Shared.{terms_from}
use Rattle.sy_bank_level.proofs.grown.+term.Given as goal

abbrev pub invariant-Growns::terms-loop-grown : goal.invariant-Growns::terms-loop-grown
invariant-Growns::terms-loop-grown g l = map (expr_of g.T.Theory.denotes) l.terms.items ≡ terms_from g.T.Theory.denotes (take l.grown-index l.all)
