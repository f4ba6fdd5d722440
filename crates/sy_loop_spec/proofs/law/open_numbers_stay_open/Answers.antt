use Rattle.sy_loop_spec.proofs.Staying as staying
use Rattle.sy_loop_spec.proofs.law.open_numbers_stay_open.Goals as goal

pub returns-clause-lesser : goal.returns-clause-lesser
returns-clause-lesser c = staying.open_down

pub returns-clause-stays : goal.returns-clause-stays
returns-clause-stays c reach question size n history history' kept is = staying.open_stays question history history' kept reach size n is

pub returns-clause-candidate : goal.returns-clause-candidate
returns-clause-candidate c reach question size history history' bodies kept is = staying.candidate_stays question history history' kept reach size bodies is

pub returns-clause-met : goal.returns-clause-met
returns-clause-met c reach question size function history history' tuple kept is = staying.met_stays question history history' kept reach size function tuple is
