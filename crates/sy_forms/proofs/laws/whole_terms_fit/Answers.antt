use Rattle.sy_forms.proofs.Whole.{whole_fits_later}
use Rattle.sy_forms.proofs.laws.whole_terms_fit.Goals as goal

pub returns : goal.returns
returns c = whole_fits_later
