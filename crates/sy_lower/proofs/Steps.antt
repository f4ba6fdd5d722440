-- Lists that are lowered, one term after the other.
use Rattle.std.specs.Prelude.{ℕ, ◌≡◌, refl}
use Rattle.std.proofs.Common.{ap, ap₂, sym, subst, ◌∙◌}
use Rattle.sy_terms.specs.Expr.{Expr, Exprs, Constant, Variable, Apply, Invoke, Bind, none, more, append}
use Rattle.sy_terms.specs.Values.{Val}
use Rattle.sy_terms.specs.declared.op.Op.{Op}
use Rattle.sy_terms.specs.declared.term.Fun.{Fun}
use Rattle.sy_lower_laws.specs.Lowering.{Progress, Lowered, AllLowered, applied, lowered, all_lowered, bound_lowered, named, name_at}
use Rattle.sy_lower.specs.Stored.{Gives, GivesAll, lowered_terms}

-- with one term more at the end
with_last : AllLowered → Lowered → AllLowered
with_last before last = record { terms = append before.terms (more last.term none); progress = last.progress }

all-last : (names : Exprs) (before : Progress) (terms : Exprs) (last : Expr) →
    all_lowered names before (append terms (more last none)) ≡ with_last (all_lowered names before terms) (lowered names (all_lowered names before terms).progress last)
unfolding all_lowered with_last
all-last names before none last = refl
all-last names before (more first rest) last =
    let found = lowered names before first in
    let put : AllLowered → AllLowered = λ others. record { terms = more found.term others.terms; progress = others.progress } in
    ap put (all-last names found.progress rest last)

bound-last : (names : Exprs) (before : Progress) (terms : Exprs) (last : Expr) →
    bound_lowered names before (append terms (more last none)) ≡ with_last (bound_lowered names before terms) (named (lowered names (bound_lowered names before terms).progress last))
unfolding bound_lowered with_last
bound-last names before none last = refl
bound-last names before (more first rest) last =
    let found = named (lowered names before first) in
    let put : AllLowered → AllLowered = λ others. record { terms = more found.term others.terms; progress = others.progress } in
    ap put (bound-last names found.progress rest last)

-- nothing is lowered yet
pub all-none : (names : Exprs) (before : Progress) → GivesAll none before (all_lowered names before none)
unfolding all_lowered
all-none names before = record { terms = refl; progress = refl }

pub bound-none : (names : Exprs) (before : Progress) → GivesAll none before (bound_lowered names before none)
unfolding bound_lowered
bound-none names before = record { terms = refl; progress = refl }

-- what a step gives by way of what was given before it
after_step : (found : Lowered → Lowered) (before : Lowered) (term given : Expr) (progress after : Progress) → Gives given progress before → Gives term after (found (record { term = given; progress = progress })) → Gives term after (found before)
after_step found before term given progress after was is =
    let same : record { term = given; progress = progress } ≡ before = ap₂ (λ t p. record { term = t; progress = p }) was.term was.progress in
    subst (λ (l : Lowered). Gives term after (found l)) same is

-- one term more
pub all-more : (names : Exprs) (before : Progress) (terms : Exprs) (last : Expr) (all : Exprs) (found : Expr) (progress after : Progress) →
    GivesAll all progress (all_lowered names before terms) → Gives found after (lowered names progress last) → GivesAll (append all (more found none)) after (all_lowered names before (append terms (more last none)))
unfolding with_last
all-more names before terms last all found progress after was is =
    let same = all-last names before terms last in
    let now : Gives found after (lowered names (all_lowered names before terms).progress last) = subst (λ (p : Progress). Gives found after (lowered names p last)) was.progress is in
    subst (λ (l : AllLowered). GivesAll (append all (more found none)) after l) (sym same)
    (record { terms = ap₂ (λ ts t. append ts (more t none)) was.terms now.term; progress = now.progress })

pub bound-more : (names : Exprs) (before : Progress) (terms : Exprs) (last : Expr) (all : Exprs) (found : Expr) (progress between after : Progress) (name : Expr) →
    GivesAll all progress (bound_lowered names before terms) → Gives found between (lowered names progress last) → Gives name after (named (record { term = found; progress = between })) →
    GivesAll (append all (more name none)) after (bound_lowered names before (append terms (more last none)))
unfolding with_last
bound-more names before terms last all found progress between after name was is stands =
    let same = bound-last names before terms last in
    let now : Gives found between (lowered names (bound_lowered names before terms).progress last) = subst (λ (p : Progress). Gives found between (lowered names p last)) was.progress is in
    let here : Gives name after (named (lowered names (bound_lowered names before terms).progress last)) = after_step named (lowered names (bound_lowered names before terms).progress last) name found between after now stands in
    subst (λ (l : AllLowered). GivesAll (append all (more name none)) after l) (sym same)
    (record { terms = ap₂ (λ ts t. append ts (more t none)) was.terms here.term; progress = here.progress })

-- ---- the forms of a term
pub constant : (names : Exprs) (before : Progress) (value : Val) → Gives (Constant value) before (lowered names before (Constant value))
unfolding lowered
constant names before value = record { term = refl; progress = refl }

pub variable : (names : Exprs) (before : Progress) (position : ℕ) (found : Expr) → found ≡ name_at names position → Gives found before (lowered names before (Variable position))
unfolding lowered
variable names before position found is = record { term = is; progress = refl }

pub application : (names : Exprs) (before between after : Progress) (operator : Op) (arguments terms : Exprs) (found : Expr) → GivesAll terms between (all_lowered names before arguments) → Gives found after (applied operator (lowered_terms between terms)) →
    Gives found after (lowered names before (Apply operator arguments))
unfolding lowered
application names before between after operator arguments terms found all gives =
    let same : lowered_terms between terms ≡ all_lowered names before arguments = ap₂ lowered_terms all.progress all.terms in
    subst (λ (l : AllLowered). Gives found after (applied operator l)) same gives

pub call : (names : Exprs) (before : Progress) (term found : Expr) (function : Fun) (arguments : Exprs) → term ≡ Invoke function arguments → found ≡ term → Gives found before (lowered names before term)
unfolding lowered
call names before term found function arguments is same = rw is (record { term = same ∙ is; progress = refl })

pub binding : (names longer : Exprs) (before between after : Progress) (bound stand : Exprs) (inner found : Expr) → GivesAll stand between (bound_lowered names before bound) → longer ≡ append names stand → Gives found after (lowered longer between inner) →
    Gives found after (lowered names before (Bind bound inner))
unfolding lowered
binding names longer before between after bound stand inner found all is gives =
    let one : longer ≡ append names (bound_lowered names before bound).terms = is ∙ ap (append names) all.terms in
    subst (λ (p : Progress). Gives found after (lowered (append names (bound_lowered names before bound).terms) p inner)) all.progress
    (subst (λ (ns : Exprs). Gives found after (lowered ns between inner)) one gives)
