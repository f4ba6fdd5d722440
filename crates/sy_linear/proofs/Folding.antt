-- Combinations, share by share and form by form.
use Rattle.std.proofs.Common.{◌≡◌, ◌≤◌, ◌<◌, ◌+◌, ◌++◌, ◌∙◌, ap, ap₂, sym, refl, ℕ, drop, get_or, length, arith, Bool, true, false}
use Rattle.std.specs.Prelude.{ℤ, pos, List, [], ◌∷◌, Option, Some, None, cond, Result, Ok, Err, IsErrOf}
use Rattle.std.specs.Option.{option_and_then}
use Rattle.std.proofs.lemmas.List.{drop_more, drop_all, append_assoc, append-nil}
use Rattle.std.proofs.lemmas.Bool.{lt-ltb, le-ltb}
use Rattle.sy_frac.specs.Fraction.{Fraction}
use Rattle.sy_linear_known.specs.declared.form.Form.{Form}
use Rattle.sy_linear_known.specs.Forms.{Coefficient, before}
use Rattle.std.specs.Ordering.{int_eq}
use Rattle.sy_linear_known.specs.declared.path.Fact.{Fact}
use Rattle.sy_linear_known.specs.declared.path.Fact.TheVariants.{AtLeast, Is}
use Rattle.sy_linear_known.specs.Trees.{forms}
use Rattle.sy_linear.specs.declared.combination.Share.{Share}
use Rattle.sy_linear.specs.declared.combination.Combination.{Combination}
use Rattle.sy_linear.specs.Exact.{whole_multiple, checked_plus_multiple, over_whole}
use Rattle.sy_linear.specs.Combining.{share_before, plus_coefficients, following, of_parts, checked_plus_form, forms_folded, divided_shares, divided, numerators}

pub no_items : {X : Type 0} (xs : List X) → length xs ≡ 0 → xs ≡ []
no_items [] e = refl
no_items (x ∷ xs) e = absurd (omega arith)

error_or : {T E : Type 0} → E → Result T E → E
error_or x (Err y) = y
error_or x (Ok r) = x

-- an error is the same error of another result
pub moved : {T U E : Type 0} (x y : E) → IsErrOf {T = T} {E = E} (Err x) y → IsErrOf {T = U} {E = E} (Err x) y
unfolding error_or
moved x y h = ap Err (ap (error_or x) h)

-- ---- division
pub divided_kept : (d : ℤ) (left others shares all new : List Share) (q : Share) (w : Option Fraction) → left ≡ q ∷ others → w ≡ over_whole d q.weight → following all (divided_shares d left) ≡ divided_shares d shares → ((rest : Option (List Share)) → following all (share_before q.variable w rest) ≡ following new rest) → following new (divided_shares d others) ≡ divided_shares d shares
unfolding divided_shares
divided_kept d left others shares all new q w l e kept push =
    sym (push (divided_shares d others))
    ∙ ap (λ x. following all (share_before q.variable x (divided_shares d others))) e
    ∙ sym (ap (λ qs. following all (divided_shares d qs)) l) ∙ kept

pub divided_unfit : (d : ℤ) (left others shares all : List Share) (q : Share) (w : Option Fraction) → left ≡ q ∷ others → w ≡ over_whole d q.weight → following all (divided_shares d left) ≡ divided_shares d shares → w ≡ None → divided_shares d shares ≡ None
unfolding divided_shares
divided_unfit d left others shares all q w l e kept none =
    sym kept ∙ ap (λ qs. following all (divided_shares d qs)) l
    ∙ ap (λ x. following all (share_before q.variable x (divided_shares d others))) (sym e ∙ none)

pub divided_end : (d : ℤ) (left shares all : List Share) → left ≡ [] → following all (divided_shares d left) ≡ divided_shares d shares → divided_shares d shares ≡ Some all
unfolding divided_shares
divided_end d left shares all l kept = sym kept ∙ ap (λ qs. following all (divided_shares d qs)) l ∙ ap Some (append-nil all)

-- ---- sums
-- what comes first, of the next coefficient and the next share
pub first_alone : (m : Fraction) (c : Coefficient) (cs : List Coefficient) → plus_coefficients m (c ∷ cs) [] ≡ share_before c.0 (whole_multiple m c.1) (plus_coefficients m cs [])
unfolding plus_coefficients
first_alone m c cs = refl

pub first_new : (m : Fraction) (c : Coefficient) (cs : List Coefficient) (q : Share) (qs : List Share) → c.0 < q.variable → plus_coefficients m (c ∷ cs) (q ∷ qs) ≡ share_before c.0 (whole_multiple m c.1) (plus_coefficients m cs (q ∷ qs))
unfolding plus_coefficients
first_new m c cs q qs l = rw (lt-ltb c.0 q.variable l) refl

pub first_old : (m : Fraction) (c : Coefficient) (cs : List Coefficient) (q : Share) (qs : List Share) → q.variable ≤ c.0 → q.variable < c.0 → plus_coefficients m (c ∷ cs) (q ∷ qs) ≡ share_before q.variable (Some q.weight) (plus_coefficients m (c ∷ cs) qs)
unfolding plus_coefficients
first_old m c cs q qs k l = rw (le-ltb c.0 q.variable k, lt-ltb q.variable c.0 l) refl

pub first_both : (m : Fraction) (c : Coefficient) (cs : List Coefficient) (q : Share) (qs : List Share) → q.variable ≤ c.0 → c.0 ≤ q.variable → plus_coefficients m (c ∷ cs) (q ∷ qs) ≡ share_before c.0 (checked_plus_multiple m c.1 q.weight) (plus_coefficients m cs qs)
unfolding plus_coefficients
first_both m c cs q qs k l = rw (le-ltb c.0 q.variable k, le-ltb q.variable c.0 l) refl

pub alone_is : (m : Fraction) (cs others : List Coefficient) (qs : List Share) (f : Coefficient) → cs ≡ f ∷ others → length qs ≡ 0 → plus_coefficients m cs qs ≡ share_before f.0 (whole_multiple m f.1) (plus_coefficients m others qs)
alone_is m cs others qs f e l =
    let none : qs ≡ [] = no_items qs l in
    ap₂ (plus_coefficients m) e none ∙ first_alone m f others ∙ sym (ap (λ k. share_before f.0 (whole_multiple m f.1) (plus_coefficients m others k)) none)

pub new_is : (m : Fraction) (cs others : List Coefficient) (qs later : List Share) (f : Coefficient) (q : Share) → cs ≡ f ∷ others → qs ≡ q ∷ later → f.0 < q.variable → plus_coefficients m cs qs ≡ share_before f.0 (whole_multiple m f.1) (plus_coefficients m others qs)
new_is m cs others qs later f q e g l = ap₂ (plus_coefficients m) e g ∙ first_new m f others q later l ∙ sym (ap (λ k. share_before f.0 (whole_multiple m f.1) (plus_coefficients m others k)) g)

pub old_is : (m : Fraction) (cs others : List Coefficient) (qs later : List Share) (f : Coefficient) (q : Share) → cs ≡ f ∷ others → qs ≡ q ∷ later → q.variable ≤ f.0 → q.variable < f.0 → plus_coefficients m cs qs ≡ share_before q.variable (Some q.weight) (plus_coefficients m cs later)
old_is m cs others qs later f q e g k l = ap₂ (plus_coefficients m) e g ∙ first_old m f others q later k l ∙ sym (ap (λ x. share_before q.variable (Some q.weight) (plus_coefficients m x later)) e)

pub both_is : (m : Fraction) (cs others : List Coefficient) (qs later : List Share) (f : Coefficient) (q : Share) → cs ≡ f ∷ others → qs ≡ q ∷ later → q.variable ≤ f.0 → f.0 ≤ q.variable → plus_coefficients m cs qs ≡ share_before f.0 (checked_plus_multiple m f.1 q.weight) (plus_coefficients m others later)
both_is m cs others qs later f q e g k l = ap₂ (plus_coefficients m) e g ∙ first_both m f others q later k l

-- one step, where the sum of what is left begins with a share
pub sum_kept : (all new : List Share) (v : ℕ) (w x : Option Fraction) (now rest goal : Option (List Share)) → now ≡ share_before v x rest → w ≡ x → following all now ≡ goal → ((r : Option (List Share)) → following all (share_before v w r) ≡ following new r) → following new rest ≡ goal
sum_kept all new v w x now rest goal first e kept push = sym (push rest) ∙ ap (λ y. following all (share_before v y rest)) e ∙ sym (ap (following all) first) ∙ kept

pub sum_unfit : (all : List Share) (v : ℕ) (w x : Option Fraction) (now rest goal : Option (List Share)) → now ≡ share_before v x rest → w ≡ x → following all now ≡ goal → w ≡ None → goal ≡ None
sum_unfit all v w x now rest goal first e kept none = sym kept ∙ ap (following all) (first ∙ ap (λ y. share_before v y rest) (sym e ∙ none))

pub sum_end : (m : Fraction) (cs : List Coefficient) (qs all new : List Share) (goal : Option (List Share)) → cs ≡ [] → new ≡ all ++ qs → following all (plus_coefficients m cs qs) ≡ goal → goal ≡ Some new
unfolding plus_coefficients
sum_end m cs qs all new goal c e kept = sym kept ∙ ap (λ k. following all (plus_coefficients m k qs)) c ∙ ap Some (sym e)

-- ---- coefficients
pub numerators_kept : (all new : List Coefficient) (shares : List Share) (i : ℕ) (q : Share) (n : ℤ) (goal : List Coefficient) → i < length shares → q ≡ get_or shares i q → n ≡ q.weight.num → all ++ numerators (drop i shares) ≡ goal → new ≡ all ++ before q.variable n [] → new ++ numerators (drop (i + 1) shares) ≡ goal
unfolding numerators
numerators_kept all new shares i q n goal l e same kept push =
    let rest : List Coefficient = numerators (drop (i + 1) shares) in
    ap (λ xs. xs ++ rest) push ∙ append_assoc all (before q.variable n []) rest
    ∙ ap (λ xs. all ++ xs) (before_append q.variable n rest ∙ ap (λ m. before q.variable m rest) same)
    ∙ ap (λ p. all ++ before p.variable p.weight.num rest) e
    ∙ sym (ap (λ qs. all ++ numerators qs) (drop_more shares i q l)) ∙ kept
  where
    before_append : (i : ℕ) (n : ℤ) (rest : List Coefficient) → before i n [] ++ rest ≡ before i n rest
    before_append i n rest = by (int_eq n (pos 0))
      where
        by : (b : Bool) → cond b [] ((i, n) ∷ []) ++ rest ≡ cond b rest ((i, n) ∷ rest)
        by true = refl
        by false = refl

pub numerators_end : (all : List Coefficient) (shares : List Share) (i : ℕ) (goal : List Coefficient) → length shares ≤ i → all ++ numerators (drop i shares) ≡ goal → all ≡ goal
unfolding numerators
numerators_end all shares i goal l kept = sym (append-nil all) ∙ sym (ap (λ qs. all ++ numerators qs) (drop_all i shares l)) ∙ kept

-- ---- forms
pub form_is : (c : Combination) (m : Fraction) (f : Form) (n : ℤ) (cs : List Coefficient) (ss : List Share) (k : Option Fraction) (o : Option (List Share)) → n ≡ f.constant → cs ≡ f.coefs → ss ≡ c.shares → k ≡ checked_plus_multiple m n c.constant → plus_coefficients m cs ss ≡ o → checked_plus_form c m f ≡ of_parts k o
unfolding checked_plus_form
form_is c m f n cs ss k o en ec es ek eo = sym (ap₂ of_parts (ek ∙ ap (λ x. checked_plus_multiple m x c.constant) en) (sym eo ∙ ap₂ (plus_coefficients m) ec es))

pub divided_some : (d : ℤ) (c : Combination) (k : Fraction) (qs : List Share) → Some k ≡ over_whole d c.constant → divided_shares d c.shares ≡ Some qs → divided d c ≡ Some (record { shares = qs; constant = k })
divided_some d c k qs e h = ap (λ x. of_parts x (divided_shares d c.shares)) (sym e) ∙ ap (of_parts (Some k)) h

pub divided_no_constant : (d : ℤ) (c : Combination) → None ≡ over_whole d c.constant → divided d c ≡ None
divided_no_constant d c e = ap (λ x. of_parts x (divided_shares d c.shares)) (sym e)

pub divided_no_shares : (d : ℤ) (c : Combination) (k : Fraction) → Some k ≡ over_whole d c.constant → divided_shares d c.shares ≡ None → divided d c ≡ None
divided_no_shares d c k e h = ap (λ x. of_parts x (divided_shares d c.shares)) (sym e) ∙ ap (of_parts (Some k)) h

-- ---- facts
forms_left : (facts : List Fact) (i : ℕ) (fact : Fact) → i < length facts → fact ≡ get_or facts i fact → forms (drop i facts) ≡ forms (fact ∷ drop (i + 1) facts)
forms_left facts i fact l e = ap forms (drop_more facts i fact l ∙ ap (λ x. x ∷ drop (i + 1) facts) (sym e))

pub fold_skipped : (sum : Combination) (left : List Fraction) (facts : List Fact) (i u : ℕ) (b : Bool) (fact : Fact) (goal : Option Combination) → i < length facts → fact ≡ get_or facts i fact → fact ≡ Is u b → forms_folded sum left (forms (drop i facts)) ≡ goal → forms_folded sum left (forms (drop (i + 1) facts)) ≡ goal
fold_skipped sum left facts i u b fact goal l e is kept = sym (ap (forms_folded sum left) (forms_left facts i fact l e ∙ ap (λ x. forms (x ∷ drop (i + 1) facts)) is)) ∙ kept

fold_next : (sum : Combination) (left others : List Fraction) (facts : List Fact) (i : ℕ) (f : Form) (m : Fraction) (fact : Fact) → i < length facts → fact ≡ get_or facts i fact → fact ≡ AtLeast f → left ≡ m ∷ others → forms_folded sum left (forms (drop i facts)) ≡ option_and_then (λ next. forms_folded next others (forms (drop (i + 1) facts))) (checked_plus_form sum m f)
unfolding forms_folded
fold_next sum left others facts i f m fact l e is g = ap₂ (forms_folded sum) g (forms_left facts i fact l e ∙ ap (λ x. forms (x ∷ drop (i + 1) facts)) is)

pub fold_kept : (sum next : Combination) (left others : List Fraction) (facts : List Fact) (i : ℕ) (f : Form) (m : Fraction) (fact : Fact) (goal : Option Combination) → i < length facts → fact ≡ get_or facts i fact → fact ≡ AtLeast f → left ≡ m ∷ others → checked_plus_form sum m f ≡ Some next → forms_folded sum left (forms (drop i facts)) ≡ goal → forms_folded next others (forms (drop (i + 1) facts)) ≡ goal
fold_kept sum next left others facts i f m fact goal l e is g h kept = sym (fold_next sum left others facts i f m fact l e is g ∙ ap (option_and_then (λ k. forms_folded k others (forms (drop (i + 1) facts)))) h) ∙ kept

pub fold_unfit : (sum : Combination) (left others : List Fraction) (facts : List Fact) (i : ℕ) (f : Form) (m : Fraction) (fact : Fact) (goal : Option Combination) → i < length facts → fact ≡ get_or facts i fact → fact ≡ AtLeast f → left ≡ m ∷ others → checked_plus_form sum m f ≡ None → forms_folded sum left (forms (drop i facts)) ≡ goal → goal ≡ None
fold_unfit sum left others facts i f m fact goal l e is g h kept = sym kept ∙ fold_next sum left others facts i f m fact l e is g ∙ ap (option_and_then (λ k. forms_folded k others (forms (drop (i + 1) facts)))) h

pub fold_stopped : (sum : Combination) (left : List Fraction) (fs : List Form) (goal : Option Combination) → length left ≡ 0 → forms_folded sum left fs ≡ goal → goal ≡ Some sum
unfolding forms_folded
fold_stopped sum left fs goal l kept = sym kept ∙ ap (λ ms. forms_folded sum ms fs) (no_items left l)

pub fold_ended : (sum : Combination) (left : List Fraction) (facts : List Fact) (i : ℕ) (goal : Option Combination) → length facts ≤ i → forms_folded sum left (forms (drop i facts)) ≡ goal → goal ≡ Some sum
unfolding forms_folded
fold_ended sum left facts i goal l kept = sym kept ∙ ap (λ xs. forms_folded sum left (forms xs)) (drop_all i facts l) ∙ by left
  where
    by : (ms : List Fraction) → forms_folded sum ms [] ≡ Some sum
    by [] = refl
    by (m ∷ ms) = refl
