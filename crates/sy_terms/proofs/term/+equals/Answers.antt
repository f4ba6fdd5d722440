use Rattle.std.proofs.Common.{arith, refl, sym, ◌∙◌, ⊎_elim}
use Rattle.std.proofs.lemmas.Bool.{eqb-true}
use Rattle.sy_terms.proofs.Apart as apart
use Rattle.sy_terms.proofs.Apart.{same_length, cc_length, left_more, first_same, none_left}
use mathlib.Core.Bool.{true≢false}
use Rattle.sy_terms.proofs.term.+equals.Goals as goal

pub Term::equals-returns-in-Const-Const : goal.Term::equals-returns-in-Const-Const
Term::equals-returns-in-Const-Const g t c =
    apart.alike g.T.Theory.denotes _ c.args.self.now c.args.other.now _ _ (apart.is-Const g.T.Theory.denotes _ c.in-Const-Const.a c.in-Const-Const.is-0) (apart.is-Const g.T.Theory.denotes _ c.in-Const-Const.b c.in-Const-Const.is-1)
    (apart.both-Constant _ _ _ c.same_value.ensures)

pub Term::equals-returns-in-Var-Var : goal.Term::equals-returns-in-Var-Var
Term::equals-returns-in-Var-Var g t c =
    apart.alike g.T.Theory.denotes _ c.args.self.now c.args.other.now _ _ (apart.is-Var g.T.Theory.denotes _ c.in-Var-Var.a c.in-Var-Var.is-0) (apart.is-Var g.T.Theory.denotes _ c.in-Var-Var.b c.in-Var-Var.is-1)
    (apart.both-Variable _ c.in-Var-Var.a c.in-Var-Var.b ((λ e. eqb-true _ _ e), (λ e. grind arith)))

pub Term::equals-returns-then-equals : goal.Term::equals-returns-then-equals
Term::equals-returns-then-equals g t c =
    apart.alike g.T.Theory.denotes _ c.args.self.now c.args.other.now _ _ (apart.is-App g.T.Theory.denotes _ c.in-App-App.f c.in-App-App.a c.in-App-App.is-0) (apart.is-App g.T.Theory.denotes _ c.in-App-App.g c.in-App-App.b c.in-App-App.is-1)
    (apart.both-Apply _ _ _ _ _ (c.equals.ensures.0 c.if-equals.true) c.equals-then-equals.ensures)

pub Term::equals-returns-else-equals : goal.Term::equals-returns-else-equals
Term::equals-returns-else-equals g t c =
    apart.alike g.T.Theory.denotes _ c.args.self.now c.args.other.now _ _ (apart.is-App g.T.Theory.denotes _ c.in-App-App.f c.in-App-App.a c.in-App-App.is-0) (apart.is-App g.T.Theory.denotes _ c.in-App-App.g c.in-App-App.b c.in-App-App.is-1)
    (apart.other-Apply _ _ _ _ _ c.if-equals.false c.equals.ensures.1)

pub Term::equals-returns-then-equals-2 : goal.Term::equals-returns-then-equals-2
Term::equals-returns-then-equals-2 g t c =
    apart.alike g.T.Theory.denotes _ c.args.self.now c.args.other.now _ _ (apart.is-Call g.T.Theory.denotes _ c.in-Call-Call.f c.in-Call-Call.a c.in-Call-Call.is-0) (apart.is-Call g.T.Theory.denotes _ c.in-Call-Call.g c.in-Call-Call.b c.in-Call-Call.is-1)
    (apart.both-Invoke _ _ _ _ _ (c.equals-in-Call-Call.ensures.0 c.if-equals-2.true) c.equals-then-equals-2.ensures)

pub Term::equals-returns-else-equals-2 : goal.Term::equals-returns-else-equals-2
Term::equals-returns-else-equals-2 g t c =
    apart.alike g.T.Theory.denotes _ c.args.self.now c.args.other.now _ _ (apart.is-Call g.T.Theory.denotes _ c.in-Call-Call.f c.in-Call-Call.a c.in-Call-Call.is-0) (apart.is-Call g.T.Theory.denotes _ c.in-Call-Call.g c.in-Call-Call.b c.in-Call-Call.is-1)
    (apart.other-Invoke _ _ _ _ _ c.if-equals-2.false c.equals-in-Call-Call.ensures.1)

pub Term::equals-returns-then-equals-3 : goal.Term::equals-returns-then-equals-3
Term::equals-returns-then-equals-3 g t c =
    let inner = c.equals-then-equals-3.ensures in
    apart.alike g.T.Theory.denotes _ c.args.self.now c.args.other.now _ _ (apart.is-Let g.T.Theory.denotes _ c.in-Let-Let.a c.in-Let-Let.s c.in-Let-Let.is-0) (apart.is-Let g.T.Theory.denotes _ c.in-Let-Let.b c.in-Let-Let.t c.in-Let-Let.is-1)
    (apart.both-Bind _ _ _ _ _ _ c.if-equals-3.true c.equals-in-Let-Let.ensures (rw (c.deref.ensures, c.deref-then-equals-3.ensures) at inner))

pub Term::equals-returns-else-equals-3 : goal.Term::equals-returns-else-equals-3
Term::equals-returns-else-equals-3 g t c =
    apart.alike g.T.Theory.denotes _ c.args.self.now c.args.other.now _ _ (apart.is-Let g.T.Theory.denotes _ c.in-Let-Let.a c.in-Let-Let.s c.in-Let-Let.is-0) (apart.is-Let g.T.Theory.denotes _ c.in-Let-Let.b c.in-Let-Let.t c.in-Let-Let.is-1)
    (apart.other-Bind _ _ _ _ _ c.if-equals-3.false c.equals-in-Let-Let.ensures)

pub Term::equals-returns-in_default : goal.Term::equals-returns-in_default
Term::equals-returns-in_default g t c =
    apart.never g.T.Theory.denotes _ _ (λ e. apart.apart-Const g.T.Theory.denotes c.args.other.now c.in_default.not-Const-1 _ (sym e ∙ apart.is-Const g.T.Theory.denotes _ _ c.in_default.is-0))

pub Term::equals-returns-in_default-2 : goal.Term::equals-returns-in_default-2
Term::equals-returns-in_default-2 g t c =
    apart.never g.T.Theory.denotes _ _ (λ e. apart.apart-Var g.T.Theory.denotes c.args.other.now c.in_default.not-Var-1 _ (sym e ∙ apart.is-Var g.T.Theory.denotes _ _ c.in_default.is-0))

pub Term::equals-returns-in_default-3 : goal.Term::equals-returns-in_default-3
Term::equals-returns-in_default-3 g t c =
    apart.never g.T.Theory.denotes _ _ (λ e. apart.apart-App g.T.Theory.denotes c.args.other.now c.in_default.not-App-1 _ _ (sym e ∙ apart.is-App g.T.Theory.denotes _ _ _ c.in_default.is-0))

pub Term::equals-returns-in_default-4 : goal.Term::equals-returns-in_default-4
Term::equals-returns-in_default-4 g t c =
    apart.never g.T.Theory.denotes _ _ (λ e. apart.apart-Call g.T.Theory.denotes c.args.other.now c.in_default.not-Call-1 _ _ (sym e ∙ apart.is-Call g.T.Theory.denotes _ _ _ c.in_default.is-0))

pub Term::equals-returns-in_default-5 : goal.Term::equals-returns-in_default-5
Term::equals-returns-in_default-5 g t c =
    apart.never g.T.Theory.denotes _ _ (λ e. apart.apart-Let g.T.Theory.denotes c.args.other.now c.in_default.not-Let-1 _ _ (sym e ∙ apart.is-Let g.T.Theory.denotes _ _ _ c.in_default.is-0))

pub Terms::equals-returns-then-len : goal.Terms::equals-returns-then-len
Terms::equals-returns-then-len g t c =
    ((λ e. cc), (λ e. absurd (c.if-len.true (cc_length _ _ _ _ c.len.ensures c.len-2.ensures (same_length g.T.Theory.denotes c.args.self.now.items.items c.args.other.now.items.items e)))))

pub Terms::equals-loop-a-preserved : goal.Terms::equals-loop-a-preserved
Terms::equals-loop-a-preserved g t c =
    let steps = c.in-Some.ensures.steps in
    left_more g.T.Theory.denotes _ _ _ _ _ _ _ _ steps.0 steps.1 (c.equals.ensures.0 c.if-not-equals.false) c.loop-a.invariant.0 c.loop-a.invariant.1

pub Terms::equals-returns-then-not-equals : goal.Terms::equals-returns-then-not-equals
Terms::equals-returns-then-not-equals g t c =
    let steps = c.in-Some.ensures.steps in
    ((λ e. cc), (λ e. absurd (true≢false (sym (c.equals.ensures.1 (first_same g.T.Theory.denotes _ _ _ _ _ _ steps.0 steps.1 (c.loop-a.invariant.1.1 e))) ∙ c.if-not-equals.true))))

pub Terms::equals-returns : goal.Terms::equals-returns
Terms::equals-returns g t c =
    let steps = c.in-None.ensures.steps in (
      (λ e. c.loop-a.invariant.1.0 (⊎_elim
          (λ ends. none_left g.T.Theory.denotes _ _ ends.1.0 (sym c.loop-a.invariant.0 ∙ ends.1.0))
          (λ ends. none_left g.T.Theory.denotes _ _ (c.loop-a.invariant.0 ∙ ends.1.0) ends.1.0)
          steps)),
      (λ e. refl),
    )
