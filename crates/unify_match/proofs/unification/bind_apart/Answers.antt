use Rattle.std.proofs.Common.{◌∙◌, ◌∷◌, sym, ap, subst, List, arith}
use Rattle.std.proofs.lemmas.Grind.{common_steps}
use Rattle.unify_match.specs.declared.bound.Bound.{Bound}
use Rattle.unify_match.specs.Seen.{IsReady}
use Rattle.unify_match.specs.Progress.{Grown}
use Rattle.unify_match.proofs.SeenLemmas.{IsReady-bind}
use Rattle.unify_match.proofs.Effort.{Grown-bind}
use Rattle.unify_match.proofs.Unifying.{bind_fails}
use Rattle.unify_match.proofs.unification.bind_apart.Goals as goal

pub returns-then-branch-clause-outcome : goal.returns-then-branch-clause-outcome
returns-then-branch-clause-outcome g c = bind_fails (g.B.Bank.trees c.args.bank.now) c.args.binds.now.pairs c.args.number c.args.id c.requires.apart (sym c.in_ok-stands_in.ensures ∙ c.if-branch.true)

pub returns-clause-ready : goal.returns-clause-ready
returns-clause-ready g c =
    let all = g.B.Bank.trees c.args.bank.now in
    let pairs = c.bind.ensures.pairs ∙ ap (λ (bs : List Bound). record { var = c.args.number; id = c.args.id } ∷ bs) c.in_ok-reserve.ensures.pairs in
    subst (λ (bs : List Bound). IsReady all bs) (sym pairs)
    (IsReady-bind all c.args.binds.now.pairs record { var = c.args.number; id = c.args.id } c.requires.ready c.requires.known c.requires.unbound (sym c.in_ok-stands_in.ensures ∙ c.if-branch.false))

pub returns-clause-grown : goal.returns-clause-grown
returns-clause-grown g c =
    let all = g.B.Bank.trees c.args.bank.now in
    let pairs = c.bind.ensures.pairs ∙ ap (λ (bs : List Bound). record { var = c.args.number; id = c.args.id } ∷ bs) c.in_ok-reserve.ensures.pairs in
    subst (λ (bs : List Bound). Grown all c.args.binds.now.pairs bs) (sym pairs)
    (Grown-bind all c.args.binds.now.pairs record { var = c.args.number; id = c.args.id } c.args.var c.requires.there c.requires.is c.requires.unbound)

pub returns-clause-outcome : goal.returns-clause-outcome
returns-clause-outcome g c = grind (arith, common_steps)
