use Rattle.std.proofs.Common.{◌≡◌, suc, sym, subst, arith}
use Rattle.spec_derivations.specs.Choice.{IsRight}
use Rattle.clause_form.specs.Seen.{clause_at}
use Rattle.cert_stages.proofs.choosing.is_right.Goals as goal

pub returns-in-None : goal.returns-in-None
returns-in-None g c =
    let seen = clause_at (g.B.Bank.trees c.args.bank.now) c.args.clause.now in
    let none : c.args.number ≡ 0 = omega (arith, c.in-None.ensures) in
    (λ t. subst (IsRight seen) (sym none) (c.can_rest.ensures.0 t), λ right. c.can_rest.ensures.1 (subst (IsRight seen) none right))

pub returns-in-Some : goal.returns-in-Some
returns-in-Some g c =
    let seen = clause_at (g.B.Bank.trees c.args.bank.now) c.args.clause.now in
    let next : c.args.number ≡ suc c.in-Some.at = omega (arith, c.in-Some.ensures) in
    (λ t. subst (IsRight seen) (sym next) (c.can_choose.ensures.0 t), λ right. c.can_choose.ensures.1 (subst (IsRight seen) next right))
