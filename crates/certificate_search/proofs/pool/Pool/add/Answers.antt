use Rattle.std.proofs.Common.{ap}
use Rattle.certificate_search.specs.declared.pool.Pool.TheInside.{Inside}
use Rattle.certificate_search.proofs.Fitting.{grown_fit, one_found}
use Rattle.certificate_search.proofs.pool.Pool.add.Goals as goal

pub invariant_of-self : goal.invariant_of-self
invariant_of-self c = grown_fit c.self.inside.bank _ c.fit_norm.new.bank _ c.self.inside.clauses (ap (λ (i : Inside). i.bank) c.self-inside.view_is) (ap (λ (i : Inside). i.clauses) c.self-inside.view_is) c.fit_norm.ensures.grows c.self.invariant

pub invariant_of-self-in-None : goal.invariant_of-self-in-None
invariant_of-self-in-None c = grown_fit c.self.inside.bank _ c.fit_norm.new.bank _ c.self.inside.clauses (ap (λ (i : Inside). i.bank) c.self-inside.view_is) (ap (λ (i : Inside). i.clauses) c.self-inside.view_is) c.fit_norm.ensures.grows c.self.invariant

pub invariant_of-self-in_err-push_fit-in-Some : goal.invariant_of-self-in_err-push_fit-in-Some
invariant_of-self-in_err-push_fit-in-Some c =
    let all = c.fit_norm.new.bank in
    c.push_fit.ensures all (grown_fit c.self.inside.bank _ c.fit_norm.new.bank _ c.self.inside.clauses (ap (λ (i : Inside). i.bank) c.self-inside.view_is) (ap (λ (i : Inside). i.clauses) c.self-inside.view_is) c.fit_norm.ensures.grows c.self.invariant)
    (one_found all c.in_ok-fit_norm.field-0 c.in-Some.clause c.in-Some.is c.in_ok-fit_norm.ensures.fit)

pub invariant_of-self-in-Some : goal.invariant_of-self-in-Some
invariant_of-self-in-Some c =
    let all = c.fit_norm.new.bank in
    c.push_fit.ensures all (grown_fit c.self.inside.bank _ c.fit_norm.new.bank _ c.self.inside.clauses (ap (λ (i : Inside). i.bank) c.self-inside.view_is) (ap (λ (i : Inside). i.clauses) c.self-inside.view_is) c.fit_norm.ensures.grows c.self.invariant)
    (one_found all c.in_ok-fit_norm.field-0 c.in-Some.clause c.in-Some.is c.in_ok-fit_norm.ensures.fit)
