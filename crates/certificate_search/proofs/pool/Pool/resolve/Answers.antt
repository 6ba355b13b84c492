use Rattle.clause_form.proofs.Fit.{AreFit-grow}
use Rattle.certificate_search.proofs.Fitting.{clauses_found}
use Rattle.certificate_search.proofs.pool.Pool.resolve.Goals as goal

pub invariant_of-self : goal.invariant_of-self
invariant_of-self c = AreFit-grow c.self.inside.bank c.resolved.new.bank c.self.inside.clauses c.resolved.ensures.grows c.self.invariant

pub invariant_of-self-in-NoUnifier : goal.invariant_of-self-in-NoUnifier
invariant_of-self-in-NoUnifier c = AreFit-grow c.self.inside.bank c.resolved.new.bank c.self.inside.clauses c.resolved.ensures.grows c.self.invariant

pub invariant_of-self-in-Large : goal.invariant_of-self-in-Large
invariant_of-self-in-Large c = AreFit-grow c.self.inside.bank c.resolved.new.bank c.self.inside.clauses c.resolved.ensures.grows c.self.invariant

pub invariant_of-self-in_err-append_fit-in-Clauses : goal.invariant_of-self-in_err-append_fit-in-Clauses
invariant_of-self-in_err-append_fit-in-Clauses c =
    let all = c.resolved.new.bank in
    c.append_fit.ensures all (AreFit-grow c.self.inside.bank c.resolved.new.bank c.self.inside.clauses c.resolved.ensures.grows c.self.invariant)
    (clauses_found all c.in_ok-resolved.field-0 c.in-Clauses.made c.in-Clauses.is c.in_ok-resolved.ensures.fit)

pub invariant_of-self-in-Clauses : goal.invariant_of-self-in-Clauses
invariant_of-self-in-Clauses c =
    let all = c.resolved.new.bank in
    c.append_fit.ensures all (AreFit-grow c.self.inside.bank c.resolved.new.bank c.self.inside.clauses c.resolved.ensures.grows c.self.invariant)
    (clauses_found all c.in_ok-resolved.field-0 c.in-Clauses.made c.in-Clauses.is c.in_ok-resolved.ensures.fit)
