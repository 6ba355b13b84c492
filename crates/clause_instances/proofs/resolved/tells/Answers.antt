use Rattle.std.proofs.Common.{◌∙◌, is_some, ap}
use Rattle.spec_clauses.specs.Norm.{norm}
use Rattle.clause_form.specs.Seen.{clause_at}
use Rattle.clause_instances.proofs.Owning.{says_nothing, says_something}
use Rattle.clause_instances.proofs.resolved.tells.Goals as goal

pub returns-in-Tautology-clause-tells : goal.returns-in-Tautology-clause-tells
returns-in-Tautology-clause-tells c =
    says_nothing c.norm.new.bank c.in_ok-norm.field-0 (norm (clause_at c.args.bank.now c.in_ok-copied.copied)) c.in-Tautology.is c.in_ok-norm.ensures.names ∙ ap (λ k. is_some (norm (clause_at c.args.bank.now k))) c.in_ok-copied.ensures

pub returns-in-Clause-clause-tells : goal.returns-in-Clause-clause-tells
returns-in-Clause-clause-tells c =
    says_something c.norm.new.bank c.in_ok-norm.field-0 c.in-Clause.normal (norm (clause_at c.args.bank.now c.in_ok-copied.copied)) c.in-Clause.is c.in_ok-norm.ensures.names ∙ ap (λ k. is_some (norm (clause_at c.args.bank.now k))) c.in_ok-copied.ensures
