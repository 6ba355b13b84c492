use Rattle.std.proofs.Common.{subst}
use Rattle.clause_form.specs.Seen.{clause_at}
use Rattle.clause_resolve.specs.declared.resolving.Resolved.{Resolved}
use Rattle.clause_resolve.specs.Answers.{IsAnswerOf, AreFoundLow}
use Rattle.attack_candidates.proofs.Keeping.{answer_fit}
use Rattle.attack_candidates.proofs.resolving.resolvents_of.Goals as goal

pub returns-in-Clauses-clause-fit : goal.returns-in-Clauses-clause-fit
returns-in-Clauses-clause-fit c =
    let all = c.resolvents.new.bank in
    let s = clause_at c.args.bank.now c.args.solved.now in
    let u = clause_at c.args.bank.now c.args.chosen.clause.now in
    answer_fit all s u c.in-Clauses.clauses (subst (λ (r : Resolved). IsAnswerOf all s u r) c.in-Clauses.is c.in_ok-clauses.ensures.answer)
    (subst (λ (r : Resolved). AreFoundLow all r) c.in-Clauses.is c.in_ok-clauses.ensures.low)
