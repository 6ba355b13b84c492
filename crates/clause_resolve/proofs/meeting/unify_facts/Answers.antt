use Rattle.std.proofs.Common.{◌≡◌, ◌∙◌, sym, ap, rules, arith}
use Rattle.std.proofs.lemmas.Grind.{common_steps}
use Rattle.spec_clauses.specs.Fact.{terms_of}
use Rattle.spec_clauses.specs.Head.{head_of}
use Rattle.clause_form.specs.Facts.{fact_of}
use Rattle.clause_form.specs.Heads.{head_seen}
use Rattle.clause_resolve.proofs.ByParts.{terms_tell}
use Rattle.clause_resolve.proofs.meeting.unify_facts.Goals as goal

pub returns-clause-outcome : goal.returns-clause-outcome
returns-clause-outcome g c =
    let all = g.B.Bank.trees c.args.bank.now in
    let lefts : c.as_slice.result.now ≡ terms_of (fact_of c.args.left.now) = c.as_slice.ensures ∙ c.terms-lefts.ensures in
    let rights : c.as_slice-2.result.now ≡ terms_of (fact_of c.args.right.now) = c.as_slice-2.ensures ∙ c.terms-rights.ensures in
    let same : c.head.result ≡ c.head-2.result = search rules in
    let heads : head_of (fact_of c.args.left.now) ≡ head_of (fact_of c.args.right.now) = sym c.head.ensures ∙ (ap head_seen same ∙ c.head-2.ensures) in
    terms_tell all (fact_of c.args.left.now) (fact_of c.args.right.now) _ _ _ _ lefts rights heads c.unify_lists.ensures.outcome

pub unify_lists-requires-clause-lefts : goal.unify_lists-requires-clause-lefts
unify_lists-requires-clause-lefts g c = grind (arith, common_steps)
