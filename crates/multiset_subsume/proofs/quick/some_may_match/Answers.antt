use Rattle.std.proofs.Common.{◌≡◌, ◌≤◌, Some, map, length, arith, refl}
use Rattle.std.specs.Prelude.{slice_get}
use borrow.Author.Count.{below_more}
use Rattle.spec_terms.specs.Term.{Subst}
use Rattle.spec_clauses.specs.Fact.{fact_under}
use Rattle.clause_form.specs.Facts.{fact_of}
use Rattle.clause_form.specs.Seen.{fact_at}
use Rattle.clause_form.proofs.Walks.{fact_known_at}
use Rattle.fact_placing.specs.Boards.{facts_at}
use Rattle.fact_placing.proofs.Putting.{there_at, same_there, length_at}
use Rattle.multiset_subsume.proofs.Refuting.{nowhere}
use Rattle.multiset_subsume.proofs.quick.some_may_match.Goals as goal

pub may_match-requires-clause-special : goal.may_match-requires-clause-special
may_match-requires-clause-special g c = fact_known_at (g.B.Bank.trees c.args.bank.now) c.args.hyps.now c.each.hyp-index c.hyp-item.result c.hyp-item.is c.requires.hyps c.each-test.true

pub each-preserved : goal.each-preserved
each-preserved g c =
    let all = g.B.Bank.trees c.args.bank.now in
    let H = facts_at all (map fact_of c.args.hyps.now) in
    let F = fact_at all (fact_of c.args.fact.now) in
    let at = there_at all c.args.hyps.now c.each.hyp-index c.hyp-item.result c.hyp-item.is c.each-test.true in
    let here : (s : Subst) → slice_get H c.each.hyp-index ≡ Some (fact_under s F) → ⊥ = λ s stands. c.if-may_match.ensures refl s (same_there H c.each.hyp-index (fact_under s F) (fact_at all (fact_of c.hyp-item.result)) stands at) in
    below_more (λ q. (s : Subst) → slice_get H q ≡ Some (fact_under s F) → ⊥) c.each.hyp-index c.each.invariant here

pub returns : goal.returns
returns g c = λ e.
    let all = g.B.Bank.trees c.args.bank.now in
    let past : length (facts_at all (map fact_of c.args.hyps.now)) ≤ c.each.hyp-index = omega (arith, length_at all c.args.hyps.now, c.each-test.false) in
    nowhere all (fact_of c.args.fact.now) (map fact_of c.args.hyps.now) c.each.hyp-index past c.each.invariant
