use Rattle.std.proofs.Common.{map, refl}
use Rattle.clause_form.specs.Facts.{fact_of}
use Rattle.clause_form.proofs.Walks.{fact_known_at}
use Rattle.multiset_subsume.proofs.Refuting.{cannot_all}
use Rattle.multiset_subsume.proofs.quick.all_may_stand.Goals as goal

pub may_stand-requires-clause-fact : goal.may_stand-requires-clause-fact
may_stand-requires-clause-fact g c = fact_known_at (g.B.Bank.trees c.args.bank.now) c.args.facts.now c.each.fact-index c.fact-item.result c.fact-item.is c.requires.facts c.each-test.true

pub returns-then-not-may_stand : goal.returns-then-not-may_stand
returns-then-not-may_stand g c = λ e. cannot_all (g.B.Bank.trees c.args.bank.now) c.args.facts.now (map fact_of c.args.hyps.now) c.each.fact-index c.fact-item.result c.each-test.true c.fact-item.is (c.if-not-may_stand.ensures.firm refl) (c.if-not-may_stand.ensures.nowhere refl)
