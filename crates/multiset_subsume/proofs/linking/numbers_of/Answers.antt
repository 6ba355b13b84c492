use Rattle.fact_placing.proofs.Putting.{known_ref}
use Rattle.multiset_subsume.proofs.linking.numbers_of.Goals as goal

pub meet_fact-requires : goal.meet_fact-requires
meet_fact-requires g c = known_ref (g.B.Bank.trees c.args.board.now.bank.now) c.args.facts.now c.each.i c.index-facts-i.result c.index-facts-i.is c.requires c.each-test.true
