use Rattle.clause_form.proofs.Walks.{known_at}
use Rattle.multiset_subsume.proofs.linking.meet_all_variables.Goals as goal

pub meet_variables-requires : goal.meet_variables-requires
meet_variables-requires g c = known_at (g.B.Bank.trees c.args.bank.now) c.args.terms.now c.each.term-index record { index = 0 } c.requires c.each-test.true
