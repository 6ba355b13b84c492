use Rattle.std.proofs.Common.{map, refl}
use Rattle.term_tree.proofs.BankLaws.{AreKnown-grows, Grows_trans}
use Rattle.clause_diffs.specs.Plain.{term_of}
use Rattle.clause_instances.proofs.Closes.{one_term, added_begins, added_on, added_ends, each_term}
use Rattle.clause_instances.proofs.closing.Closing.add_closed.Goals as goal

pub each-init : goal.each-init
each-init g c = added_begins one_term (g.B.Bank.trees c.args.bank.now) c.args.self.now c.args.made.now c.args.trees.now c.requires.known

pub add_one-requires-clause-terms : goal.add_one-requires-clause-terms
add_one-requires-clause-terms g c = AreKnown-grows (g.B.Bank.trees c.args.bank.now) (g.B.Bank.trees c.each.bank) c.args.self.now.terms c.each.invariant.grows c.requires.terms

pub returns-in_err-one-clause-grows : goal.returns-in_err-one-clause-grows
returns-in_err-one-clause-grows g c = Grows_trans (g.B.Bank.trees c.args.bank.now) (g.B.Bank.trees c.each.bank) (g.B.Bank.trees c.add_one.new.bank) c.each.invariant.grows c.add_one.ensures.grows

pub returns-clause-adds : goal.returns-clause-adds
returns-clause-adds g c =
    added_ends one_term (g.B.Bank.trees c.args.bank.now) (g.B.Bank.trees c.each.bank) c.args.self.now c.args.made.now c.each.made c.args.trees.now (map term_of c.args.trees.now) c.each.tree-index c.each.small c.each.invariant c.each-test.false (each_term c.args.trees.now)

pub each-preserved : goal.each-preserved
each-preserved g c =
    added_on one_term (g.B.Bank.trees c.args.bank.now) (g.B.Bank.trees c.each.bank) (g.B.Bank.trees c.add_one.new.bank) c.args.self.now c.args.made.now c.each.made c.add_one.new.made c.args.trees.now c.each.tree-index c.tree-item.result c.each.small c.in_ok-one.one _ c.each.invariant c.requires.terms c.each-test.true c.tree-item.is
    c.add_one.ensures.grows c.in_ok-one.ensures.known c.in_ok-one.ensures.adds refl
