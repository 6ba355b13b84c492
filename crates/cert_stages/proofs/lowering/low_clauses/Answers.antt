use Rattle.term_tree.proofs.BankLaws.{Grows_trans}
use Rattle.cert_stages.proofs.Lowered.{normal_at, IsNormalIn-grows, lowering_begins, lowered_on, lowering_ends}
use Rattle.cert_stages.proofs.lowering.low_clauses.Goals as goal

pub each-init : goal.each-init
each-init g c = lowering_begins (g.B.Bank.trees c.args.bank.now) _ c.args.clauses.now c.new-items.ensures.items

pub low_clause-requires-clause-known : goal.low_clause-requires-clause-known
low_clause-requires-clause-known g c =
    let old = g.B.Bank.trees c.args.bank.now in
    (IsNormalIn-grows old (g.B.Bank.trees c.each.bank) c.clause-item.result c.each.invariant.grows (normal_at old c.args.clauses.now c.each.clause-index c.clause-item.result c.clause-item.is c.requires c.each-test.true)).known

pub low_clause-requires-clause-normal : goal.low_clause-requires-clause-normal
low_clause-requires-clause-normal g c =
    let old = g.B.Bank.trees c.args.bank.now in
    (IsNormalIn-grows old (g.B.Bank.trees c.each.bank) c.clause-item.result c.each.invariant.grows (normal_at old c.args.clauses.now c.each.clause-index c.clause-item.result c.clause-item.is c.requires c.each-test.true)).normal

pub each-preserved : goal.each-preserved
each-preserved g c =
    let old = g.B.Bank.trees c.args.bank.now in
    lowered_on old (g.B.Bank.trees c.each.bank) (g.B.Bank.trees c.low_clause.new.bank) c.each.items.items c.push.new.self.items c.args.clauses.now c.each.clause-index c.clause-item.result c.in_ok-made.made c.each.invariant
    c.clause-item.is c.each-test.true (normal_at old c.args.clauses.now c.each.clause-index c.clause-item.result c.clause-item.is c.requires c.each-test.true) c.low_clause.ensures.grows c.in_ok-made.ensures.names c.in_ok-made.ensures.low c.in_ok-push.ensures.items

pub returns-clause-names : goal.returns-clause-names
returns-clause-names g c = lowering_ends (g.B.Bank.trees c.args.bank.now) (g.B.Bank.trees c.each.bank) c.each.items.items c.args.clauses.now c.each.clause-index c.each-test.false c.each.invariant

pub returns-clause-low : goal.returns-clause-low
returns-clause-low g c = c.each.invariant.low

pub returns-in_err-made-clause-grows : goal.returns-in_err-made-clause-grows
returns-in_err-made-clause-grows g c = Grows_trans (g.B.Bank.trees c.args.bank.now) (g.B.Bank.trees c.each.bank) (g.B.Bank.trees c.low_clause.new.bank) c.each.invariant.grows c.low_clause.ensures.grows

pub returns-in_err-push-clause-grows : goal.returns-in_err-push-clause-grows
returns-in_err-push-clause-grows g c = Grows_trans (g.B.Bank.trees c.args.bank.now) (g.B.Bank.trees c.each.bank) (g.B.Bank.trees c.low_clause.new.bank) c.each.invariant.grows c.low_clause.ensures.grows
