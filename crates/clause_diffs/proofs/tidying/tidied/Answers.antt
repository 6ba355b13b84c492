use Rattle.term_tree.proofs.BankLaws.{Grows_trans}
use Rattle.std.proofs.Common.{length}
use Rattle.clause_diffs.proofs.Adding.{known_now, own_now, numbered_on, numbered_all, numbered_none, start_none}
use Rattle.clause_diffs.proofs.tidying.tidied.Goals as goal

pub each-init : goal.each-init
each-init g c = record {
  done = numbered_none (g.B.Bank.trees c.args.bank.now) c.args.order.now c.args.diffs.now c.new-made.result c.new-made.ensures;
  first = start_none (length c.args.order.now) c.new-made.result c.new-made.ensures;
}

pub add_numbered-requires-clause-known : goal.add_numbered-requires-clause-known
add_numbered-requires-clause-known g c =
    known_now (g.B.Bank.trees c.args.bank.now) (g.B.Bank.trees c.each.bank) c.args.order.now c.args.diffs.now c.each.diff-index c.diff-item.result c.requires.known c.each.invariant.done.grows c.each-test.true c.diff-item.is

pub add_numbered-requires-clause-own : goal.add_numbered-requires-clause-own
add_numbered-requires-clause-own g c =
    own_now (g.B.Bank.trees c.args.bank.now) (g.B.Bank.trees c.each.bank) c.args.order.now c.args.diffs.now c.each.diff-index c.diff-item.result c.requires.known c.each.invariant.done.grows c.each-test.true c.diff-item.is c.requires.own

pub each-preserved : goal.each-preserved
each-preserved g c = record {
  done = numbered_on (g.B.Bank.trees c.args.bank.now) (g.B.Bank.trees c.each.bank) c.args.order.now c.args.diffs.now c.each.diff-index c.diff-item.result c.requires.known c.each.invariant.done.grows c.each-test.true c.diff-item.is
      (g.B.Bank.trees c.add_numbered.new.bank) c.each.made c.add_numbered.new.made c.each.invariant.done c.add_numbered.ensures.grows c.in_ok-add_numbered.ensures.names;
  first = c.in_ok-add_numbered.ensures.first c.each.invariant.first;
}

pub returns-in_err-add_numbered-clause-grows : goal.returns-in_err-add_numbered-clause-grows
returns-in_err-add_numbered-clause-grows g c = Grows_trans (g.B.Bank.trees c.args.bank.now) (g.B.Bank.trees c.each.bank) (g.B.Bank.trees c.add_numbered.new.bank) c.each.invariant.done.grows c.add_numbered.ensures.grows

pub returns-clause-names : goal.returns-clause-names
returns-clause-names g c = numbered_all (g.B.Bank.trees c.args.bank.now) (g.B.Bank.trees c.each.bank) c.args.order.now c.args.diffs.now c.each.diff-index c.each.made c.each.invariant.done c.each-test.false

pub returns-clause-first : goal.returns-clause-first
returns-clause-first g c = c.each.invariant.first
