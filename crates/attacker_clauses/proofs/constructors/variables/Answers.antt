use Rattle.term_tree.proofs.BankLaws.{Grows_trans}
use Rattle.attacker_clauses.proofs.Raws.{variables_on}
use Rattle.attacker_clauses.proofs.constructors.variables.Goals as goal

pub loop-number-preserved : goal.loop-number-preserved
loop-number-preserved g c = record {
  grows = Grows_trans (g.B.Bank.trees c.args.bank.now) (g.B.Bank.trees c.loop-number.bank) (g.B.Bank.trees c.var.new.self) c.loop-number.invariant.grows c.var.ensures.grows;
  names = variables_on (g.B.Bank.trees c.loop-number.bank) (g.B.Bank.trees c.var.new.self) c.loop-number.items.items c.push.new.self.items c.loop-number.number c.in_ok-variable.variable
      c.loop-number.invariant.names c.var.ensures.grows c.in_ok-variable.ensures.names c.in_ok-push.ensures.items;
}

pub returns-in_err-variable-clause-grows : goal.returns-in_err-variable-clause-grows
returns-in_err-variable-clause-grows g c = Grows_trans (g.B.Bank.trees c.args.bank.now) (g.B.Bank.trees c.loop-number.bank) (g.B.Bank.trees c.var.new.self) c.loop-number.invariant.grows c.var.ensures.grows

pub returns-in_err-push-clause-grows : goal.returns-in_err-push-clause-grows
returns-in_err-push-clause-grows g c = Grows_trans (g.B.Bank.trees c.args.bank.now) (g.B.Bank.trees c.loop-number.bank) (g.B.Bank.trees c.var.new.self) c.loop-number.invariant.grows c.var.ensures.grows
