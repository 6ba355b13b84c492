use Rattle.node_table.proofs.Entering.{IsEntered}
use Rattle.node_table.proofs.table.+enter.Given as goal

abbrev pub invariant-each : goal.invariant-each
invariant-each l = IsEntered l.fn.bank l.bank l.ids.items l.argument-items l.argument-index
