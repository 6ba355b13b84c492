use Rattle.std.proofs.Common.{List}
use Rattle.term_tree.specs.Bank.{Grows}
use Rattle.spec_saturation.specs.Key.{Entry}
use Rattle.log_entries.specs.PlainLogs.{TellPlainLog}
use Rattle.clause_instances.specs.Instances.{AreKnownInstances, ArePendingIn}
use Rattle.clause_instances.proofs.Stacks.{IsSoFar, IsCounted}
use Rattle.clause_instances.proofs.expansion.told_of.Given as goal

abbrev pub invariant-each : goal.invariant-each
invariant-each l = record {
  grows : Grows l.fn.bank l.bank;
  known : ArePendingIn l.bank l.progress.stack.items;
  told : AreKnownInstances l.bank l.progress.told.items;
  so_far : (log : List Entry) → TellPlainLog l.derivation.log.now log → IsSoFar l.bank l.derivation.sources.now log l.number l.progress.told.items l.progress.stack.items l.expansion.next;
  counted : IsCounted l._turn l.progress.told.items l.progress.stack.items;
}
