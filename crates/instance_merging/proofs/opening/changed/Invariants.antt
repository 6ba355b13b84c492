use Rattle.term_tree.specs.Bank.{Grows}
use Rattle.clause_instances.specs.Instances.{AreKnownInstances}
use Rattle.instance_merging.proofs.opening.changed.Given as goal

abbrev pub invariant-each : goal.invariant-each
invariant-each l = record {
  grows : Grows l.fn.bank l.bank;
  known : AreKnownInstances l.bank l.items.items;
}
