use Rattle.term_tree.specs.Bank.{AreKnown, Grows}
use Rattle.instance_merging.proofs.opening.+formed.Given as goal

abbrev pub invariant-each : goal.invariant-each
invariant-each l = record {
  grows : Grows l.fn.bank l.bank;
  known : AreKnown l.bank l.ids.items;
}
