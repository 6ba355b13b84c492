use Rattle.std.proofs.Common.{◌≡◌}
use Rattle.spec_attack_runs.specs.Gathered.{deeds_after}
use Rattle.pi_tree.specs.Protocols.{protocol_of}
use Rattle.clause_sources.specs.Listed.{Tells}
use Rattle.attacker_sources.proofs.phases.add_later_phases.Given as goal

abbrev pub invariant-each : goal.invariant-each
invariant-each g l = record {
  bank : g.B.Bank.trees l.bank ≡ g.B.Bank.trees l.fn.bank;
  tells : Tells l.fn.sources l.sources (deeds_after (protocol_of l.protocol) 0 l.phase);
}
