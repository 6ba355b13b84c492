use Rattle.std.proofs.Common.{List}
use Rattle.term_tree.specs.Bank.{Grows}
use Rattle.pi_tree.specs.Protocols.{protocol_of}
use Rattle.clause_instances.specs.Instances.{NameInstances, AreKnownInstances}
use Rattle.spec_attack_runs.specs.Source.{Source}
use Rattle.spec_attack_runs.specs.Compiling.{start_state}
use Rattle.attack_state.specs.States.{IsRun}
use Rattle.attack_compiling.proofs.SoFar.{PhasesSoFar}
use Rattle.attack_compiling.proofs.compiling.compiled.Given as goal

abbrev pub invariant-each : goal.invariant-each
invariant-each l = record {
  run : IsRun (protocol_of l.compilation.protocol.now) l.state;
  grows : Grows l.fn.bank l.bank;
  known : AreKnownInstances l.bank l.compilation.instances.now;
  so_far : (all : List Source) → NameInstances l.fn.bank l.compilation.sources.now l.compilation.instances.now all
      → PhasesSoFar (protocol_of l.compilation.protocol.now) l.bank l.phase all (start_state (protocol_of l.compilation.protocol.now)) l.state;
}
