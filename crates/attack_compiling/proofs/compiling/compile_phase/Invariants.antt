use Rattle.std.proofs.Common.{List, drop}
use Rattle.term_tree.specs.Bank.{Grows}
use Rattle.pi_tree.specs.Protocols.{protocol_of}
use Rattle.clause_instances.specs.Instances.{NameInstances, AreKnownInstances}
use Rattle.spec_attack_runs.specs.Source.{Source}
use Rattle.spec_attack_runs.specs.Compiling.{State}
use Rattle.attack_state.specs.States.{IsRun, IsState}
use Rattle.attack_compiling.proofs.SoFar.{CompiledSoFar}
use Rattle.attack_compiling.proofs.compiling.compile_phase.Given as goal

abbrev pub invariant-each : goal.invariant-each
invariant-each l = record {
  run : IsRun (protocol_of l.compilation.protocol.now) l.state;
  grows : Grows l.fn.bank l.bank;
  known : AreKnownInstances l.bank l.compilation.instances.now;
  so_far : (st : State) (all : List Source) → IsState l.fn.bank l.fn.state st → NameInstances l.fn.bank l.compilation.sources.now l.compilation.instances.now all
      → CompiledSoFar (protocol_of l.compilation.protocol.now) l.bank l.phase all (drop l.instance-index all) st l.state;
}
