use Rattle.std.proofs.Common.{List}
use Rattle.term_tree.specs.Bank.{Grows}
use Rattle.pi_tree.specs.Protocols.{protocol_of}
use Rattle.clause_instances.specs.Instances.{NameInstances, AreKnownInstances}
use Rattle.spec_attack_runs.specs.Source.{Source}
use Rattle.attack_state.specs.States.{IsRun}
use Rattle.hx.proofs.Placed.{PhasesPlaced}
use Rattle.hx.proofs.stopping.stopped_of.Given as goal

abbrev pub invariant-each : goal.invariant-each
invariant-each l = record {
  run : IsRun (protocol_of l.compilation.protocol.now) l.progress.state;
  grows : Grows l.fn.bank l.bank;
  known : AreKnownInstances l.bank l.compilation.instances.now;
  so_far : (all : List Source) → NameInstances l.fn.bank l.compilation.sources.now l.compilation.instances.now all
      → PhasesPlaced (protocol_of l.compilation.protocol.now) all l.bank l.phase l.progress.compiled.items l.progress.state;
}
