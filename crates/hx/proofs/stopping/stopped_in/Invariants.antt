use Rattle.std.proofs.Common.{List, drop}
use Rattle.term_tree.specs.Bank.{Grows}
use Rattle.pi_tree.specs.Protocols.{protocol_of}
use Rattle.clause_instances.specs.Instances.{NameInstances, AreKnownInstances}
use Rattle.spec_attack_runs.specs.Source.{Source}
use Rattle.spec_attack_runs.specs.Compiling.{State}
use Rattle.attack_state.specs.States.{IsRun, IsState}
use Rattle.hx.proofs.Placed.{PlacedSoFar}
use Rattle.hx.proofs.stopping.stopped_in.Given as goal

abbrev pub invariant-each : goal.invariant-each
invariant-each l = record {
  run : IsRun (protocol_of l.compilation.protocol.now) l.progress.state;
  grows : Grows l.fn.bank l.bank;
  known : AreKnownInstances l.bank l.compilation.instances.now;
  so_far : (st : State) (all : List Source) → IsState l.fn.bank l.fn.progress.state st → NameInstances l.fn.bank l.compilation.sources.now l.compilation.instances.now all
      → PlacedSoFar (protocol_of l.compilation.protocol.now) l.phase all (drop l.index all) l.bank st l.fn.progress.compiled.items l.progress.compiled.items l.progress.state;
}
