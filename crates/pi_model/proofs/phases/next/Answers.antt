use Rattle.std.proofs.Common.{◌≡◌, ◌<◌, ◌^◌, ◌++◌, ◌∙◌, map, length, ap, subst, sym}
use Rattle.spec_calculus.specs.Points.{nodes, greatest_phase}
use Rattle.pi_tree.specs.Processes.{process_of}
use Rattle.pi_tree.specs.Protocols.{protocol_of}
use Rattle.pi_configurations.specs.Configurations.{configuration_of}
use Rattle.pi_configurations.specs.Moves.{awaited}
use Rattle.pi_model.proofs.NextPhase.{next-possible}
use Rattle.pi_model.proofs.phases.next.Goals as goal

pub returns-clause-possible : goal.returns-clause-possible
returns-clause-possible c =
    let run = c.args.run.now in
    let listed = map awaited (nodes (process_of run.protocol.now.main)) in
    let all : c.list_awaited.new.phases.items ≡ listed = c.in_ok-list_awaited.ensures ∙ ap (λ before. before ++ listed) c.new-phases.ensures.items in
    let later : run.conf.now.phase < greatest_phase (process_of run.protocol.now.main) = subst (λ n. run.conf.now.phase < n) c.greatest_phase.ensures c.if-run-greatest_phase.false in
    next-possible (protocol_of run.protocol.now) (configuration_of run.conf.now) c.list_awaited.new.phases.items all run.points later
