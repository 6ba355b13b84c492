use Rattle.std.proofs.Common.{inl}
use Rattle.pi_tree.specs.Protocols.{protocol_of}
use Rattle.protocol_loading.proofs.Files.{of_file}
use Rattle.call_outcomes.specs.SeenOutcome.{outcome_of}
use Rattle.verifier_cli.specs.Replaying.{SpellsSteps, RunsOn}
use Rattle.verifier_cli.specs.RunReading.{IsNoRun}
use Rattle.verifier_cli.proofs.Files.{if_read}
use Rattle.verifier_cli.proofs.Replaying.{RunLaws, no_run_runs, replay_runs}
use Rattle.verifier_cli.proofs.replay.replay_run.Goals as goal

pub returns-in-Err-clause-shown : goal.returns-in-Err-clause-shown
returns-in-Err-clause-shown g c =
    let laws : RunLaws = record { one_run = c.one_run.ensures; one_refusal = c.one_refusal.ensures; never_both = c.never_both.ensures } in
    let P = protocol_of c.args.protocol.now in
    let outcome = outcome_of c.in-Err.outcome in
    if_read _ _ _ _ (λ bytes. IsNoRun bytes outcome) (λ bytes. RunsOn P bytes outcome) (λ bytes is. no_run_runs laws P bytes outcome is) c.in-Err.ensures.unread

pub returns-in-Ok-clause-shown : goal.returns-in-Ok-clause-shown
returns-in-Ok-clause-shown g c =
    let laws : RunLaws = record { one_run = c.one_run.ensures; one_refusal = c.one_refusal.ensures; never_both = c.never_both.ensures } in
    let P = protocol_of c.args.protocol.now in
    let steps = c.in-Ok.steps in
    let outcome = outcome_of c.replayed.result in
    inl (of_file _ _ _ (λ bytes. SpellsSteps bytes steps) (λ bytes. RunsOn P bytes outcome) (λ bytes s. replay_runs laws P bytes steps outcome c.replayed.ensures s) c.in-Ok.ensures.spelled)
