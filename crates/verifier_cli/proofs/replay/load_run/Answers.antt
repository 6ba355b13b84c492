-- Steps are no more than the bytes that spell them.
use Rattle.std.proofs.Common.{◌≤◌, ℕ, List, length, inl, sym, ap, subst, arith}
use Rattle.spec_calculus.specs.Bounds.{most_run_bytes}
use Rattle.spec_run_text.specs.Text.{SpellsRun}
use Rattle.protocol_loading.specs.Outside.{outside}
use Rattle.protocol_loading.proofs.Files.{of_all}
use Rattle.run_replay.specs.Answer.{IsRefusalOf}
use Rattle.call_outcomes.specs.Outcome.{Outcome}
use Rattle.verifier_cli.specs.Replaying.{SpellsSteps}
use Rattle.verifier_cli.specs.RunReading.{run_not_read, IsNoRun, IsUnreadRun}
use Rattle.verifier_cli.proofs.Files.{no_run}
use Rattle.verifier_cli.proofs.Replaying.{fault_no_run}
use Rattle.verifier_cli.proofs.replay.load_run.Goals as goal

pub returns-in-Ok-read_run-clause-few : goal.returns-in-Ok-read_run-clause-few
returns-in-Ok-read_run-clause-few g c =
    let few = c.few_steps.ensures c.deref.result.now _ c.in-Ok-read_run.ensures.read in
    let same = ap (λ (bytes : List ℕ). length bytes) c.deref.ensures.value in
    omega (arith, few, same, c.in-Ok.ensures.within)

pub returns-in-Ok-read_run-clause-spelled : goal.returns-in-Ok-read_run-clause-spelled
returns-in-Ok-read_run-clause-spelled g c =
    let steps = c.in-Ok-read_run.steps in
    let same = ap (λ (bytes : List ℕ). length bytes) c.deref.ensures.value in
    let fits : length c.in-Ok.bytes.items ≤ most_run_bytes = omega (arith, c.in-Ok.ensures.within, c.deref.ensures.len, same) in
    of_all _ _ _ (λ bytes. SpellsSteps bytes steps) c.in-Ok.bytes.items (fits, subst (λ (bytes : List ℕ). SpellsRun bytes steps) c.deref.ensures.value c.in-Ok-read_run.ensures.read) c.in-Ok.ensures.loaded

pub returns-in-Err-clause-unread : goal.returns-in-Err-clause-unread
returns-in-Err-clause-unread g c =
    let files = outside g.F.Files.held g.F.Files.faults g.F.Files.loads c.args.files.now c.load_text.new.files in
    subst (λ (outcome : Outcome). IsUnreadRun files c.args.run.now outcome) (sym c.run_not_loaded.ensures) (no_run files c.args.run.now _ c.in-Err.ensures.unloaded)

pub returns-clause-unread : goal.returns-clause-unread
returns-clause-unread g c =
    let bytes = c.in-Ok.bytes.items in
    let error = c.in-Err-read_run.error in
    let files = outside g.F.Files.held g.F.Files.faults g.F.Files.loads c.args.files.now c.load_text.new.files in
    let same = ap (λ (all : List ℕ). length all) c.deref.ensures.value in
    let fits : length bytes ≤ most_run_bytes = omega (arith, c.in-Ok.ensures.within, c.deref.ensures.len, same) in
    let refused : IsRefusalOf bytes error = subst (λ (all : List ℕ). IsRefusalOf all error) c.deref.ensures.value c.in-Err-read_run.ensures.refused in
    subst (λ (outcome : Outcome). IsUnreadRun files c.args.run.now outcome) (sym c.run_not_read.ensures)
    (inl (of_all _ _ _ (λ all. IsNoRun all (run_not_read error)) bytes (fault_no_run bytes error fits refused) c.in-Ok.ensures.loaded))
