-- From the text of a run to what is said of its replay.
use Rattle.std.proofs.Common.{◌≡◌, false, ℕ, ◌≤◌, List, length, inl, inr, refl, sym, ap, subst, ◌∙◌, arith}
use Rattle.spec_calculus.specs.Bounds.{most_run_bytes}
use Rattle.spec_calculus.specs.Syntax as syntax
use Rattle.spec_calculus.specs.Runs.{Step}
use Rattle.spec_protocol_scope.specs.Spells.{Spells}
use Rattle.spec_run_text.specs.Faults.{Fault}
use Rattle.spec_run_text.specs.Text.{SpellsRun, IsRefused}
use Rattle.hv_io.specs.Faults.{IsFaultCounted}
use Rattle.protocol_loading.specs.Outside.{Outside}
use Rattle.run_replay.specs.declared.error.RunError.{RunError}
use Rattle.run_replay.specs.declared.error.RunError.TheVariants as error
use Rattle.run_replay.specs.Answer as text
use Rattle.call_outcomes.specs.Outcome.{RunRefusal, Faulty, LongRun, Refusal, Protocol, Report, Run, Outcome, Replayed, Refused, ReadFault, Memory}
use Rattle.call_outcomes.specs.Text.{prints_clauses}
use Rattle.verifier_cli.specs.Command.{IsRefusalOf}
use Rattle.verifier_cli.specs.Unread.{IfRead}
use Rattle.verifier_cli.specs.Replaying.{SpellsSteps, RefusesRun, IsOutcomeOfReplay, IsOutcomeOfRun, RunsOn, IsReplayOutcome, Replays}
use Rattle.verifier_cli.specs.RunReading.{IsNoRun, run_not_read}
use Rattle.verifier_cli.proofs.Verifying.{Laws, same_refusal}

-- the laws of the texts of runs
pub record RunLaws : Type 0 where
  pub one_run : (bytes : List ℕ) (xs ys : List Step) → SpellsRun bytes xs → SpellsRun bytes ys → xs ≡ ys
  pub one_refusal : (bytes : List ℕ) (f g : Fault) (i j : ℕ) → IsRefused bytes f i → IsRefused bytes g j → (f ≡ g) × (i ≡ j)
  pub never_both : (bytes : List ℕ) (steps : List Step) (fault : Fault) (number : ℕ) → SpellsRun bytes steps → IsRefused bytes fault number → ⊥

not_both : RunLaws → (bytes : List ℕ) (steps : List Step) (why : RunRefusal) (line : ℕ) → SpellsSteps bytes steps → RefusesRun bytes why line → ⊥
not_both laws bytes steps (Faulty fault) line s r = laws.never_both bytes steps fault line s.1 r.1
not_both laws bytes steps LongRun line s r = omega (arith, s.0, r.0)

one_reason : RunLaws → (bytes : List ℕ) (r s : RunRefusal) (i j : ℕ) → RefusesRun bytes r i → RefusesRun bytes s j → (r ≡ s) × (i ≡ j)
one_reason laws bytes (Faulty f) (Faulty g) i j a b = let e = laws.one_refusal bytes f g i j a.1 b.1 in (ap Faulty e.0, e.1)
one_reason laws bytes (Faulty f) LongRun i j a b = absurd (omega (arith, a.0, b.0))
one_reason laws bytes LongRun (Faulty g) i j a b = absurd (omega (arith, a.0, b.0))
one_reason laws bytes LongRun LongRun i j a b = (refl, a.1 ∙ sym b.1)

same_run_refusal : (r s : RunRefusal) (i j : ℕ) → (r ≡ s) × (i ≡ j) → Run i r ≡ Run j s
same_run_refusal r s i j (e, h) = ap (λ (why : RunRefusal). Run i why) e ∙ ap (λ (line : ℕ). Run line s) h

-- what is said of the replay of the steps that a text spells
replay_answers : (P : syntax.Protocol) (bytes : List ℕ) (steps : List Step) (outcome : Outcome) → IsOutcomeOfReplay P steps outcome → SpellsSteps bytes steps → IsOutcomeOfRun P bytes outcome
replay_answers P bytes steps (Replayed replay) shown spelled = (steps, spelled, shown)
replay_answers P bytes steps Memory shown spelled = tt
replay_answers P bytes steps _ shown spelled = absurd shown

pub replay_runs : RunLaws → (P : syntax.Protocol) (bytes : List ℕ) (steps : List Step) (outcome : Outcome) → IsOutcomeOfReplay P steps outcome → SpellsSteps bytes steps → RunsOn P bytes outcome
replay_runs laws P bytes steps outcome shown spelled = record {
  answers = replay_answers P bytes steps outcome shown spelled;
  accepts = λ others s. subst (λ (xs : List Step). IsOutcomeOfReplay P xs outcome) (laws.one_run bytes steps others spelled.1 s.1) shown;
  refuses = λ why line r. absurd (not_both laws bytes steps why line spelled r);
}

-- of a refused text
refusal_runs : RunLaws → (P : syntax.Protocol) (bytes : List ℕ) (why : RunRefusal) (line : ℕ) → RefusesRun bytes why line → RunsOn P bytes (Refused (Run line why))
refusal_runs laws P bytes why line refused = record {
  answers = refused;
  accepts = λ steps s. absurd (not_both laws bytes steps why line s refused);
  refuses = λ other at r. inl (ap Refused (same_run_refusal why other line at (one_reason laws bytes why other line at refused r)));
}

-- and of want of memory
memory_runs : (P : syntax.Protocol) (bytes : List ℕ) → RunsOn P bytes Memory
memory_runs P bytes = record { answers = tt; accepts = λ steps s. tt; refuses = λ why line r. inr refl }

-- a call without a run
pub no_run_runs : RunLaws → (P : syntax.Protocol) (bytes : List ℕ) (outcome : Outcome) → IsNoRun bytes outcome → RunsOn P bytes outcome
no_run_runs laws P bytes (Refused (Run line why)) is = refusal_runs laws P bytes why line is
no_run_runs laws P bytes (Refused (Protocol line column why)) is = absurd is
no_run_runs laws P bytes (Refused (Report line why)) is = absurd is
no_run_runs laws P bytes Memory is = memory_runs P bytes
no_run_runs laws P bytes _ is = absurd is

-- a run with a fault is refused, at its line
pub fault_no_run : (bytes : List ℕ) (e : RunError) → length bytes ≤ most_run_bytes → text.IsRefusalOf bytes e → IsNoRun bytes (run_not_read e)
fault_no_run bytes (error.Word line) fits refused = (fits, refused)
fault_no_run bytes (error.Number line) fits refused = (fits, refused)
fault_no_run bytes (error.LongLine line) fits refused = (fits, refused)
fault_no_run bytes (error.Memory m) fits refused = tt

-- what is said of a protocol's file where it is refused
refusal_outcome : (bytes : List ℕ) (refusal : Refusal) → IsRefusalOf bytes refusal → IsReplayOutcome bytes (Refused refusal)
refusal_outcome bytes (Protocol line column why) is = is
refusal_outcome bytes (Report line why) is = let e = is.shown in cc
refusal_outcome bytes (Run line why) is = let e = is.shown in cc

pub refusal_replays : Laws → (bytes text : List ℕ) (refusal : Refusal) → IsRefusalOf bytes refusal → Replays bytes text (Refused refusal)
refusal_replays laws bytes text refusal is = record {
  answers = refusal_outcome bytes refusal is;
  accepts = λ P spells. absurd (laws.never_both bytes P is.why is.place spells is.refused);
  refuses = λ why place refused. inl (ap Refused (is.shown ∙ same_refusal bytes is.why why is.place place (laws.one_refusal bytes is.why why is.place place is.refused refused)));
}

pub memory_replays : (bytes text : List ℕ) → Replays bytes text Memory
memory_replays bytes text = record { answers = tt; accepts = λ P spells. memory_runs P text; refuses = λ why place refused. inr refl }

-- and where it is accepted
run_outcome : (bytes text : List ℕ) (P : syntax.Protocol) (outcome : Outcome) → Spells bytes P → IsOutcomeOfRun P text outcome → IsReplayOutcome bytes outcome
run_outcome bytes text P (Replayed replay) spelled is = (P, spelled)
run_outcome bytes text P (Refused (Run line why)) spelled is = (P, spelled)
run_outcome bytes text P (Refused (Protocol line column why)) spelled is = absurd is
run_outcome bytes text P (Refused (Report line why)) spelled is = absurd is
run_outcome bytes text P Memory spelled is = tt
run_outcome bytes text P _ spelled is = absurd is

pub run_replays : Laws → (bytes text : List ℕ) (P : syntax.Protocol) (outcome : Outcome) → RunsOn P text outcome → Spells bytes P → Replays bytes text outcome
run_replays laws bytes text P outcome said spelled = record {
  answers = run_outcome bytes text P outcome spelled said.answers;
  accepts = λ Q spells. subst (λ (X : syntax.Protocol). RunsOn X text outcome) (laws.one_protocol bytes P Q spelled spells) said;
  refuses = λ why place refused. absurd (laws.never_both bytes P why place spelled refused);
}

-- a fault that is counted later is counted
pub counted_later : (a b c : ℕ) → a ≤ b → IsFaultCounted b c → IsFaultCounted a c
counted_later a b c h (inl r) = inl (omega (arith, h, r))
counted_later a b c h (inr e) = inr e

-- what is about a run prints no clause
pub run_words : (files : Outside) (name : List ℕ) (most : ℕ) (P : syntax.Protocol) (outcome : Outcome) → IfRead files name most outcome (λ text. RunsOn P text outcome) → prints_clauses outcome ≡ false
run_words files name most P (Replayed replay) is = refl
run_words files name most P (Refused refusal) is = refl
run_words files name most P Memory is = refl
run_words files name most P ReadFault is = refl
run_words files name most P _ (inl x) = absurd x.fact.answers
run_words files name most P _ (inr why) = absurd why.1
