-- What holds of compiled steps and of attacks.
use Rattle.std.proofs.Common.{◌≡◌, ◌∙◌, ap, sym, refl, ℕ, List, [], ◌∷◌, take, Some, option_and_then, is_none}
use Rattle.spec_calculus.specs.Syntax.{Query, Protocol}
use Rattle.spec_calculus.specs.Runs.{Configuration, Step, start, after_step, after_steps, run}
use Rattle.spec_calculus.specs.Limits.{limited_refusal}
use Rattle.spec_calculus.specs.Secrecy.{Holds}
use Rattle.spec_calculus.proofs.Items.{of_cond, of_then, of_map, if_some-is}
use Rattle.spec_saturation.specs.Key.{Entry}
use Rattle.spec_attack_runs.specs.Source.{Source}
use Rattle.spec_attack_runs.specs.Compiling.{State, start_state, limited_step, limited_steps}
use Rattle.spec_attack_runs.specs.Attack.{all_compiled, by_phase, IsCompiled, IsAttack}
use Rattle.spec_attack_runs.proofs.Replaying.{Replays, all_compiled_replays}

-- steps that no limit refuses are steps
limited_run : (P : Protocol) (c d : Configuration) (steps : List Step) → limited_steps P c steps ≡ Some d → after_steps P c steps ≡ Some d
limited_run P c d [] e = e
limited_run P c d (step ∷ steps) e =
    let first = of_then (λ b. limited_steps P b steps) (limited_step P c step) d e in
    let made = of_cond (is_none (limited_refusal P c step)) (after_step P c step) first.0 first.1 in
    ap (option_and_then (λ b. after_steps P b steps)) made.1 ∙ limited_run P first.0 d steps first.2

pub compiled_replay : (P : Protocol) (q : Query) (log : List Entry) (number : ℕ) (steps : List Step) → IsCompiled P q log number steps
    → (end : Configuration) × (limited_steps P (start P) steps ≡ Some end) × (run P steps ≡ Some end)
compiled_replay P q log number steps h =
    let instances : List Source = by_phase P h.instances in
    let last = of_map (λ (st : State). st.steps) (all_compiled P instances (start_state P)) steps h.compiles in
    let replays = if_some-is (Replays P) (all_compiled P instances (start_state P)) last.0 (all_compiled_replays P instances (start_state P) refl) last.1 in
    let limited : limited_steps P (start P) steps ≡ Some last.0.configuration = ap (limited_steps P (start P)) (sym last.2) ∙ replays in
    (last.0.configuration, limited, limited_run P (start P) last.0.configuration steps limited)

-- a query with an attack does not hold
pub attack_violates : (P : Protocol) (q : Query) (log : List Entry) (number : ℕ) (steps : List Step) → IsAttack P q log number steps → Holds P q → ⊥
attack_violates P q log number steps h holds = holds (take h.violates.count steps) h.violates.configuration h.violates.runs h.violates.violated
