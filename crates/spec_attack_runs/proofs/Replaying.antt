-- The steps of a state lead from the start to its configuration, none of them refused; whatever the compilation does keeps that.
use Rattle.std.proofs.Common.{◌≡◌, ◌∙◌, ap, refl, List, [], ◌∷◌, ◌++◌, Option, None, Some, IfSome, option_and_then}
use Rattle.spec_calculus.specs.Syntax.{Protocol}
use Rattle.spec_calculus.specs.Runs.{Configuration, Step, start}
use Rattle.spec_calculus.proofs.Items.{if_some-map}
use Rattle.spec_attack_runs.specs.Source.{Source}
use Rattle.spec_attack_runs.specs.Compiling.{State, limited_step, limited_steps, stepped}
use Rattle.spec_attack_runs.specs.Attack.{all_compiled}
use Rattle.spec_attack_runs.proofs.Keeping.{all_compiled_keeps}

abbrev pub Replays : Protocol → State → Type 0
Replays P st = limited_steps P (start P) st.steps ≡ Some st.configuration

-- steps after steps
then_twice : {A B C : Type 0} (f : A → Option B) (g : B → Option C) (h : A → Option C) → ((x : A) → h x ≡ option_and_then g (f x)) → (o : Option A) → option_and_then h o ≡ option_and_then g (option_and_then f o)
then_twice f g h same None = refl
then_twice f g h same (Some x) = same x

steps_append : (P : Protocol) (c : Configuration) (xs ys : List Step) → limited_steps P c (xs ++ ys) ≡ option_and_then (λ d. limited_steps P d ys) (limited_steps P c xs)
steps_append P c [] ys = refl
steps_append P c (x ∷ xs) ys =
    then_twice (λ d. limited_steps P d xs) (λ d. limited_steps P d ys) (λ d. limited_steps P d (xs ++ ys)) (λ d. steps_append P d xs ys) (limited_step P c x)

stepped_replays : (P : Protocol) (step : Step) (st : State) → Replays P st → IfSome (stepped P step st) (Replays P)
stepped_replays P step st h = if_some-map (Replays P) (λ c. record st { configuration = c; steps = st.steps ++ step ∷ [] }) (limited_step P st.configuration step)
    (λ c is. steps_append P (start P) st.steps (step ∷ [])
    ∙ (ap (option_and_then (λ d. limited_steps P d (step ∷ []))) h ∙ ap (option_and_then (λ d. Some d)) is))

pub all_compiled_replays : (P : Protocol) (instances : List Source) (st : State) → Replays P st → IfSome (all_compiled P instances st) (Replays P)
all_compiled_replays P instances st h = all_compiled_keeps P (λ c steps. limited_steps P (start P) steps ≡ Some c) (stepped_replays P) instances st h
