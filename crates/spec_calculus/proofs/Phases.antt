-- The phase of a configuration is told by the steps alone, and so are the steps at whose ends a query is open.
use Rattle.std.proofs.Common.{◌≡◌, ℕ, zero, suc, ◌+◌, ◌≤◌, Bool, true, false, nat_le, cond, List, [], ◌∷◌, length, take, Some, refl, ap, arith}
use Rattle.std.proofs.lemmas.Bool.Decides.{nat_tests}
use Rattle.spec_calculus.specs.Syntax.{Protocol, Query, Secret, SecretNew, Correspondence}
use Rattle.spec_calculus.specs.Runs.{Configuration, Step, start, after_step, after_steps, run}
use Rattle.spec_calculus.specs.Standing.{phases_begun}
use Rattle.spec_calculus.specs.Secrecy.{IsViolated, IsOpen}
use Rattle.spec_calculus.specs.Phases.{all_phases_begun, steps_up_to, open_steps}
use Rattle.spec_calculus.proofs.Items.{of_some, of_then}
use Rattle.spec_calculus.proofs.Growth.{phases_begin}

-- the phase is the number of steps with which one begins
pub phases_are_counted : (P : Protocol) (c d : Configuration) (steps : List Step) → after_steps P c steps ≡ Some d → d.phase ≡ c.phase + all_phases_begun steps
phases_are_counted P c d [] is = let same : c.phase ≡ d.phase = ap (λ (e : Configuration). e.phase) (of_some c d is) in omega (arith, same)
phases_are_counted P c d (step ∷ steps) is =
    let first = of_then (λ e. after_steps P e steps) (after_step P c step) d is in
    let now : first.0.phase ≡ c.phase + phases_begun step = phases_begin P c first.0 step first.1 in
    let later : d.phase ≡ first.0.phase + all_phases_begun steps = phases_are_counted P first.0 d steps first.2 in
    omega (arith, now, later)

-- no more phases begin with the steps up to a phase
few_begin : (n now : ℕ) (steps : List Step) → now ≤ n → now + all_phases_begun (steps_up_to n now steps) ≤ n
few_begin n now [] within = omega (arith, within)
few_begin n now (step ∷ steps) within = go (few_begin n (now + phases_begun step) steps) (nat_le (now + phases_begun step) n) refl
  where
    go : (now + phases_begun step ≤ n → (now + phases_begun step) + all_phases_begun (steps_up_to n (now + phases_begun step) steps) ≤ n) → (b : Bool) → nat_le (now + phases_begun step) n ≡ b → now + all_phases_begun (cond b (step ∷ steps_up_to n (now + phases_begun step) steps) []) ≤ n
    go others false e = omega (arith, within)
    go others true e =
        let le : now + phases_begun step ≤ n = grind (arith, nat_tests) in
        let rest = others le in omega (arith, rest)

-- steps up to a phase begin the list, and none is left out while the phase has not passed
all_taken : (n now k : ℕ) (steps : List Step) → k ≤ length steps → now + all_phases_begun (take k steps) ≤ n → (k ≤ length (steps_up_to n now steps)) × (take k (steps_up_to n now steps) ≡ take k steps)
all_taken n now zero steps within few = (omega arith, refl)
all_taken n now (suc k) [] within few = absurd (omega (arith, within))
all_taken n now (suc k) (step ∷ steps) within few =
    go (all_taken n (now + phases_begun step) k steps (omega (arith, within)) (omega (arith, few))) (nat_le (now + phases_begun step) n) refl
  where
    go : (k ≤ length (steps_up_to n (now + phases_begun step) steps)) × (take k (steps_up_to n (now + phases_begun step) steps) ≡ take k steps) → (b : Bool) → nat_le (now + phases_begun step) n ≡ b → (suc k ≤ length (cond b (step ∷ steps_up_to n (now + phases_begun step) steps) [])) × (take (suc k) (cond b (step ∷ steps_up_to n (now + phases_begun step) steps) []) ≡ step ∷ take k steps)
    go others false e = let le : now + phases_begun step ≤ n = omega (arith, few) in let bad : nat_le (now + phases_begun step) n ≡ true = grind (arith, nat_tests) in cc
    go others true e = let short = others.0 in (omega (arith, short), ap (λ (l : List Step). step ∷ l) others.1)

-- the query is open at the end of its steps
pub open_at_their_end : (P : Protocol) (q : Query) (steps : List Step) (d : Configuration) → run P (open_steps q steps) ≡ Some d → IsOpen q d
open_at_their_end P (Secret message phase) steps d is =
    let counted : d.phase ≡ 0 + all_phases_begun (steps_up_to phase 0 steps) = phases_are_counted P (start P) d (steps_up_to phase 0 steps) is in
    let few = few_begin phase 0 steps (omega arith) in omega (arith, counted, few)
open_at_their_end P (SecretNew point phase) steps d is =
    let counted : d.phase ≡ 0 + all_phases_begun (steps_up_to phase 0 steps) = phases_are_counted P (start P) d (steps_up_to phase 0 steps) is in
    let few = few_begin phase 0 steps (omega arith) in omega (arith, counted, few)
open_at_their_end P (Correspondence left alternatives) steps d is = tt

-- what violates a query does so at the end of some of its steps
taken_up_to : (P : Protocol) (n k : ℕ) (steps : List Step) (d : Configuration) → k ≤ length steps → run P (take k steps) ≡ Some d → d.phase ≤ n → (k ≤ length (steps_up_to n 0 steps)) × (take k (steps_up_to n 0 steps) ≡ take k steps)
taken_up_to P n k steps d within is le =
    let counted : d.phase ≡ 0 + all_phases_begun (take k steps) = phases_are_counted P (start P) d (take k steps) is in
    all_taken n 0 k steps within (omega (arith, counted, le))

pub violated_among_them : (P : Protocol) (q : Query) (k : ℕ) (steps : List Step) (d : Configuration) → k ≤ length steps → run P (take k steps) ≡ Some d → IsViolated q d → (k ≤ length (open_steps q steps)) × (take k (open_steps q steps) ≡ take k steps)
violated_among_them P (Secret message phase) k steps d within is (known, le) = taken_up_to P phase k steps d within is le
violated_among_them P (SecretNew point phase) k steps d within is (known, le) = taken_up_to P phase k steps d within is le
violated_among_them P (Correspondence left alternatives) k steps d within is h = (within, refl)
