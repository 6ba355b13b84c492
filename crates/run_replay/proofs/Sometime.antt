-- Whether a query is violated after some number of steps is told at the end of those at whose ends it is open.
use Rattle.std.proofs.Common.{◌≡◌, ℕ, ◌≤◌, Bool, true, false, IsTrue, ◌↔◌, List, length, take, None, Some, refl}
use Rattle.spec_calculus.specs.Syntax.{Protocol, Query}
use Rattle.spec_calculus.specs.Points.{numbered}
use Rattle.spec_calculus.specs.Runs.{Configuration, Step, after_steps, run}
use Rattle.spec_calculus.specs.Secrecy.{IsViolated, IsOpen}
use Rattle.spec_calculus.specs.Refusals.{Refusal}
use Rattle.run_replay.specs.Replay.{IsDone, IsFirstRefused}
use Rattle.run_replay.specs.Reached.{IsDoneSomewhere, IsOpenCount, IsViolatedSometime}
use Rattle.run_replay.proofs.Open.{counted_open, front_told}
use Rattle.run_replay.proofs.Violations.{tells_at_end, never_told, front_somewhere, done_not_refused}

-- what is violated at the end of a front is violated after as many steps
pub front_violated : (P : Protocol) (steps : List Step) (query count : ℕ) (end : Configuration) (told : Bool) → run P (take count steps) ≡ Some end → ((q : Query) → numbered P.queries query ≡ Some q → IsTrue told ↔ IsViolated q end) → IsTrue told
    → (q : Query) → numbered P.queries query ≡ Some q → IsViolatedSometime P steps q
front_violated P steps query count end told reached decides is q found = (count, record { configuration = end; reached = reached; violated = (decides q found).0 is })

-- and what is violated after some number of steps is so at the end of this front, where none of the steps is refused
pub sometime_told : (P : Protocol) (steps : List Step) (query count : ℕ) (end : Configuration) (told : Bool) → count ≤ length steps → IsOpenCount P steps query count
    → ((q : Query) (c d : Configuration) (more : List Step) → after_steps P c more ≡ Some d → IsOpen q d → IsViolated q c → IsViolated q d) → IsDone P (take count steps) end
    → ((q : Query) → numbered P.queries query ≡ Some q → IsTrue told ↔ IsViolated q end) → IsDoneSomewhere P steps → (q : Query) → numbered P.queries query ≡ Some q → IsViolatedSometime P steps q → IsTrue told
sometime_told P steps query count end true within open_there adds front decides done q found some = refl
sometime_told P steps query count end false within open_there adds front decides done q found some =
    let told = tells_at_end P (take count steps) query end false front.ends decides in
    let never = never_told P (take count steps) query (λ r there. (adds r, counted_open P steps query count open_there done r there)) (end, front) told in
    absurd (front_told P steps query count None within open_there never q found some.0 some.1)

-- no front has a step that is refused, where none of the steps is
pub front_unrefused : (P : Protocol) (steps : List Step) (count number : ℕ) (r : Refusal) → IsFirstRefused P (take count steps) number r → IsDoneSomewhere P steps → ⊥
front_unrefused P steps count number r refused done = done_not_refused P (take count steps) number r (front_somewhere P steps count done) refused
