-- A process without phases and tables: it has phase 0 alone, so have its nodes, and no step of a phase or of a table is possible.
use Rattle.std.proofs.Common.{◌≡◌, ◌∙◌, ℕ, false, arith, List, [], ◌∷◌, Option, None, Some, IfSome, option_and_then, is_none, refl, ap, cond, not}
use Rattle.std.specs.Prelude.{max, nat_lt}
use Rattle.std.specs.List.{AllByRecursion}
use Rattle.std.specs.Option.{option_map_or}
use Rattle.std.proofs.lemmas.Bool.Decides.{nat_tests}
use Rattle.spec_calculus.specs.Syntax.{Process, Nil, Output, Input, Parallel, Replication, New, Let, Event, Phase, Insert, Get, Query, Secret, SecretNew, Correspondence, Protocol}
use Rattle.spec_calculus.specs.Points.{nodes, numbered, greatest_phase}
use Rattle.spec_calculus.specs.Values.{Environment}
use Rattle.spec_calculus.specs.Runs.{Configuration, Thread, At, Ended, Step, Next, Put, Fetch, Miss, acts, acting, raised, start, after_step, after_steps, run}
use Rattle.spec_calculus.specs.Standing.{phases_begun}
use Rattle.spec_calculus.specs.Phases.{all_phases_begun}
use Rattle.spec_calculus.specs.Secrecy.{IsOpen}
use Rattle.spec_calculus.specs.Refusals.{NoThread, WrongForm, NoEntry, NotFailing, refusal, first_cause, where_true, no_thread, at_put, at_fetch, at_miss}
use Rattle.spec_calculus.specs.Plain.{IsPlain, nowhere}
use Rattle.spec_calculus.proofs.Items.{each-append, each-numbered, of_then}
use Rattle.spec_calculus.proofs.Phases.{phases_are_counted}

-- a process without phases has none but phase 0
pub plain_greatest : (process : Process) → IsPlain process → greatest_phase process ≡ 0
plain_greatest Nil plain = refl
plain_greatest (Output channel message next) plain = plain_greatest next plain
plain_greatest (Input channel pattern next) plain = plain_greatest next plain
plain_greatest (Parallel left right) plain =
    let first = plain_greatest left plain.0 in let second = plain_greatest right plain.1 in λ i. max (first i) (second i)
plain_greatest (Replication copied) plain = plain_greatest copied plain
plain_greatest (New word next) plain = plain_greatest next plain
plain_greatest (Let pattern expression next otherwise) plain =
    let first = plain_greatest next plain.0 in let second = plain_greatest otherwise plain.1 in λ i. max (first i) (second i)
plain_greatest (Event performed next) plain = plain_greatest next plain
plain_greatest (Phase number next) plain = absurd plain
plain_greatest (Insert table arguments next) plain = absurd plain
plain_greatest (Get table patterns condition next otherwise) plain = absurd plain

-- each of its nodes is such a process
pub plain_nodes : (process : Process) → IsPlain process → AllByRecursion IsPlain (nodes process)
plain_nodes Nil plain = (tt, tt)
plain_nodes (Output channel message next) plain = (plain, plain_nodes next plain)
plain_nodes (Input channel pattern next) plain = (plain, plain_nodes next plain)
plain_nodes (Parallel left right) plain = (plain, each-append IsPlain (nodes left) (nodes right) (plain_nodes left plain.0) (plain_nodes right plain.1))
plain_nodes (Replication copied) plain = (plain, plain_nodes copied plain)
plain_nodes (New word next) plain = (plain, plain_nodes next plain)
plain_nodes (Let pattern expression next otherwise) plain =
    (plain, each-append IsPlain (nodes next) (nodes otherwise) (plain_nodes next plain.0) (plain_nodes otherwise plain.1))
plain_nodes (Event performed next) plain = (plain, plain_nodes next plain)
plain_nodes (Phase number next) plain = absurd plain
plain_nodes (Insert table arguments next) plain = absurd plain
plain_nodes (Get table patterns condition next otherwise) plain = absurd plain

-- there is no later phase
none_below : (n : ℕ) → nat_lt n 0 ≡ false
none_below n = grind (arith, nat_tests)

not_later : (P : Protocol) (c : Configuration) → IsPlain P.main → nat_lt c.phase (greatest_phase P.main) ≡ false
not_later P c plain = ap (nat_lt c.phase) (plain_greatest P.main plain) ∙ none_below c.phase

-- so the next phase never begins
pub no_next : (P : Protocol) (c : Configuration) → IsPlain P.main → refusal P c Next ≡ Some WrongForm
no_next P c plain = ap (λ later. cond (not later) (Some WrongForm) None) (not_later P c plain)

not_begun : (P : Protocol) (c d : Configuration) (step : Step) → IsPlain P.main → after_step P c step ≡ Some d → phases_begun step ≡ 0
not_begun P c d Next plain e = let none = ap (λ later. cond later (Some (raised P c)) None) (not_later P c plain) in cc
not_begun P c d step plain e = refl

none_begun : (P : Protocol) (c d : Configuration) (steps : List Step) → IsPlain P.main → after_steps P c steps ≡ Some d → all_phases_begun steps ≡ 0
none_begun P c d [] plain e = refl
none_begun P c d (step ∷ steps) plain e =
    let between = of_then (λ x. after_steps P x steps) (after_step P c step) d e in
    omega (arith, not_begun P c between.0 step plain between.1, none_begun P between.0 d steps plain between.2)

-- a run stays in phase 0, and there each query is open
pub plain_open : (P : Protocol) (q : Query) (d : Configuration) (steps : List Step) → IsPlain P.main → run P steps ≡ Some d → IsOpen q d
plain_open P q d steps plain e = at q
  where
    here : d.phase ≡ 0
    here = omega (arith, phases_are_counted P (start P) d steps e, none_begun P (start P) d steps plain e)

    at : (q : Query) → IsOpen q d
    at (Secret message phase) = omega (arith, here)
    at (SecretNew point phase) = omega (arith, here)
    at (Correspondence left alternatives) = tt

module _ (P : Protocol) (c : Configuration) (i : ℕ) (plain : IsPlain P.main) where
  -- an action that no plain node has is that of no thread
  module _ {A : Type 0} (action : ℕ → Environment → Process → Option A) (without : (point : ℕ) (environment : Environment) (process : Process) → IsPlain process → action point environment process ≡ None) where
    at_node : (point : ℕ) (environment : Environment) (o : Option Process) → IfSome o IsPlain → option_and_then (action point environment) o ≡ None
    at_node point environment None h = refl
    at_node point environment (Some process) h = without point environment process h

    of_thread : (thread : Thread) → acts P thread action ≡ None
    of_thread (At point environment) = at_node point environment (numbered (nodes P.main) point) (each-numbered IsPlain (nodes P.main) point (plain_nodes P.main plain))
    of_thread Ended = refl

    of_threads : (o : Option Thread) → option_and_then (λ thread. acts P thread action) o ≡ None
    of_threads None = refl
    of_threads (Some thread) = of_thread thread

    pub not_acting : acting P c i action ≡ None
    not_acting = of_threads (numbered c.threads i)

  without_put : (point : ℕ) (environment : Environment) (process : Process) → IsPlain process → at_put point environment process ≡ None
  without_put point environment (Insert table arguments next) h = absurd h
  without_put point environment other h = refl

  without_fetch : (e point : ℕ) (environment : Environment) (process : Process) → IsPlain process → at_fetch c e point environment process ≡ None
  without_fetch e point environment (Get table patterns condition next otherwise) h = absurd h
  without_fetch e point environment other h = refl

  without_miss : (point : ℕ) (environment : Environment) (process : Process) → IsPlain process → at_miss c point environment process ≡ None
  without_miss point environment (Get table patterns condition next otherwise) h = absurd h
  without_miss point environment other h = refl

  -- nothing is written, nothing is read, and nothing is missed
  pub no_put : refusal P c (Put i) ≡ nowhere c i
  no_put = ap (λ o. first_cause (where_true NoThread (no_thread c i) ∷ where_true WrongForm (is_none o) ∷ [])) (not_acting at_put without_put)

  pub no_fetch : (e : ℕ) → refusal P c (Fetch i e) ≡ nowhere c i
  no_fetch e = ap (λ o. first_cause (
      where_true NoThread (no_thread c i) ∷ where_true WrongForm (is_none o)
      ∷ where_true NoEntry (not (option_map_or (λ matches. matches) o false)) ∷ [])) (not_acting (at_fetch c e) (without_fetch e))

  pub no_miss : refusal P c (Miss i) ≡ nowhere c i
  no_miss = ap (λ o. first_cause (
      where_true NoThread (no_thread c i) ∷ where_true WrongForm (is_none o)
      ∷ where_true NotFailing (option_map_or (λ matches. matches) o false) ∷ [])) (not_acting (at_miss c) without_miss)
