-- Each step leads from a configuration of the protocol to one.
use Rattle.std.proofs.Common.{◌≡◌, ℕ, ◌+◌, ◌≤◌, Bool, true, false, nat_eq, nat_lt, cond, List, [], ◌∷◌, ◌++◌, length, refl, Option, Some, None, IfSome, option_and_then, option_map, is_some, arith, length-append}
use Rattle.std.specs.List.{AllByRecursion, list_any}
use Rattle.spec_calculus.specs.Syntax.{Process, Output, Input, Parallel, Replication, New, Let, Event, Phase, Insert, Get, Protocol}
use Rattle.spec_calculus.specs.Points.{numbered, nodes, point_after, greatest_phase}
use Rattle.spec_calculus.specs.Values.{Value, Environment, same_value, value_of}
use Rattle.spec_calculus.specs.Matching.{matched, rule_value, rules_of}
use Rattle.spec_calculus.specs.Tables.{matched_entry}
use Rattle.spec_calculus.specs.Choices.{value_at, values_at}
use Rattle.spec_calculus.specs.Runs.{Thread, At, Ended, Configuration, Step, Build, Reduce, Part, Fresh, Split, Copy, Make, Pass, Hear, Say, Take, Fail, Mark, Next, Put, Fetch, Miss, acts, acting, knows, learns, goes_on, known_values, can_build, built, part_of, received, after_split, after_copy, after_make, after_receipt, after_pass, after_hear, after_say, after_take, after_fail, after_mark, after_put, after_fetch, after_miss, at_phase, enters, raised, after_step}
use Rattle.spec_calculus.specs.Standing.{names_made}
use Rattle.spec_calculus.proofs.Items.{each-append, each-map, each-weaker, each-replaced, if_some-is, if_some-cond, if_some-choice, if_some-then, if_some-map}
use Rattle.spec_calculus.proofs.Growth.{numbers_are_taken}
use Rattle.pi_configurations.specs.declared.configurations.Conf.{Conf}
use Rattle.pi_configurations.specs.Configurations.{IsPointOf, IsConfigurationOf, configuration_of}
use Rattle.pi_configurations.proofs.Points.{nodes-some, point-within}

module _ (P : Protocol) where
  goes_on-kept : (c : Configuration) (i : ℕ) (thread : Thread) → IsPointOf P thread → AllByRecursion (IsPointOf P) c.threads → AllByRecursion (IsPointOf P) (goes_on c i thread).threads
  goes_on-kept c i thread here h = each-replaced (IsPointOf P) c.threads i thread here h

  begins-kept : (threads : List Thread) (thread : Thread) → IsPointOf P thread → AllByRecursion (IsPointOf P) threads → AllByRecursion (IsPointOf P) (threads ++ thread ∷ [])
  begins-kept threads thread here h = each-append (IsPointOf P) threads (thread ∷ []) h (here, tt)

  -- a step of a thread may use that its process stands at its point
  acting-kept : (c : Configuration) (i : ℕ) (action : ℕ → Environment → Process → Option Configuration) → ((point : ℕ) (environment : Environment) (process : Process) → point + length (nodes process) ≤ length (nodes P.main) + 1 → IfSome (action point environment process) (λ d. AllByRecursion (IsPointOf P) d.threads)) → IfSome (acting P c i action) (λ d. AllByRecursion (IsPointOf P) d.threads)
  acting-kept c i action kept = if_some-then (λ d. AllByRecursion (IsPointOf P) d.threads) (λ thread. acts P thread action) (numbered c.threads i) (λ thread is. here thread)
    where
      here : (thread : Thread) → IfSome (acts P thread action) (λ d. AllByRecursion (IsPointOf P) d.threads)
      here (At point environment) =
          if_some-then (λ d. AllByRecursion (IsPointOf P) d.threads) (action point environment) (numbered (nodes P.main) point)
          (λ process is. kept point environment process (point-within P point process is))
      here Ended = tt

  next-point : (point : ℕ) (environment : Environment) (next : Process) → point + (1 + length (nodes next)) ≤ length (nodes P.main) + 1 → IsPointOf P (At (point + 1) environment)
  next-point point environment next h = (omega arith, omega (arith, nodes-some next))

  received-kept : (point : ℕ) (environment : Environment) (o : Option Environment) (next : Process) → point + (1 + length (nodes next)) ≤ length (nodes P.main) + 1 → IsPointOf P (received point environment o)
  received-kept point environment None next h = tt
  received-kept point environment (Some bindings) next h = next-point point (environment ++ bindings) next h

  module _ (c : Configuration) (stays : AllByRecursion (IsPointOf P) c.threads) where
    split-kept : (i point : ℕ) (environment : Environment) (process : Process) → point + length (nodes process) ≤ length (nodes P.main) + 1 → IfSome (after_split c i point environment process) (λ d. AllByRecursion (IsPointOf P) d.threads)
    split-kept i point environment (Parallel left right) h =
        let within : point + (1 + (length (nodes left) + length (nodes right))) ≤ length (nodes P.main) + 1 = omega (arith, h, length-append (nodes left) (nodes right)) in
        begins-kept (goes_on c i (At (point + 1) environment)).threads (At (point_after (point + 1) left) environment)
        (omega arith, omega (arith, within, nodes-some right))
        (goes_on-kept c i (At (point + 1) environment) (omega arith, omega (arith, within, nodes-some left)) stays)
    split-kept i point environment other h = tt

    copy-kept : (point : ℕ) (environment : Environment) (process : Process) → point + length (nodes process) ≤ length (nodes P.main) + 1 → IfSome (after_copy c point environment process) (λ d. AllByRecursion (IsPointOf P) d.threads)
    copy-kept point environment (Replication copied) h = begins-kept c.threads (At (point + 1) environment) (next-point point environment copied (omega (arith, h))) stays
    copy-kept point environment other h = tt

    make-kept : (i point : ℕ) (environment : Environment) (process : Process) → point + length (nodes process) ≤ length (nodes P.main) + 1 → IfSome (after_make c i point environment process) (λ d. AllByRecursion (IsPointOf P) d.threads)
    make-kept i point environment (New word next) h = each-replaced (IsPointOf P) c.threads i _ (omega arith, omega (arith, h, nodes-some next)) stays
    make-kept i point environment other h = tt

    hear-kept : (i point : ℕ) (environment : Environment) (process : Process) → point + length (nodes process) ≤ length (nodes P.main) + 1 → IfSome (after_hear c i point environment process) (λ d. AllByRecursion (IsPointOf P) d.threads)
    hear-kept i point environment (Output channel message next) h =
        if_some-cond (λ d. AllByRecursion (IsPointOf P) d.threads) (knows c (value_of environment channel)) (learns (goes_on c i (At (point + 1) environment)) (value_of environment message))
        (goes_on-kept c i (At (point + 1) environment) (next-point point environment next (omega (arith, h))) stays)
    hear-kept i point environment other h = tt

    say-kept : (j : ℕ) (v : Value) (point : ℕ) (environment : Environment) (process : Process) → point + length (nodes process) ≤ length (nodes P.main) + 1 → IfSome (after_say c j v point environment process) (λ d. AllByRecursion (IsPointOf P) d.threads)
    say-kept j v point environment (Input channel pattern next) h =
        if_some-cond (λ d. AllByRecursion (IsPointOf P) d.threads) (knows c (value_of environment channel)) (goes_on c j (received point environment (matched environment pattern v)))
        (goes_on-kept c j (received point environment (matched environment pattern v)) (received-kept point environment (matched environment pattern v) next (omega (arith, h))) stays)
    say-kept j v point environment other h = tt

    receipt-kept : (i j : ℕ) (sent : Thread) (channel message : Value) → IsPointOf P sent → (point : ℕ) (environment : Environment) (process : Process) → point + length (nodes process) ≤ length (nodes P.main) + 1 → IfSome (after_receipt c i j sent channel message point environment process) (λ d. AllByRecursion (IsPointOf P) d.threads)
    receipt-kept i j sent channel message here point environment (Input on pattern next) h =
        if_some-cond (λ d. AllByRecursion (IsPointOf P) d.threads) (same_value channel (value_of environment on)) (goes_on (goes_on c i sent) j (received point environment (matched environment pattern message)))
        (goes_on-kept (goes_on c i sent) j (received point environment (matched environment pattern message)) (received-kept point environment (matched environment pattern message) next (omega (arith, h))) (goes_on-kept c i sent here stays))
    receipt-kept i j sent channel message here point environment other h = tt

    pass-kept : (i j point : ℕ) (environment : Environment) (process : Process) → point + length (nodes process) ≤ length (nodes P.main) + 1 → IfSome (after_pass P c i j point environment process) (λ d. AllByRecursion (IsPointOf P) d.threads)
    pass-kept i j point environment (Output channel message next) h =
        acting-kept c j (after_receipt c i j (At (point + 1) environment) (value_of environment channel) (value_of environment message))
        (receipt-kept i j (At (point + 1) environment) (value_of environment channel) (value_of environment message) (next-point point environment next (omega (arith, h))))
    pass-kept i j point environment other h = tt

    take-kept : (i : ℕ) (label : List ℕ) (point : ℕ) (environment : Environment) (process : Process) → point + length (nodes process) ≤ length (nodes P.main) + 1 → IfSome (after_take P c i label point environment process) (λ d. AllByRecursion (IsPointOf P) d.threads)
    take-kept i label point environment (Let pattern expression next otherwise) h =
        let within : point + (1 + (length (nodes next) + length (nodes otherwise))) ≤ length (nodes P.main) + 1 = omega (arith, h, length-append (nodes next) (nodes otherwise)) in
        if_some-map (λ d. AllByRecursion (IsPointOf P) d.threads) (λ bindings. goes_on c i (At (point + 1) (environment ++ bindings))) (option_and_then (matched environment pattern) (value_at P environment expression label))
        (λ bindings is. goes_on-kept c i (At (point + 1) (environment ++ bindings)) (omega arith, omega (arith, within, nodes-some next)) stays)
    take-kept i label point environment other h = tt

    fail-kept : (i point : ℕ) (environment : Environment) (process : Process) → point + length (nodes process) ≤ length (nodes P.main) + 1 → IfSome (after_fail P c i point environment process) (λ d. AllByRecursion (IsPointOf P) d.threads)
    fail-kept i point environment (Let pattern expression next otherwise) h =
        let within : point + (1 + (length (nodes next) + length (nodes otherwise))) ≤ length (nodes P.main) + 1 = omega (arith, h, length-append (nodes next) (nodes otherwise)) in
        if_some-choice (λ d. AllByRecursion (IsPointOf P) d.threads) (list_any (λ v. is_some (matched environment pattern v)) (values_at P environment expression)) None (Some (goes_on c i (At (point_after (point + 1) next) environment))) tt
        (goes_on-kept c i (At (point_after (point + 1) next) environment) (omega arith, omega (arith, within, nodes-some otherwise)) stays)
    fail-kept i point environment other h = tt

    mark-kept : (i point : ℕ) (environment : Environment) (process : Process) → point + length (nodes process) ≤ length (nodes P.main) + 1 → IfSome (after_mark c i point environment process) (λ d. AllByRecursion (IsPointOf P) d.threads)
    mark-kept i point environment (Event performed next) h = goes_on-kept c i (At (point + 1) environment) (next-point point environment next (omega (arith, h))) stays
    mark-kept i point environment other h = tt

    put-kept : (i point : ℕ) (environment : Environment) (process : Process) → point + length (nodes process) ≤ length (nodes P.main) + 1 → IfSome (after_put c i point environment process) (λ d. AllByRecursion (IsPointOf P) d.threads)
    put-kept i point environment (Insert table arguments next) h = goes_on-kept c i (At (point + 1) environment) (next-point point environment next (omega (arith, h))) stays
    put-kept i point environment other h = tt

    fetch-kept : (i e point : ℕ) (environment : Environment) (process : Process) → point + length (nodes process) ≤ length (nodes P.main) + 1 → IfSome (after_fetch c i e point environment process) (λ d. AllByRecursion (IsPointOf P) d.threads)
    fetch-kept i e point environment (Get table patterns condition next otherwise) h =
        let within : point + (1 + (length (nodes next) + length (nodes otherwise))) ≤ length (nodes P.main) + 1 = omega (arith, h, length-append (nodes next) (nodes otherwise)) in
        if_some-map (λ d. AllByRecursion (IsPointOf P) d.threads) (λ bindings. goes_on c i (At (point + 1) (environment ++ bindings))) (option_and_then (matched_entry environment table patterns condition) (numbered c.entries e))
        (λ bindings is. goes_on-kept c i (At (point + 1) (environment ++ bindings)) (omega arith, omega (arith, within, nodes-some next)) stays)
    fetch-kept i e point environment other h = tt

    miss-kept : (i point : ℕ) (environment : Environment) (process : Process) → point + length (nodes process) ≤ length (nodes P.main) + 1 → IfSome (after_miss c i point environment process) (λ d. AllByRecursion (IsPointOf P) d.threads)
    miss-kept i point environment (Get table patterns condition next otherwise) h =
        let within : point + (1 + (length (nodes next) + length (nodes otherwise))) ≤ length (nodes P.main) + 1 = omega (arith, h, length-append (nodes next) (nodes otherwise)) in
        if_some-choice (λ d. AllByRecursion (IsPointOf P) d.threads) (list_any (λ held. is_some (matched_entry environment table patterns condition held)) c.entries) None (Some (goes_on c i (At (point_after (point + 1) next) environment))) tt
        (goes_on-kept c i (At (point_after (point + 1) next) environment) (omega arith, omega (arith, within, nodes-some otherwise)) stays)
    miss-kept i point environment other h = tt

    -- a thread that the next phase finds at a point goes on at the next, stays there, or ends
    waiting-kept : (goes waits : Bool) (point : ℕ) (environment : Environment) → IsPointOf P (At (point + 1) environment) → IsPointOf P (At point environment) → IsPointOf P (cond goes (At (point + 1) environment) (cond waits (At point environment) Ended))
    waiting-kept true waits point environment further here = further
    waiting-kept false true point environment further here = here
    waiting-kept false false point environment further here = tt

    phase-kept : (n point : ℕ) (environment : Environment) (process : Process) → IsPointOf P (At point environment) → point + length (nodes process) ≤ length (nodes P.main) + 1 → IsPointOf P (at_phase n point environment (Some process))
    phase-kept n point environment (Phase number next) here h =
        waiting-kept (nat_eq number n) (nat_lt n number) point environment (next-point point environment next (omega (arith, h))) here
    phase-kept n point environment other here h = tt

    node-kept : (n point : ℕ) (environment : Environment) (o : Option Process) → numbered (nodes P.main) point ≡ o → IsPointOf P (At point environment) → IsPointOf P (at_phase n point environment o)
    node-kept n point environment None is here = tt
    node-kept n point environment (Some process) is here = phase-kept n point environment process here (point-within P point process is)

    thread-kept : (n : ℕ) (thread : Thread) → IsPointOf P thread → IsPointOf P (enters P n thread)
    thread-kept n (At point environment) here = node-kept n point environment (numbered (nodes P.main) point) refl here
    thread-kept n Ended here = tt

    raised-kept : AllByRecursion (IsPointOf P) (raised P c).threads
    raised-kept = each-map (IsPointOf P) (enters P (c.phase + 1)) c.threads (each-weaker (IsPointOf P) (λ thread. IsPointOf P (enters P (c.phase + 1) thread)) (thread-kept (c.phase + 1)) c.threads stays)

    step-kept : (step : Step) → IfSome (after_step P c step) (λ d. AllByRecursion (IsPointOf P) d.threads)
    step-kept (Build f ks) =
        if_some-choice (λ d. AllByRecursion (IsPointOf P) d.threads) (can_build P f (length ks)) (option_map (λ vs. learns c (built f vs)) (known_values c ks)) None
        (if_some-map (λ d. AllByRecursion (IsPointOf P) d.threads) (λ vs. learns c (built f vs)) (known_values c ks) (λ vs is. stays)) tt
    step-kept (Reduce d r ks) =
        if_some-then (λ x. AllByRecursion (IsPointOf P) x.threads) (λ rule. option_map (learns c) (option_and_then (rule_value rule) (known_values c ks))) (numbered (rules_of P d) r)
        (λ rule is. if_some-map (λ x. AllByRecursion (IsPointOf P) x.threads) (learns c) (option_and_then (rule_value rule) (known_values c ks)) (λ v found. stays))
    step-kept (Part k i) = if_some-map (λ d. AllByRecursion (IsPointOf P) d.threads) (learns c) (option_and_then (part_of P i) (numbered c.known k)) (λ v is. stays)
    step-kept Fresh = stays
    step-kept (Split i) = acting-kept c i (after_split c i) (split-kept i)
    step-kept (Copy i) = acting-kept c i (after_copy c) copy-kept
    step-kept (Make i) = acting-kept c i (after_make c i) (make-kept i)
    step-kept (Pass i j) = acting-kept c i (after_pass P c i j) (pass-kept i j)
    step-kept (Hear i) = acting-kept c i (after_hear c i) (hear-kept i)
    step-kept (Say j k) = if_some-then (λ d. AllByRecursion (IsPointOf P) d.threads) (λ v. acting P c j (after_say c j v)) (numbered c.known k) (λ v is. acting-kept c j (after_say c j v) (say-kept j v))
    step-kept (Take i label) = acting-kept c i (after_take P c i label) (take-kept i label)
    step-kept (Fail i) = acting-kept c i (after_fail P c i) (fail-kept i)
    step-kept (Mark i) = acting-kept c i (after_mark c i) (mark-kept i)
    step-kept Next = if_some-cond (λ d. AllByRecursion (IsPointOf P) d.threads) (nat_lt c.phase (greatest_phase P.main)) (raised P c) raised-kept
    step-kept (Put i) = acting-kept c i (after_put c i) (put-kept i)
    step-kept (Fetch i e) = acting-kept c i (after_fetch c i e) (fetch-kept i e)
    step-kept (Miss i) = acting-kept c i (after_miss c i) (miss-kept i)

at_most_one : (step : Step) → names_made step ≤ 1
at_most_one Fresh = omega arith
at_most_one (Make i) = omega arith
at_most_one (Build f ks) = omega arith
at_most_one (Reduce d r ks) = omega arith
at_most_one (Part k i) = omega arith
at_most_one (Split i) = omega arith
at_most_one (Copy i) = omega arith
at_most_one (Pass i j) = omega arith
at_most_one (Hear i) = omega arith
at_most_one (Say j k) = omega arith
at_most_one (Take i label) = omega arith
at_most_one (Fail i) = omega arith
at_most_one (Mark i) = omega arith
at_most_one Next = omega arith
at_most_one (Put i) = omega arith
at_most_one (Fetch i e) = omega arith
at_most_one (Miss i) = omega arith

-- a step that is counted leads to a configuration of the protocol
pub step-of_protocol : (P : Protocol) (before now : Conf) (step : Step) → IsConfigurationOf P before → after_step P (configuration_of before) step ≡ Some (configuration_of now) → now.steps ≡ before.steps + 1 → IsConfigurationOf P now
step-of_protocol P before now step h e counted = record {
  points = if_some-is (λ d. AllByRecursion (IsPointOf P) d.threads) (after_step P (configuration_of before) step) (configuration_of now) (step-kept P (configuration_of before) h.points step) e;
  names =
      let taken : now.next ≡ before.next + names_made step = numbers_are_taken P (configuration_of before) (configuration_of now) step e in
      let made : names_made step ≤ 1 = at_most_one step in let had : before.next ≤ before.steps = h.names in omega arith;
}

pub ruleset of_keeping = (step-of_protocol)
