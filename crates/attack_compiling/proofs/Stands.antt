-- Where a thread stands, and what it does there.
use Rattle.std.proofs.Common.{◌≡◌, ℕ, Bool, true, false, ◌&&◌, Option, None, Some, option_and_then, refl, sym, ap, ◌∙◌, subst}
use Rattle.std.specs.Option.{option_map_or}
use Rattle.spec_calculus.specs.Syntax.{Term, Process, Output, Protocol}
use Rattle.spec_calculus.specs.Points.{numbered, nodes}
use Rattle.spec_calculus.specs.Values.{Value, Environment, same_value, value_of}
use Rattle.spec_calculus.specs.Runs.{Thread, At, Ended, Configuration, acts, acting}
use Rattle.spec_calculus.specs.Refusals.{at_output}
use Rattle.spec_calculus.proofs.Equality.{same_value-sound, same_value-refl}
use Rattle.spec_clauses.proofs.Equality.{tests_same}
use Rattle.spec_attack_runs.specs.Walking.{at_message, offers}
use Rattle.attack_compiling.specs.Standing.{Standing, stand_at}

same-there : (v w : Value) → same_value v w ≡ true → same_value w v ≡ true
same-there v w h = subst (λ (x : Value). same_value x v ≡ true) (same_value-sound v w h) (same_value-refl v)

same_turned : (v w : Value) → same_value v w ≡ same_value w v
same_turned v w = tests_same (same_value v w) (same_value w v) (same-there v w) (same-there w v)

module _ (P : Protocol) (c : Configuration) where
  -- an action of a thread is one at where it stands
  acting_stand : {A : Type 0} (i : ℕ) (action : ℕ → Environment → Process → Option A) → acting P c i action ≡ option_and_then (λ (s : Standing). action s.0 s.1 s.2) (stand_at P c i)
  acting_stand {A} i action = at (numbered c.threads i)
    where
      node : (point : ℕ) (environment : Environment) (o : Option Process)
          → option_and_then (action point environment) o ≡ option_and_then (λ (s : Standing). action s.0 s.1 s.2) (option_and_then (λ process. Some (point, environment, process)) o)
      node point environment None = refl
      node point environment (Some process) = refl

      here : (thread : Thread) → acts P thread action ≡ option_and_then (λ (s : Standing). action s.0 s.1 s.2) (acts P thread (λ point environment process. Some (point, environment, process)))
      here (At point environment) = node point environment (numbered (nodes P.main) point)
      here Ended = refl

      at : (o : Option Thread) → option_and_then (λ thread. acts P thread action) o
          ≡ option_and_then (λ (s : Standing). action s.0 s.1 s.2) (option_and_then (λ thread. acts P thread (λ point environment process. Some (point, environment, process))) o)
      at None = refl
      at (Some thread) = here thread

  -- what a thread does at the process where it stands
  pub acting_with : {A : Type 0} (i : ℕ) (action : ℕ → Environment → Process → Option A) (s : Standing) (process : Process) → Some s ≡ stand_at P c i → s.2 ≡ process → acting P c i action ≡ action s.0 s.1 process
  acting_with i action s process e is = acting_stand i action ∙ (ap (option_and_then (λ (t : Standing). action t.0 t.1 t.2)) (sym e) ∙ ap (action s.0 s.1) is)

  -- whether it waits at an output
  pub offered : (i : ℕ) (s : Standing) (on sent : Term) (next : Process) (channel message : Value) → Some s ≡ stand_at P c i → s.2 ≡ Output on sent next
      → offers P c channel message i ≡ (same_value (value_of s.1 on) channel && same_value (value_of s.1 sent) message)
  offered i s on sent next channel message e is =
      ap (λ (o : Option Value). option_map_or (same_value channel) o false && option_map_or (same_value message) (acting P c i at_message) false) (acting_with i at_output s (Output on sent next) e is)
      ∙ (ap (λ (o : Option Value). same_value channel (value_of s.1 on) && option_map_or (same_value message) o false) (acting_with i at_message s (Output on sent next) e is)
      ∙ (ap (λ (b : Bool). b && same_value message (value_of s.1 sent)) (same_turned channel (value_of s.1 on))
      ∙ ap (λ (b : Bool). same_value (value_of s.1 on) channel && b) (same_turned message (value_of s.1 sent))))
